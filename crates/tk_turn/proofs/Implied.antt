-- What the steps keep implies the rule.
use Rattle.std.proofs.Common.{◌≡◌, ℕ, ◌+◌, ◌-◌, ◌%◌, ◌^◌, ◌<◌, ◌≤◌, inl, inr, true, false, eqb, List, [], ◌∷◌, refl, sym, ap, ◌∙◌, subst, arith, Option, Some}
use Rattle.std.specs.Prelude.{slice_index}
use Rattle.std.specs.List.{list_any}
use mathlib.Core.Option.{some, none, some-ne-none, some-injective}
use mathlib.Core.Option as maybe
use mathlib.Core.Logic.{dite}
use native.Mathlib.Decide.{dec_le}
use Rattle.atomic_table.specs.Table.{State}
use Rattle.atomic_table.proofs.Lists.{one_turn}
use Rattle.tk_turn.specs.Claims.{Note, Claim}
use Rattle.tk_turn.specs.Views.{Stage, idle, waits, turn, spent, SeatView, seat_view}
use Rattle.tk_turn.specs.Turns.{total, in_line, live, IsLive, InLine, HasRights, IsSeated, IsPlaced, IsKept}
use Rattle.tk_turn.specs.Rule.{HasTicket, HasTurnNow, HasView, TurnRule}
use Rattle.tk_turn.proofs.Numbers.{line_le, few}
use Rattle.tk_turn.proofs.Seats.{begins_follows}

one_home : {S : Type 0} (x y : S) → ◌≡◌ {A = List (maybe.Option (Option S))} (some (Some x) ∷ []) (some (Some y) ∷ []) → Some x ≡ Some y
one_home {S = S} x y e = let k : ◌≡◌ {A = maybe.Option (Option S)} (some (Some x)) (some (Some y)) = cc in some-injective (Some x) (Some y) k

no_home : {S : Type 0} (x : S) → ◌≡◌ {A = List (maybe.Option (Option S))} (none ∷ []) (some (Some x) ∷ []) → ⊥
no_home {S = S} x e = let k : ◌≡◌ {A = maybe.Option (Option S)} none (some (Some x)) = cc in some-ne-none (Some x) (sym k)

module _ {S : Type 0} (journal : S → List Note) (s : State (Option S) SeatView) (h : IsKept journal s) where
  -- a ticket in line, and who has it
  ticket_fits : (i t : ℕ) (c : Claim) (g : Stage) → InLine h.book s.homes i c g → HasTicket g t → (h.book.served ≤ t) × (t < h.book.drawn) × (h.book.queue t ≡ i)
  ticket_fits i t c idle f k = absurd k
  ticket_fits i t c (waits u) f k = subst (λ (v : ℕ). (h.book.served ≤ v) × (v < h.book.drawn) × (h.book.queue v ≡ i)) k f
  ticket_fits i t c (turn u) f k = let now = f.0 in subst (λ (v : ℕ). (h.book.served ≤ v) × (v < h.book.drawn) × (h.book.queue v ≡ i)) k (omega arith, f.1, f.2)
  ticket_fits i t c spent f k = absurd k

  ticket_of : (i t : ℕ) (p : SeatView) → HasView s i p → HasTicket p.stage t → (h.book.served ≤ t) × (t < h.book.drawn) × (h.book.queue t ≡ i)
  ticket_of i t p at k = ticket_fits i t p.claim p.stage (h.fits i p at).line k

  has_turn : (i t : ℕ) (p : SeatView) → HasView s i p → p.stage ≡ turn t → InLine h.book s.homes i p.claim (turn t)
  has_turn i t p at is = subst (InLine h.book s.homes i p.claim) is (h.fits i p at).line

  -- how many seats there can be
  bounded : (h.book.served + total in_line s.views ≡ h.book.drawn) × (total in_line s.views ≤ total live s.views) × (total live s.views ≤ 2 ^ 32 + 1)
  bounded =
      let living = h.living in
      let k = few h.book.lent (2 ^ 32) h.distinct h.below in
      (h.waiting, line_le s.views, omega arith)

  one_ticket : (t u : ℕ) → h.book.served ≤ t → t < h.book.drawn → h.book.served ≤ u → u < h.book.drawn → t % 2 ^ 64 ≡ u % 2 ^ 64 → t ≡ u
  one_ticket t u a b c d e = let k = bounded in let k0 = k.0 in let k1 = k.1 in let k2 = k.2 in
      dite (dec_le t u) (λ le. one_turn t u (2 ^ 64) le (omega arith) e) (λ gt. sym (one_turn u t (2 ^ 64) (omega arith) (omega arith) (sym e)))

  -- the words, one by one
  word_0 : slice_index s.words 0 ≡ h.book.drawn % 2 ^ 64
  word_0 = ap (λ (ws : List ℕ). slice_index ws 0) h.words

  word_1 : slice_index s.words 1 ≡ h.book.served % 2 ^ 64
  word_1 = ap (λ (ws : List ℕ). slice_index ws 1) h.words

  plain_seat : (i n : ℕ) → IsSeated s.views i false n → (h.book.seats n ≡ i) × (list_any (eqb n) h.book.lent ≡ true)
  plain_seat i n t =
      let r = subst (HasRights h.book i t.0.claim) t.3 ((h.fits i t.0 t.1).rights t.2) in
      subst (λ (o : ℕ). (h.book.seats o ≡ i) × (list_any (eqb o) h.book.lent ≡ true)) t.4 r

  first_seat : (j : ℕ) (q : SeatView) → HasView s j q → IsLive q.stage → q.claim.first ≡ true → (j ≡ h.book.first_pass) × (q.claim.lent ≡ h.book.lent)
  first_seat j q at v is = subst (HasRights h.book j q.claim) is ((h.fits j q at).rights v)

  pub has_its_parts : TurnRule journal s
  has_its_parts =
      let b = h.book in
      let k = bounded in
      let k0 = k.0 in
      let is_first = h.present.1 in
      let mine = first_seat b.first_pass is_first.0 is_first.1 is_first.2 is_first.3 in
      record {
        log = b.log;
        counts = let w0 = word_0 in let w1 = word_1 in omega arith;
        few = k.2;
        differ = λ i j t u p q at at' has has' e.
            let a = ticket_of i t p at has in
            let c = ticket_of j u q at' has' in
            sym a.2 ∙ (ap b.queue (one_ticket t u a.0 a.1 c.0 c.1 e) ∙ c.2);
        near = λ i t p at has. let a = ticket_of i t p at has in let a0 = a.0 in let a1 = a.1 in let w1 = word_1 in (t - b.served, omega arith, omega arith);
        served = λ i t p at is. let now = (has_turn i t p at is).0 in ap (λ (v : ℕ). v % 2 ^ 64) (sym now) ∙ sym word_1;
        longest = h.known;
        prefixes = λ i p at v. begins_follows p.claim b.log ((h.fits i p at).sees v);
        counted = ap (λ (ws : List ℕ). slice_index ws 2) h.words;
        home = λ x e. at_home x e h.placed;
        holder = λ i t p at is. let f = has_turn i t p at is in (f.3, f.4);
        only = λ i j t u p q at at' is is'. let f = has_turn i t p at is in let g = has_turn j u q at' is' in sym f.2 ∙ (ap b.queue (sym f.0 ∙ g.0) ∙ g.2);
        out = λ e. in_hand e h.placed;
        first = (b.first_pass, is_first.0, is_first.1, is_first.2, is_first.3, (λ j q at v is. (first_seat j q at v is).0), (λ n e. (b.seats n, h.seated n (ap (λ (l : List ℕ). list_any (eqb n) l) (sym mine.1) ∙ e))), λ j n t. ap (λ (l : List ℕ). list_any (eqb n) l) mine.1 ∙ (plain_seat j n t).1);
        numbers = λ i j n t u. sym (plain_seat i n t).0 ∙ (plain_seat j n u).0;
        small = λ i n t. h.below n (plain_seat i n t).1;
        others = λ i p at v. (h.fits i p at).sees v;
      }
    where
      at_home : (x : S) → s.homes ≡ some (Some x) ∷ [] → IsPlaced journal h.book s → journal x ≡ h.book.log
      at_home x e (inl z) = let same : Some z.0 ≡ Some x = one_home z.0 x (sym z.1 ∙ e) in let k : z.0 ≡ x = cc in ap journal (sym k) ∙ z.2
      at_home x e (inr z) = absurd (no_home x (sym (has_turn z.0 z.1 (seat_view (turn z.1) z.2) z.3 refl).4 ∙ e))

      in_hand : s.homes ≡ none ∷ [] → IsPlaced journal h.book s → (i : ℕ) × (p : SeatView) × HasView s i p × HasTurnNow p.stage
      in_hand e (inl z) = absurd (no_home z.0 (sym e ∙ z.1))
      in_hand e (inr z) = (z.0, seat_view (turn z.1) z.2, z.3, tt)
