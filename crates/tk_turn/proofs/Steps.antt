-- Each step keeps the rule.
use Rattle.std.proofs.Common.{◌≡◌, ◌≢◌, ℕ, zero, suc, ◌+◌, ◌%◌, ◌^◌, ◌<◌, ◌≤◌, inl, inr, ⊎_elim, Bool, true, false, eqb, eq-eqb, ne_eqb, cond, List, [], ◌∷◌, ◌++◌, length, set, refl, sym, ap, ◌∙◌, subst, arith, Option, Some}
use Rattle.std.specs.Prelude.{slice_index, slice_set}
use mathlib.Core.Option.{some, none, some-ne-none, some-injective}
use mathlib.Core.Option as maybe
use mathlib.Core.Logic.{dite}
use native.Mathlib.Decide.{ℕ_discrete}
use lib.ListN.{get_elem?}
use Rattle.atomic_table.specs.Table.{State, Act, keeps, takes, gives, stepped, Valid, carried_after, Allows, opening}
use Rattle.atomic_table.proofs.Lists.{set_here, set_else, set_again, one_turn}
use Rattle.tk_turn.specs.Claims.{Note, Claim, AllOwn, whole, saw, Follows, Continues}
use Rattle.tk_turn.specs.Views.{Stage, idle, waits, turn, spent, SeatView, seat_view}
use Rattle.tk_turn.specs.Turns.{in_line, live, Book, InLine, HasRights, Fits, IsKept, Drawn, Passed, Compared, Looked, Published}
use Rattle.tk_turn.proofs.Numbers.{total_set, line_le, few, at_below}
use Rattle.tk_turn.proofs.Seats.{none_of_all, follows_more, follows_all, apart, one_turn_only, fits_set, known_set, seated_set}

-- a seat in its turn is no other seat's
pub holder_else : (views : List SeatView) (id : ℕ) (v w : SeatView) → get_elem? views id ≡ some v → ((t : ℕ) → v.stage ≢ turn t) → (i t : ℕ) (c : Claim) → get_elem? views i ≡ some (seat_view (turn t) c) → get_elem? (set views id w) i ≡ some (seat_view (turn t) c)
holder_else views id v w at never i t c e =
    let other : i ≢ id = λ same. never t (ap (λ (p : SeatView). p.stage) (some-injective v (seat_view (turn t) c) (sym at ∙ (ap (get_elem? views) (sym same) ∙ e)))) in
    set_else views id i w other ∙ e

pub idle_no_turn : (t : ℕ) → idle ≢ turn t
idle_no_turn t e = cc

pub waits_no_turn : (u t : ℕ) → waits u ≢ turn t
waits_no_turn u t e = cc

pub draw_words : (ws : List ℕ) (drawn served n : ℕ) → ws ≡ drawn % 2 ^ 64 ∷ served % 2 ^ 64 ∷ n ∷ [] → slice_set ws 0 ((slice_index ws 0 + 1) % 2 ^ 64) ≡ (drawn + 1) % 2 ^ 64 ∷ served % 2 ^ 64 ∷ n ∷ []
draw_words ws drawn served n e =
    let k : (drawn % 2 ^ 64 + 1) % 2 ^ 64 ≡ (drawn + 1) % 2 ^ 64 = omega arith in
    subst (λ (us : List ℕ). slice_set us 0 ((slice_index us 0 + 1) % 2 ^ 64) ≡ (drawn + 1) % 2 ^ 64 ∷ served % 2 ^ 64 ∷ n ∷ []) (sym e) (ap (λ (d : ℕ). d ∷ served % 2 ^ 64 ∷ n ∷ []) k)

pub same_word : (ws : List ℕ) (a b c i : ℕ) → ws ≡ a ∷ b ∷ c ∷ [] → i < 3 → slice_set ws i (slice_index ws i) ≡ ws
same_word ws a b c i e below = subst (λ (us : List ℕ). slice_set us i (slice_index us i) ≡ us) (sym e) (go i below)
  where
    go : (j : ℕ) → j < 3 → slice_set (a ∷ b ∷ c ∷ []) j (slice_index (a ∷ b ∷ c ∷ []) j) ≡ a ∷ b ∷ c ∷ []
    go zero h = refl
    go (suc zero) h = refl
    go (suc (suc zero)) h = refl
    go (suc (suc (suc j))) h = absurd (omega arith)

rights_saw : (b : Book) (j : ℕ) (c : Claim) (x : List Note) (g : Bool) → HasRights b j c g → HasRights b j (saw c x) g
rights_saw b j c x true f = f
rights_saw b j c x false f = f

rights_log : (b : Book) (log : List Note) (j : ℕ) (c : Claim) (g : Bool) → HasRights b j c g → HasRights (record { served = b.served; drawn = b.drawn; queue = b.queue; seats = b.seats; first_pass = b.first_pass; lent = b.lent; log = log }) j c g
rights_log b log j c true f = f
rights_log b log j c false f = f

rights_served : (b : Book) (j : ℕ) (c : Claim) (g : Bool) → HasRights b j c g → HasRights (record { served = b.served + 1; drawn = b.drawn; queue = b.queue; seats = b.seats; first_pass = b.first_pass; lent = b.lent; log = b.log }) j c g
rights_served b j c true f = f
rights_served b j c false f = f

pub one_value : {S : Type 0} (x y : S) → ◌≡◌ {A = List (ℕ × Option S)} ((0, Some x) ∷ []) ((0, Some y) ∷ []) → x ≡ y
one_value {S = S} x y e =
    let p : ◌≡◌ {A = ℕ × Option S} (0, Some x) (0, Some y) = cc in
    let q : Some x ≡ Some y = ap (λ (z : ℕ × Option S). z.1) p in
    cc

module _ {S : Type 0} (journal : S → List Note) where
  pub opens : (x : S) (n : ℕ) → n ≡ length (journal x) → IsKept journal (opening (0 ∷ 0 ∷ n ∷ []) (Some x ∷ []) (seat_view idle (whole (journal x))))
  opens x n e = let b : Book = record { served = 0; drawn = 0; queue = λ _. 0; seats = λ _. 0; first_pass = 0; lent = []; log = journal x } in record {
    book = b;
    words = ap (λ (k : ℕ). 0 ∷ 0 ∷ k ∷ []) e;
    waiting = refl;
    living = refl;
    distinct = tt;
    below = λ q h. absurd (cc);
    fits = one b refl;
    placed = inl (x, refl, refl);
    known = (0, seat_view idle (whole (journal x)), refl, tt, refl);
    present = (0, (seat_view idle (whole (journal x)), refl, tt, refl, refl));
    seated = λ q h. absurd (cc);
  }
    where
      one : (b : Book) → b ≡ record { served = 0; drawn = 0; queue = λ _. 0; seats = λ _. 0; first_pass = 0; lent = []; log = journal x } → (i : ℕ) (p : SeatView) → get_elem? (seat_view idle (whole (journal x)) ∷ []) i ≡ some p → Fits b (some (Some x) ∷ []) i p
      one b is zero p h = subst (Fits b (some (Some x) ∷ []) 0) (some-injective (seat_view idle (whole (journal x))) p h) (subst (λ (d : Book). Fits d (some (Some x) ∷ []) 0 (seat_view idle (whole (journal x)))) (sym is) (record { line = tt; sees = λ _. follows_all (whole (journal x)) (journal x) refl; rights = λ _. (refl, refl); joins = tt }))
      one b is (suc i) p h = absurd (some-ne-none p (sym h))

  pub draws : (id : ℕ) (c : Claim) → Allows (IsKept journal) 1 id (seat_view idle c, []) 0 (λ n. (n + 1) % 2 ^ 64) (Drawn (seat_view idle c, []))
  draws id c s h len at fit =
      let b = h.book in
      let b' : Book = record { served = b.served; drawn = b.drawn + 1; queue = λ k. cond (eqb k b.drawn) id (b.queue k); seats = b.seats; first_pass = b.first_pass; lent = b.lent; log = b.log } in
      let w = seat_view (waits b.drawn) c in
      let mine = h.fits id (seat_view idle c) at in
      let m = total_set in_line s.views id (seat_view idle c) w at in
      let l = total_set live s.views id (seat_view idle c) w at in
      let waiting = h.waiting in
      let living = h.living in
      let le : b.served ≤ b.drawn = omega arith in
      let lt : b.drawn < b.drawn + 1 = omega arith in (
        w,
        keeps,
        tt,
        record {
          book = b';
          words = draw_words s.words b.drawn b.served (length b.log) h.words;
          waiting = omega arith;
          living = omega arith;
          distinct = h.distinct;
          below = h.below;
          fits = fits_set b' s.homes s.views id w
              (λ j p n e. let f = h.fits j p e in record { line = line_drawn b id s.homes j p.claim p.stage f.line; sees = f.sees; rights = λ v. rights_drawn b id j p.claim p.claim.first (f.rights v); joins = f.joins })
              (record { line = (le, lt, ap (λ (z : Bool). cond z id (b.queue b.drawn)) (eq-eqb b.drawn b.drawn refl)); sees = λ _. mine.sees tt; rights = λ _. rights_drawn b id id c c.first (mine.rights tt); joins = tt });
          placed = ⊎_elim (λ (k : (x : S) × (s.homes ≡ some (Some x) ∷ []) × (journal x ≡ b.log)). inl k) (λ (k : (i t : ℕ) × (d : Claim) × (get_elem? s.views i ≡ some (seat_view (turn t) d))). inr (k.0, k.1, k.2, holder_else s.views id (seat_view idle c) w at idle_no_turn k.0 k.1 k.2 k.3)) h.placed;
          known = known_set s.views b.log id (seat_view idle c) w at tt (λ e. e) h.known;
          present = (h.present.0, seated_set s.views id (seat_view idle c) w at tt refl refl b.first_pass true h.present.0 h.present.1);
          seated = λ q e. seated_set s.views id (seat_view idle c) w at tt refl refl (b.seats q) false q (h.seated q e);
        },
        (b.drawn, ap (λ (ws : List ℕ). slice_index ws 0) h.words, refl),
      )
    where
      line_drawn : (b : Book) (id : ℕ) (homes : List (maybe.Option (Option S))) (j : ℕ) (d : Claim) (g : Stage) → InLine b homes j d g → InLine (record { served = b.served; drawn = b.drawn + 1; queue = λ k. cond (eqb k b.drawn) id (b.queue k); seats = b.seats; first_pass = b.first_pass; lent = b.lent; log = b.log }) homes j d g
      line_drawn b id homes j d idle f = tt
      line_drawn b id homes j d (waits t) f = let a = f.0 in let z = f.1 in let ne : t ≢ b.drawn = λ e. omega arith in (a, omega arith, ap (λ (y : Bool). cond y id (b.queue t)) (ne_eqb t b.drawn ne) ∙ f.2)
      line_drawn b id homes j d (turn t) f = let a = f.0 in let z = f.1 in let ne : t ≢ b.drawn = λ e. omega arith in (a, omega arith, ap (λ (y : Bool). cond y id (b.queue t)) (ne_eqb t b.drawn ne) ∙ f.2, f.3, f.4)
      line_drawn b id homes j d spent f = tt

      rights_drawn : (b : Book) (id j : ℕ) (d : Claim) (g : Bool) → HasRights b j d g → HasRights (record { served = b.served; drawn = b.drawn + 1; queue = λ k. cond (eqb k b.drawn) id (b.queue k); seats = b.seats; first_pass = b.first_pass; lent = b.lent; log = b.log }) j d g
      rights_drawn b id j d true f = f
      rights_drawn b id j d false f = f

  -- the number of seats in line is small, so a ticket that looks served is
  served_now : (s : State (Option S) SeatView) (h : IsKept journal s) (t : ℕ) → h.book.served ≤ t → t < h.book.drawn → h.book.served % 2 ^ 64 ≡ t % 2 ^ 64 → h.book.served ≡ t
  served_now s h t a b same =
      let waiting = h.waiting in
      let living = h.living in
      let l = line_le s.views in
      let k = few h.book.lent (2 ^ 32) h.distinct h.below in
      one_turn h.book.served t (2 ^ 64) a (omega arith) same

  abbrev Look : State (Option S) SeatView → ℕ → ℕ → Claim → Type 0
  Look s id t c = (w : SeatView) × (a : Act (Option S)) × Valid s.homes [] a × IsKept journal (stepped s 1 (slice_index s.words 1) id [] w a) × Looked journal (seat_view (waits t) c, []) (slice_index s.words 1) (w, carried_after [] a)

  line_out : (b : Book) (hs ks : List (maybe.Option (Option S))) → ks ≡ none ∷ [] → (j : ℕ) (d : Claim) (g : Stage) → InLine b hs j d g → InLine b ks j d g
  line_out b hs ks out j d idle f = tt
  line_out b hs ks out j d (waits u) f = f
  line_out b hs ks out j d (turn u) f = (f.0, f.1, f.2, f.3, out)
  line_out b hs ks out j d spent f = tt

  look_hit : (s : State (Option S) SeatView) (h : IsKept journal s) (id t : ℕ) (c : Claim) → get_elem? s.views id ≡ some (seat_view (waits t) c) → slice_index s.words 1 ≡ t % 2 ^ 64 → Look s id t c
  look_hit s h id t c at e =
      let b = h.book in
      let mine = h.fits id (seat_view (waits t) c) at in
      let now = served_now s h t mine.line.0 mine.line.1 (sym (ap (λ (ws : List ℕ). slice_index ws 1) h.words) ∙ e) in
      ⊎_elim
      (λ (k : (x : S) × (s.homes ≡ some (Some x) ∷ []) × (journal x ≡ b.log)).
      let x = k.0 in
      let w = seat_view (turn t) (saw c (journal x)) in
      let out : slice_set s.homes 0 none ≡ none ∷ [] = ap (λ (hs : List (maybe.Option (Option S))). slice_set hs 0 none) k.1 in
      let m = total_set in_line s.views id (seat_view (waits t) c) w at in
      let l = total_set live s.views id (seat_view (waits t) c) w at in
      let waiting = h.waiting in
      let living = h.living in
      let there = set_here s.views id w (at_below s.views id (seat_view (waits t) c) at) in (
        w,
        takes 0 (Some x),
        ap (λ (hs : List (maybe.Option (Option S))). get_elem? hs 0) k.1,
        record {
          book = b;
          words = same_word s.words (b.drawn % 2 ^ 64) (b.served % 2 ^ 64) (length b.log) 1 h.words (omega arith) ∙ h.words;
          waiting = omega arith;
          living = omega arith;
          distinct = h.distinct;
          below = h.below;
          fits = fits_set b (slice_set s.homes 0 none) s.views id w
              (λ j p n g. let f = h.fits j p g in record { line = line_out b s.homes (slice_set s.homes 0 none) out j p.claim p.stage f.line; sees = f.sees; rights = f.rights; joins = f.joins })
              (record { line = (now, mine.line.1, mine.line.2, k.2, out); sees = λ _. follows_all (saw c (journal x)) b.log k.2; rights = λ _. rights_saw b id c (journal x) c.first (mine.rights tt); joins = tt });
          placed = inr (id, t, saw c (journal x), there);
          known = (id, w, there, tt, k.2);
          present = (h.present.0, seated_set s.views id (seat_view (waits t) c) w at tt refl refl b.first_pass true h.present.0 h.present.1);
          seated = λ q e. seated_set s.views id (seat_view (waits t) c) w at tt refl refl (b.seats q) false q (h.seated q e);
        },
        ((λ _. (x, refl, subst (Follows c) (sym k.2) (mine.sees tt))), λ ne. absurd (ne e)),
      ))
      (λ (k : (i u : ℕ) × (d : Claim) × (get_elem? s.views i ≡ some (seat_view (turn u) d))).
      let theirs = h.fits k.0 (seat_view (turn k.1) k.2) k.3 in
      let same : id ≡ k.0 = sym mine.line.2 ∙ (ap b.queue (sym now ∙ theirs.line.0) ∙ theirs.line.2) in
      absurd (waits_no_turn t k.1 (ap (λ (p : SeatView). p.stage) (some-injective (seat_view (waits t) c) (seat_view (turn k.1) k.2) (sym at ∙ (ap (get_elem? s.views) same ∙ k.3))))))
      h.placed

  look_miss : (s : State (Option S) SeatView) (h : IsKept journal s) (id t : ℕ) (c : Claim) → get_elem? s.views id ≡ some (seat_view (waits t) c) → slice_index s.words 1 ≢ t % 2 ^ 64 → Look s id t c
  look_miss s h id t c at ne =
      let b = h.book in
      let same : s ≡ stepped s 1 (slice_index s.words 1) id [] (seat_view (waits t) c) keeps =
      λ i. record { words = sym (same_word s.words (b.drawn % 2 ^ 64) (b.served % 2 ^ 64) (length b.log) 1 h.words (omega arith)) i; homes = s.homes; views = sym (set_again s.views id (seat_view (waits t) c) at) i } in
      (seat_view (waits t) c, keeps, tt, subst (IsKept journal) same h, ((λ e. absurd (ne e)), λ _. refl))

  pub looks : (id t : ℕ) (c : Claim) → Allows (IsKept journal) 1 id (seat_view (waits t) c, []) 1 (λ n. n) (Looked journal (seat_view (waits t) c, []))
  looks id t c s h len at fit = dite (ℕ_discrete (slice_index s.words 1) (t % 2 ^ 64)) (look_hit s h id t c at) (look_miss s h id t c at)

  -- the seat is told how the list follows the claims that it joined
  pub compares : (id : ℕ) (c : Claim) (l : List Claim) (v : SeatView) → v ≡ record { stage = idle; claim = c; sources = l } → Allows (IsKept journal) 1 id (v, []) 0 (λ n. n) (Compared (v, []))
  compares id c l v is s h len at fit =
      let b = h.book in
      let v' : SeatView = record { stage = idle; claim = c; sources = l } in
      let at' : get_elem? s.views id ≡ some v' = at ∙ ap (λ (p : SeatView). some p) is in
      let w = seat_view idle c in
      let mine = h.fits id v' at' in
      let m = total_set in_line s.views id v' w at' in
      let k = total_set live s.views id v' w at' in
      let waiting = h.waiting in
      let living = h.living in (
        w,
        keeps,
        tt,
        record {
          book = b;
          words = same_word s.words (b.drawn % 2 ^ 64) (b.served % 2 ^ 64) (length b.log) 0 h.words (omega arith) ∙ h.words;
          waiting = omega arith;
          living = omega arith;
          distinct = h.distinct;
          below = h.below;
          fits = fits_set b s.homes s.views id w (λ j p n g. h.fits j p g) (record { line = tt; sees = λ _. mine.sees tt; rights = λ _. mine.rights tt; joins = tt });
          placed = ⊎_elim (λ (z : (x : S) × (s.homes ≡ some (Some x) ∷ []) × (journal x ≡ b.log)). inl z) (λ (z : (i t : ℕ) × (d : Claim) × (get_elem? s.views i ≡ some (seat_view (turn t) d))). inr (z.0, z.1, z.2, holder_else s.views id v' w at' idle_no_turn z.0 z.1 z.2 z.3)) h.placed;
          known = known_set s.views b.log id v' w at' tt (λ e. e) h.known;
          present = (h.present.0, seated_set s.views id v' w at' tt refl refl b.first_pass true h.present.0 h.present.1);
          seated = λ q e. seated_set s.views id v' w at' tt refl refl (b.seats q) false q (h.seated q e);
        },
        (subst (λ (p : SeatView). Compared {S = S} (p, []) (slice_index s.words 0) (w, [])) (sym is) (refl, mine.joins)),
      )

  -- the holder's new entries stand at the end of the journal
  published_others : (b : Book) (homes : List (maybe.Option (Option S))) (id t : ℕ) (c : Claim) (log : List Note) (j : ℕ) (p : SeatView) → InLine b homes id c (turn t) → HasRights b id c c.first → (new : List Note) → log ≡ b.log ++ new → AllOwn c new → j ≢ id → Fits b homes j p
      → Fits (record { served = b.served; drawn = b.drawn; queue = b.queue; seats = b.seats; first_pass = b.first_pass; lent = b.lent; log = log }) homes j p
  published_others b homes id t c log j p mine book_rights new is all other f = record {
    line = line_on p.claim p.stage f.line;
    sees = λ v. subst (Follows p.claim) (sym is) (follows_more p.claim b.log new (f.sees v) (none_of_all c p.claim (apart b id j (λ e. other (sym e)) c p.claim c.first p.claim.first book_rights (f.rights v)) new all));
    rights = λ v. rights_on p.claim p.claim.first (f.rights v);
    joins = f.joins;
  }
    where
      line_on : (d : Claim) (g : Stage) → InLine b homes j d g → InLine (record { served = b.served; drawn = b.drawn; queue = b.queue; seats = b.seats; first_pass = b.first_pass; lent = b.lent; log = log }) homes j d g
      line_on d idle k = tt
      line_on d (waits u) k = k
      line_on d (turn u) k = absurd (other (one_turn_only b homes homes j id u t d c k mine))
      line_on d spent k = tt

      rights_on : (d : Claim) (g : Bool) → HasRights b j d g → HasRights (record { served = b.served; drawn = b.drawn; queue = b.queue; seats = b.seats; first_pass = b.first_pass; lent = b.lent; log = log }) j d g
      rights_on d true k = k
      rights_on d false k = k

  pub publishes : (id t : ℕ) (c : Claim) (x : S) (n : ℕ) → n ≡ length (journal x) → Continues c (journal x)
      → Allows (IsKept journal) 1 id (seat_view (turn t) c, (0, Some x) ∷ []) 2 (λ _. n) (λ _. Published journal (seat_view (turn t) c, (0, Some x) ∷ []) n)
  publishes id t c x n len_is more s h len at fit =
      let b = h.book in
      let log = journal x in
      let b' : Book = record { served = b.served; drawn = b.drawn; queue = b.queue; seats = b.seats; first_pass = b.first_pass; lent = b.lent; log = log } in
      let w = seat_view (turn t) (saw c log) in
      let mine = h.fits id (seat_view (turn t) c) at in
      let grows : log ≡ b.log ++ more.0 = more.1 ∙ ap (λ (l : List Note). l ++ more.0) mine.line.3 in
      let m = total_set in_line s.views id (seat_view (turn t) c) w at in
      let k = total_set live s.views id (seat_view (turn t) c) w at in
      let waiting = h.waiting in
      let living = h.living in
      let there = set_here s.views id w (at_below s.views id (seat_view (turn t) c) at) in (
        w,
        keeps,
        tt,
        record {
          book = b';
          words = subst (λ (us : List ℕ). slice_set us 2 n ≡ b.drawn % 2 ^ 64 ∷ b.served % 2 ^ 64 ∷ length log ∷ []) (sym h.words) (ap (λ (z : ℕ). b.drawn % 2 ^ 64 ∷ b.served % 2 ^ 64 ∷ z ∷ []) len_is);
          waiting = omega arith;
          living = omega arith;
          distinct = h.distinct;
          below = h.below;
          fits = fits_set b' s.homes s.views id w (λ j p other g. published_others b s.homes id t c log j p mine.line (mine.rights tt) more.0 grows more.2 other (h.fits j p g))
              (record { line = (mine.line.0, mine.line.1, mine.line.2, refl, mine.line.4); sees = λ _. follows_all (saw c log) log refl; rights = λ _. rights_saw b' id c log c.first (rights_log b log id c c.first (mine.rights tt)); joins = tt });
          placed = inr (id, t, saw c log, there);
          known = (id, w, there, tt, refl);
          present = (h.present.0, seated_set s.views id (seat_view (turn t) c) w at tt refl refl b.first_pass true h.present.0 h.present.1);
          seated = λ q e. seated_set s.views id (seat_view (turn t) c) w at tt refl refl (b.seats q) false q (h.seated q e);
        },
        (λ (y : S) (e : ◌≡◌ {A = List (ℕ × Option S)} ((0, Some x) ∷ []) ((0, Some y) ∷ [])). let same = one_value x y e in λ i. (seat_view (turn t) (saw c (journal (same i))), (0, Some x) ∷ [])),
      )

  -- where a seat's turn ended, no other has it
  passed_others : (b : Book) (homes hs : List (maybe.Option (Option S))) (id t : ℕ) (c : Claim) (j : ℕ) (p : SeatView) → InLine b homes id c (turn t) → j ≢ id → Fits b homes j p
      → Fits (record { served = b.served + 1; drawn = b.drawn; queue = b.queue; seats = b.seats; first_pass = b.first_pass; lent = b.lent; log = b.log }) hs j p
  passed_others b homes hs id t c j p mine other f = record { line = line_on p.claim p.stage f.line; sees = f.sees; rights = λ v. rights_on p.claim p.claim.first (f.rights v); joins = f.joins }
    where
      line_on : (d : Claim) (g : Stage) → InLine b homes j d g → InLine (record { served = b.served + 1; drawn = b.drawn; queue = b.queue; seats = b.seats; first_pass = b.first_pass; lent = b.lent; log = b.log }) hs j d g
      line_on d idle k = tt
      line_on d (waits u) k =
          let a = k.0 in
          let ne : b.served ≢ u = λ e. other (sym k.2 ∙ (ap b.queue (sym e ∙ mine.0) ∙ mine.2)) in
          (omega arith, k.1, k.2)
      line_on d (turn u) k = absurd (other (one_turn_only b homes homes j id u t d c k mine))
      line_on d spent k = tt

      rights_on : (d : Claim) (g : Bool) → HasRights b j d g → HasRights (record { served = b.served + 1; drawn = b.drawn; queue = b.queue; seats = b.seats; first_pass = b.first_pass; lent = b.lent; log = b.log }) j d g
      rights_on d true k = k
      rights_on d false k = k

  pub passes_on : (id t : ℕ) (c : Claim) (x : S) (n : ℕ) → n ≡ (t % 2 ^ 64 + 1) % 2 ^ 64 → c.seen ≡ journal x
      → Allows (IsKept journal) 1 id (seat_view (turn t) c, (0, Some x) ∷ []) 1 (λ _. n) (λ _. Passed (seat_view (turn t) c, (0, Some x) ∷ []) n)
  passes_on id t c x n is seen s h len at fit =
      let b = h.book in
      let w = seat_view idle c in
      let mine = h.fits id (seat_view (turn t) c) at in
      let first : b.served ≡ t = mine.line.0 in
      let next : n ≡ (b.served + 1) % 2 ^ 64 = omega arith in
      let m = total_set in_line s.views id (seat_view (turn t) c) w at in
      let k = total_set live s.views id (seat_view (turn t) c) w at in
      let waiting = h.waiting in
      let living = h.living in (
        w,
        gives,
        tt,
        record {
          book = record { served = b.served + 1; drawn = b.drawn; queue = b.queue; seats = b.seats; first_pass = b.first_pass; lent = b.lent; log = b.log };
          words = subst (λ (us : List ℕ). slice_set us 1 n ≡ b.drawn % 2 ^ 64 ∷ (b.served + 1) % 2 ^ 64 ∷ length b.log ∷ []) (sym h.words) (ap (λ (z : ℕ). b.drawn % 2 ^ 64 ∷ z ∷ length b.log ∷ []) next);
          waiting = omega arith;
          living = omega arith;
          distinct = h.distinct;
          below = h.below;
          fits = fits_set (record { served = b.served + 1; drawn = b.drawn; queue = b.queue; seats = b.seats; first_pass = b.first_pass; lent = b.lent; log = b.log }) (slice_set s.homes 0 (some (Some x))) s.views id w
              (λ j p other g. passed_others b s.homes (slice_set s.homes 0 (some (Some x))) id t c j p mine.line other (h.fits j p g))
              (record { line = tt; sees = mine.sees; rights = λ _. rights_served b id c c.first (mine.rights tt); joins = tt });
          placed = inl (x, ap (λ (hs : List (maybe.Option (Option S))). slice_set hs 0 (some (Some x))) mine.line.4, sym seen ∙ mine.line.3);
          known = known_set s.views b.log id (seat_view (turn t) c) w at tt (λ e. e) h.known;
          present = (h.present.0, seated_set s.views id (seat_view (turn t) c) w at tt refl refl b.first_pass true h.present.0 h.present.1);
          seated = λ q e. seated_set s.views id (seat_view (turn t) c) w at tt refl refl (b.seats q) false q (h.seated q e);
        },
        refl,
      )
