-- A pass that is cut in two, two that are made one, and the end.
use Rattle.std.proofs.Common.{◌≡◌, ◌≢◌, ℕ, ◌^◌, ◌<◌, ◌⊎◌, inl, inr, ⊎_elim, Bool, true, false, eqb, eqb-true, eq-eqb, ne_eqb, cond, List, [], ◌∷◌, ◌++◌, length, set, refl, sym, ap, ◌∙◌, subst, arith, Option, Some}
use Rattle.std.specs.Prelude.{◌||◌, ◌&&◌, not}
use Rattle.std.specs.List.{list_any}
use mathlib.Core.Option.{some, none, some-ne-none, some-injective}
use mathlib.Core.Option as maybe
use mathlib.Core.Logic.{dite}
use native.Mathlib.Decide.{ℕ_discrete}
use lib.ListN.{get_elem?}
use Rattle.std.proofs.lemmas.Bool.{false≢true}
use Rattle.atomic_table.specs.Table.{State, Splits, Joins, Final, Seen}
use Rattle.atomic_table.proofs.Lists.{at_set, set_here, set_else, at_longer, at_last}
use Rattle.tk_turn.specs.Claims.{Note, Claim, owns, owns_by, alone, lends, joined, without, Follows}
use Rattle.tk_turn.specs.Views.{merged, nobody, Stage, idle, waits, turn, spent, SeatView, seat_view}
use Rattle.tk_turn.specs.Turns.{IsSeated, in_line, live, IsLive, Book, InLine, HasRights, Fits, SomeSawAll, IsKept}
use Rattle.tk_turn.proofs.Numbers.{total_set, total_snoc, at_end, at_below, or_right, or_true, not_true, true_not, among_first, test_same, without_among, without_keeps, without_less, without_distinct, without_gone}
use Rattle.tk_turn.proofs.Seats.{seated_set, follows_less, follows_longer, begins_follows, fits_set, known_set, longer_first, longer_second, longer_follows}
use Rattle.tk_turn.proofs.Steps.{holder_else, idle_no_turn}

abbrev lent_to : Book → ℕ → ℕ → Book
lent_to b o seat = record { served = b.served; drawn = b.drawn; queue = b.queue; seats = λ k. cond (eqb k o) seat (b.seats k); first_pass = b.first_pass; lent = o ∷ b.lent; log = b.log }

abbrev back_from : Book → ℕ → Book
back_from b o = record { served = b.served; drawn = b.drawn; queue = b.queue; seats = b.seats; first_pass = b.first_pass; lent = without o b.lent; log = b.log }

line_lent : {S : Type 0} (b : Book) (o seat : ℕ) (homes : List (maybe.Option (Option S))) (j : ℕ) (d : Claim) (g : Stage) → InLine b homes j d g → InLine (lent_to b o seat) homes j d g
line_lent b o seat homes j d idle f = tt
line_lent b o seat homes j d (waits t) f = f
line_lent b o seat homes j d (turn t) f = f
line_lent b o seat homes j d spent f = tt

line_back : {S : Type 0} (b : Book) (o : ℕ) (homes : List (maybe.Option (Option S))) (j : ℕ) (d : Claim) (g : Stage) → InLine b homes j d g → InLine (back_from b o) homes j d g
line_back b o homes j d idle f = tt
line_back b o homes j d (waits t) f = f
line_back b o homes j d (turn t) f = f
line_back b o homes j d spent f = tt

rights_lent : (b : Book) (o seat j : ℕ) (d : Claim) (g : Bool) → list_any (eqb o) b.lent ≡ false → j ≢ b.first_pass → HasRights b j d g → HasRights (lent_to b o seat) j d g
rights_lent b o seat j d true free other r = absurd (other r.0)
rights_lent b o seat j d false free other r =
    let ne : d.owner ≢ o = λ e. false≢true (sym free ∙ (ap (λ (k : ℕ). list_any (eqb k) b.lent) (sym e) ∙ r.1)) in
    (ap (λ (z : Bool). cond z seat (b.seats d.owner)) (ne_eqb d.owner o ne) ∙ r.0, or_right (eqb d.owner o) (list_any (eqb d.owner) b.lent) r.1)

rights_back : (b : Book) (o j : ℕ) (d : Claim) (g : Bool) → j ≢ b.seats o → j ≢ b.first_pass → HasRights b j d g → HasRights (back_from b o) j d g
rights_back b o j d true apart other r = absurd (other r.0)
rights_back b o j d false apart other r = (r.0, without_keeps o d.owner b.lent (λ e. apart (sym r.0 ∙ ap b.seats e)) r.1)

-- who lends owns no more than before
lends_less : (g : Bool) (lent : List ℕ) (owner o x : ℕ) → owns_by g (o ∷ lent) owner x ≡ true → owns_by g lent owner x ≡ true
lends_less true lent owner o x e = not_any (list_any (eqb x) lent) (eqb x o) (true_not (eqb x o || list_any (eqb x) lent) e)
  where
    not_any : (a b : Bool) → (b || a) ≡ false → not a ≡ true
    not_any a true k = absurd (false≢true (sym k))
    not_any true false k = absurd (false≢true (sym k))
    not_any false false k = refl
lends_less false lent owner o x e = e

-- and just that number
pub lends_owns : (g : Bool) (lent : List ℕ) (owner o x : ℕ) → g ≡ true → owns_by g (o ∷ lent) owner x ≡ (owns_by g lent owner x && not (eqb x o))
lends_owns false lent owner o x k = absurd (false≢true k)
lends_owns true lent owner o x k = both (eqb x o) (list_any (eqb x) lent)
  where
    both : (a b : Bool) → not (a || b) ≡ (not b && not a)
    both true true = refl
    both true false = refl
    both false true = refl
    both false false = refl

pub back_owns : (g : Bool) (lent : List ℕ) (owner o x : ℕ) → g ≡ true → owns_by g (without o lent) owner x ≡ (owns_by g lent owner x || eqb x o)
back_owns false lent owner o x k = absurd (false≢true k)
back_owns true lent owner o x k = dite (ℕ_discrete x o)
    (λ same. (ap (λ (y : ℕ). not (list_any (eqb y) (without o lent))) same ∙ ap not (without_gone o lent)) ∙ sym (ap (λ (t : Bool). not (list_any (eqb x) lent) || t) (eq-eqb x o same) ∙ or_right (not (list_any (eqb x) lent)) true refl))
    (λ ne. kept ne (list_any (eqb x) (without o lent)) refl (list_any (eqb x) lent) refl ∙ sym (ap (λ (t : Bool). not (list_any (eqb x) lent) || t) (ne_eqb x o ne)))
  where
    kept : x ≢ o → (a : Bool) → list_any (eqb x) (without o lent) ≡ a → (b : Bool) → list_any (eqb x) lent ≡ b → not a ≡ (not b || false)
    kept ne true is true was = refl
    kept ne true is false was = absurd (false≢true (sym was ∙ without_among o x lent is))
    kept ne false is true was = absurd (false≢true (sym is ∙ without_keeps o x lent ne was))
    kept ne false is false was = refl

-- who takes a number back owns what it owned, and that number
back_more : (g : Bool) (lent : List ℕ) (owner o x : ℕ) → g ≡ true → owns_by g (without o lent) owner x ≡ true → (owns_by g lent owner x ≡ true) ⊎ (eqb x o ≡ true)
back_more false lent owner o x k e = absurd (false≢true k)
back_more true lent owner o x k e = dite (ℕ_discrete x o) (λ same. inr (eq-eqb x o same)) (λ ne. inl (kept ne (list_any (eqb x) lent) refl))
  where
    kept : x ≢ o → (b : Bool) → list_any (eqb x) lent ≡ b → not b ≡ true
    kept ne true is = absurd (false≢true (sym (true_not (list_any (eqb x) (without o lent)) e) ∙ without_keeps o x lent ne is))
    kept ne false is = refl

seated_longer : (l m : List SeatView) (i : ℕ) (f : Bool) (o : ℕ) → IsSeated l i f o → IsSeated (l ++ m) i f o
seated_longer l m i f o t = (t.0, at_longer l m i t.0 t.1, t.2, t.3, t.4)

seated_still : (l : List SeatView) (other i : ℕ) (f : Bool) (o : ℕ) → i ≢ other → IsSeated l i f o → IsSeated (set l other nobody) i f o
seated_still l other i f o n t = (t.0, set_else l other i nobody n ∙ t.1, t.2, t.3, t.4)

module _ {S : Type 0} (journal : S → List Note) where
  pub splits : (id : ℕ) (c : Claim) (o : ℕ) → c.first ≡ true → owns c o ≡ true → o < 2 ^ 32 → Splits (IsKept journal) id (seat_view idle c) (seat_view idle (lends c o)) (seat_view idle (alone c.seen o))
  splits id c o is_first own small s h at =
      let b = h.book in
      let left = seat_view idle (lends c o) in
      let right = seat_view idle (alone c.seen o) in
      let seat = length (set s.views id left) in
      let b' = lent_to b o seat in
      let mine = h.fits id (seat_view idle c) at in
      let book_rights = subst (HasRights b id c) is_first (mine.rights tt) in
      let free : list_any (eqb o) b.lent ≡ false = ap (λ (l : List ℕ). list_any (eqb o) l) (sym book_rights.1) ∙ true_not (list_any (eqb o) c.lent) (subst (λ (g : Bool). owns_by g c.lent c.owner o ≡ true) is_first own) in
      let m = total_set in_line s.views id (seat_view idle c) left at in
      let k = total_set live s.views id (seat_view idle c) left at in
      let m2 = total_snoc in_line (set s.views id left) right in
      let k2 = total_snoc live (set s.views id left) right in
      let waiting = h.waiting in
      let living = h.living in
      let sees : Follows (lends c o) b.log = follows_less c (lends c o) b.log refl (λ x e. lends_less c.first c.lent c.owner o x e) (mine.sees tt) in
      let given : Follows (alone c.seen o) b.log = follows_less c (alone c.seen o) b.log refl (λ x e. subst (λ (y : ℕ). owns c y ≡ true) (sym (eqb-true x o e)) own) (mine.sees tt) in
      record {
        book = b';
        words = h.words;
        waiting = omega arith;
        living = omega arith;
        distinct = (free, h.distinct);
        below = λ q e. ⊎_elim (λ (t : eqb q o ≡ true). subst (λ (z : ℕ). z < 2 ^ 32) (sym (eqb-true q o t)) small) (λ t. h.below q t) (or_true (eqb q o) (list_any (eqb q) b.lent) e);
        fits = λ j p e. ⊎_elim
            (λ (t : get_elem? (set s.views id left) j ≡ some p). fits_set b' s.homes s.views id left
            (λ i q n g. let f = h.fits i q g in record { line = line_lent b o seat s.homes i q.claim q.stage f.line; sees = f.sees; rights = λ v. rights_lent b o seat i q.claim q.claim.first free (λ z. n (z ∙ sym book_rights.0)) (f.rights v); joins = f.joins })
            (record { line = tt; sees = λ _. sees; rights = λ _. subst (HasRights b' id (lends c o)) (sym is_first) (book_rights.0, ap (λ (l : List ℕ). o ∷ l) book_rights.1); joins = tt }) j p t)
            (λ (t : (right ≡ p) × (j ≡ length (set s.views id left))). subst (λ (y : ℕ × SeatView). Fits {S = S} b' s.homes y.0 y.1) (λ i. (sym t.1 i, t.0 i))
            (record { line = tt; sees = λ _. given; rights = λ _. (ap (λ (z : Bool). cond z seat (b.seats o)) (test_same o), among_first o b.lent); joins = tt }))
            (at_end (set s.views id left) right p j e);
        placed = ⊎_elim (λ (z : (x : S) × (s.homes ≡ some (Some x) ∷ []) × (journal x ≡ b.log)). inl z)
            (λ (z : (i t : ℕ) × (d : Claim) × (get_elem? s.views i ≡ some (seat_view (turn t) d))). inr (z.0, z.1, z.2, at_longer (set s.views id left) (right ∷ []) z.0 (seat_view (turn z.1) z.2) (holder_else s.views id (seat_view idle c) left at idle_no_turn z.0 z.1 z.2 z.3))) h.placed;
        known = let known = known_set s.views b.log id (seat_view idle c) left at tt (λ e. e) h.known in (known.0, known.1, at_longer (set s.views id left) (right ∷ []) known.0 known.1 known.2, known.3, known.4);
        present = (h.present.0, seated_longer (set s.views id left) (right ∷ []) b.first_pass true h.present.0 (seated_set s.views id (seat_view idle c) left at tt refl refl b.first_pass true h.present.0 h.present.1));
        seated = λ q e. dite (ℕ_discrete q o)
            (λ same. subst (λ (k : ℕ). IsSeated (set s.views id left ++ right ∷ []) k false q) (sym (ap (λ (z : Bool). cond z seat (b.seats q)) (eq-eqb q o same))) (right, at_last (set s.views id left) right seat refl, tt, refl, sym same))
            (λ ne. subst (λ (k : ℕ). IsSeated (set s.views id left ++ right ∷ []) k false q) (sym (ap (λ (z : Bool). cond z seat (b.seats q)) (ne_eqb q o ne)))
            (seated_longer (set s.views id left) (right ∷ []) (b.seats q) false q
            (seated_set s.views id (seat_view idle c) left at tt refl refl (b.seats q) false q (h.seated q (⊎_elim (λ (k : eqb q o ≡ true). absurd (ne (eqb-true q o k))) (λ k. k) (or_true (eqb q o) (list_any (eqb q) b.lent) e))))));
      }

  -- two lists of which one is the whole: so is the longer
  known_joined : (s : State (Option S) SeatView) (h : IsKept journal s) (id other : ℕ) (c d : Claim) → get_elem? s.views id ≡ some (seat_view idle c) → other ≢ id → get_elem? s.views other ≡ some (seat_view idle d)
      → SomeSawAll (set (set s.views id (merged (seat_view idle c) (seat_view idle d))) other nobody) h.book.log
  known_joined s h id other c d at apart there =
      let b = h.book in
      let both = merged (seat_view idle c) (seat_view idle d) in
      let mine = begins_follows c b.log ((h.fits id (seat_view idle c) at).sees tt) in
      let theirs = begins_follows d b.log ((h.fits other (seat_view idle d) there).sees tt) in
      let k = h.known in
      let keeps_id : get_elem? (set (set s.views id both) other nobody) id ≡ some both =
      set_else (set s.views id both) other id nobody (λ e. apart (sym e)) ∙ set_here s.views id both (at_below s.views id (seat_view idle c) at) in
      dite (ℕ_discrete k.0 id)
      (λ e. let same : seat_view idle c ≡ k.1 = some-injective (seat_view idle c) k.1 (sym at ∙ (ap (get_elem? s.views) (sym e) ∙ k.2)) in
      (id, both, keeps_id, tt, longer_first c.seen d.seen b.log theirs (ap (λ (p : SeatView). p.claim.seen) same ∙ k.4)))
      (λ n. dite (ℕ_discrete k.0 other)
      (λ e. let same : seat_view idle d ≡ k.1 = some-injective (seat_view idle d) k.1 (sym there ∙ (ap (get_elem? s.views) (sym e) ∙ k.2)) in
      (id, both, keeps_id, tt, longer_second c.seen d.seen b.log mine (ap (λ (p : SeatView). p.claim.seen) same ∙ k.4)))
      (λ m. (k.0, k.1, set_else (set s.views id both) other k.0 nobody m ∙ (set_else s.views id k.0 both n ∙ k.2), k.3, k.4)))

  pub joins : (id : ℕ) (c : Claim) (other : ℕ) (d : Claim) → c.first ≡ true → d.first ≡ false → Joins (IsKept journal) id (seat_view idle c) other (seat_view idle d) (merged (seat_view idle c) (seat_view idle d)) nobody
  joins id c other d is_first plain s h at apart there =
      let b = h.book in
      let o = d.owner in
      let both = merged (seat_view idle c) (seat_view idle d) in
      let b' = back_from b o in
      let there' : get_elem? s.views other ≡ some (seat_view idle d) = sym (set_else s.views id other both apart) ∙ there in
      let mine = h.fits id (seat_view idle c) at in
      let theirs = h.fits other (seat_view idle d) there' in
      let book_rights = subst (HasRights b id c) is_first (mine.rights tt) in
      let seated = subst (HasRights b other d) plain (theirs.rights tt) in
      let m = total_set in_line s.views id (seat_view idle c) both at in
      let k = total_set live s.views id (seat_view idle c) both at in
      let m2 = total_set in_line (set s.views id both) other (seat_view idle d) nobody there in
      let k2 = total_set live (set s.views id both) other (seat_view idle d) nobody there in
      let less = without_less o b.lent h.distinct seated.1 in
      let waiting = h.waiting in
      let living = h.living in
      let sees : Follows (joined c d) b.log = follows_longer c d (joined c d) b.log
      (λ x e. ⊎_elim (λ (z : owns c x ≡ true). inl z) (λ (z : eqb x d.owner ≡ true). inr (subst (λ (g : Bool). owns_by g d.lent d.owner x ≡ true) (sym plain) z)) (back_more c.first c.lent c.owner o x is_first e)) refl (mine.sees tt) (theirs.sees tt) in
      record {
        book = b';
        words = h.words;
        waiting = omega arith;
        living = omega arith;
        distinct = without_distinct o b.lent h.distinct;
        below = λ q e. h.below q (without_among o q b.lent e);
        fits = fits_set b' s.homes (set s.views id both) other nobody
            (λ j p n e. ⊎_elim
            (λ (t : (j ≡ id) × (both ≡ p)). subst (λ (y : ℕ × SeatView). Fits {S = S} b' s.homes y.0 y.1) (λ i. (sym t.0 i, t.1 i))
            (record { line = tt; sees = λ _. sees; rights = λ _. subst (HasRights b' id (joined c d)) (sym is_first) (book_rights.0, ap (without o) book_rights.1); joins = longer_follows c d b.log (mine.sees tt) (theirs.sees tt) }))
            (λ (t : (j ≢ id) × (get_elem? s.views j ≡ some p)). let f = h.fits j p t.1 in
            record { line = line_back b o s.homes j p.claim p.stage f.line; sees = f.sees; rights = λ v. rights_back b o j p.claim p.claim.first (λ z. n (z ∙ seated.0)) (λ z. t.0 (z ∙ sym book_rights.0)) (f.rights v); joins = f.joins })
            (at_set s.views id j both p e))
            (record { line = tt; sees = λ v. absurd v; rights = λ v. absurd v; joins = tt });
        placed = ⊎_elim (λ (z : (x : S) × (s.homes ≡ some (Some x) ∷ []) × (journal x ≡ b.log)). inl z)
            (λ (z : (i t : ℕ) × (e : Claim) × (get_elem? s.views i ≡ some (seat_view (turn t) e))). inr (z.0, z.1, z.2, holder_else (set s.views id both) other (seat_view idle d) nobody there idle_no_turn z.0 z.1 z.2 (holder_else s.views id (seat_view idle c) both at idle_no_turn z.0 z.1 z.2 z.3))) h.placed;
        known = known_joined s h id other c d at apart there';
        present = (h.present.0, seated_still (set s.views id both) other b.first_pass true h.present.0 (λ e. apart (sym e ∙ sym book_rights.0)) (seated_set s.views id (seat_view idle c) both at tt refl refl b.first_pass true h.present.0 h.present.1));
        seated = λ q e.
            let t = h.seated q (without_among o q b.lent e) in
            let other_seat : b.seats q ≢ other = λ z.
            let same : t.0 ≡ seat_view idle d = some-injective t.0 (seat_view idle d) (sym t.1 ∙ (ap (get_elem? s.views) z ∙ there')) in
            let mine : q ≡ o = sym t.4 ∙ ap (λ (p : SeatView). p.claim.owner) same in
            false≢true (sym (ap (λ (y : ℕ). list_any (eqb y) (without o b.lent)) mine ∙ without_gone o b.lent) ∙ e) in
            seated_still (set s.views id both) other (b.seats q) false q other_seat (seated_set s.views id (seat_view idle c) both at tt refl refl (b.seats q) false q t);
      }

  -- where the first pass owns every number, no other seat is live
  only_seat : (b : Book) (homes : List (maybe.Option (Option S))) (j : ℕ) (p : SeatView) → b.lent ≡ [] → Fits b homes j p → IsLive p.stage → j ≡ b.first_pass
  only_seat b homes j p none_lent f v = go p.claim.first (f.rights v)
    where
      go : (g : Bool) → HasRights b j p.claim g → j ≡ b.first_pass
      go true r = r.0
      go false r = absurd (false≢true (ap (λ (l : List ℕ). list_any (eqb p.claim.owner) l) (sym none_lent) ∙ r.1))

  pub closes : (id : ℕ) (c : Claim) (ws : List ℕ) (xs : List (Option S)) → c.first ≡ true → c.lent ≡ [] → Final (Seen (IsKept journal) id (seat_view idle c)) ws xs → (x : S) × (get_elem? xs 0 ≡ some (Some x)) × (journal x ≡ c.seen)
  closes id c ws xs is_first none_lent end =
      let s = end.0 in
      let h = end.1.0 in
      let at = end.1.1 in
      let b = h.book in
      let book_rights = subst (HasRights b id c) is_first ((h.fits id (seat_view idle c) at).rights tt) in
      let empty : b.lent ≡ [] = sym book_rights.1 ∙ none_lent in
      let k = h.known in
      let here : k.0 ≡ id = only_seat b s.homes k.0 k.1 empty (h.fits k.0 k.1 k.2) k.3 ∙ sym book_rights.0 in
      let same : seat_view idle c ≡ k.1 = some-injective (seat_view idle c) k.1 (sym at ∙ (ap (get_elem? s.views) (sym here) ∙ k.2)) in
      ⊎_elim
      (λ (z : (x : S) × (s.homes ≡ some (Some x) ∷ []) × (journal x ≡ b.log)). (z.0, end.4 0 (Some z.0) (ap (λ (hs : List (maybe.Option (Option S))). get_elem? hs 0) z.1), z.2 ∙ sym (ap (λ (p : SeatView). p.claim.seen) same ∙ k.4)))
      (λ (z : (i t : ℕ) × (e : Claim) × (get_elem? s.views i ≡ some (seat_view (turn t) e))).
      let held : z.0 ≡ id = only_seat b s.homes z.0 (seat_view (turn z.1) z.2) empty (h.fits z.0 (seat_view (turn z.1) z.2) z.3) tt ∙ sym book_rights.0 in
      absurd (idle_no_turn z.1 (ap (λ (p : SeatView). p.stage) (some-injective (seat_view idle c) (seat_view (turn z.1) z.2) (sym at ∙ (ap (get_elem? s.views) (sym held) ∙ z.3))))))
      h.placed

-- what the two passes owned, the first one owns
pub joined_owns : (c d : Claim) → c.first ≡ true → d.first ≡ false → (x : ℕ) → owns (joined c d) x ≡ (owns c x || owns d x)
joined_owns c d is_first plain x = back_owns c.first c.lent c.owner d.owner x is_first ∙ ap (λ (g : Bool). owns c x || owns_by g d.lent d.owner x) (sym plain)

pub none_lent : (lent : List ℕ) → ((x : ℕ) → not (list_any (eqb x) lent) ≡ true) → lent ≡ []
none_lent [] h = refl
none_lent (x ∷ xs) h = absurd (false≢true (sym (not_true (list_any (eqb x) (x ∷ xs)) (among_first x xs)) ∙ h x))
