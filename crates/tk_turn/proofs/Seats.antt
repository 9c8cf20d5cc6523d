-- What the rule says of one seat, as the books change.
use Rattle.std.proofs.Common.{◌≡◌, ◌≢◌, ℕ, ◌≤◌, ◌⊎◌, inl, inr, ⊎_elim, Bool, true, false, eqb, eqb-true, ltb, ltb-true, ltb-false, cond, List, [], ◌∷◌, ◌++◌, length, length-append, set, refl, sym, ap, ◌∙◌, subst, arith, Option, append_assoc, append-nil}
use Rattle.std.specs.List.{list_any}
use mathlib.Core.Option.{some, none, some-ne-none, some-injective}
use mathlib.Core.Option as maybe
use mathlib.Core.Logic.{dite}
use native.Mathlib.Decide.{ℕ_discrete}
use lib.ListN.{get_elem?}
use Rattle.std.proofs.lemmas.Bool.{false≢true}
use Rattle.atomic_table.proofs.Lists.{at_set, set_here, set_else}
use Rattle.tk_turn.specs.Claims.{Note, Claim, owns_by, owns, longer, AllOwn, NoneOwn, Follows, Begins, written_by}
use Rattle.tk_turn.specs.Views.{turn, SeatView}
use Rattle.tk_turn.specs.Turns.{FollowsEach, IsLive, Book, InLine, HasRights, Fits, IsSeated, SomeSawAll}
use Rattle.tk_turn.proofs.Numbers.{not_true, true_not, at_below}

pub false_if : (b : Bool) → (b ≡ true → ⊥) → b ≡ false
false_if true h = absurd (h refl)
false_if false h = refl

pub none_append : (c : Claim) (xs ys : List Note) → NoneOwn c xs → NoneOwn c ys → NoneOwn c (xs ++ ys)
none_append c [] ys p q = q
none_append c (x ∷ xs) ys p q = (p.0, none_append c xs ys p.1 q)

pub none_end : (c : Claim) (xs ys : List Note) → NoneOwn c (xs ++ ys) → NoneOwn c ys
none_end c [] ys p = p
none_end c (x ∷ xs) ys p = none_end c xs ys p.1

none_begin : (c : Claim) (xs ys : List Note) → NoneOwn c (xs ++ ys) → NoneOwn c xs
none_begin c [] ys p = tt
none_begin c (x ∷ xs) ys p = (p.0, none_begin c xs ys p.1)

pub none_of_all : (c d : Claim) → ((x : ℕ) → owns c x ≡ true → owns d x ≡ false) → (xs : List Note) → AllOwn c xs → NoneOwn d xs
none_of_all c d h [] p = tt
none_of_all c d h (x ∷ xs) p = (h x.owner p.0, none_of_all c d h xs p.1)

pub none_both : (c d e : Claim) → ((x : ℕ) → owns e x ≡ true → (owns c x ≡ true) ⊎ (owns d x ≡ true)) → (xs : List Note) → NoneOwn c xs → NoneOwn d xs → NoneOwn e xs
none_both c d e h [] p q = tt
none_both c d e h (x ∷ xs) p q =
    (false_if (owns e x.owner) (λ k. ⊎_elim (λ a. false≢true (sym p.0 ∙ a)) (λ a. false≢true (sym q.0 ∙ a)) (h x.owner k)), none_both c d e h xs p.1 q.1)

pub none_less : (c d : Claim) → ((x : ℕ) → owns d x ≡ true → owns c x ≡ true) → (xs : List Note) → NoneOwn c xs → NoneOwn d xs
none_less c d h xs p = none_both c c d (λ x k. inl (h x k)) xs p p

pub follows_more : (c : Claim) (log new : List Note) → Follows c log → NoneOwn c new → Follows c (log ++ new)
follows_more c log new f n = (f.0 ++ new, ap (λ (l : List Note). l ++ new) f.1 ∙ append_assoc c.seen f.0 new, none_append c f.0 new f.2 n)

pub follows_less : (c d : Claim) (log : List Note) → c.seen ≡ d.seen → ((x : ℕ) → owns d x ≡ true → owns c x ≡ true) → Follows c log → Follows d log
follows_less c d log same h f = (f.0, f.1 ∙ ap (λ (l : List Note). l ++ f.0) same, none_less c d h f.0 f.2)

-- who has seen it all
pub follows_all : (c : Claim) (log : List Note) → c.seen ≡ log → Follows c log
follows_all c log e = ([], sym e ∙ sym (append-nil c.seen), tt)

pub begins_follows : (c : Claim) (log : List Note) → Follows c log → Begins c.seen log
begins_follows c log f = (f.0, f.1)

-- of two beginnings of one list, the shorter begins the other
pub cut : (xs ys us vs : List Note) → xs ++ us ≡ ys ++ vs → length xs ≤ length ys → (m : List Note) × (ys ≡ xs ++ m) × (us ≡ m ++ vs)
cut [] ys us vs e le = (ys, refl, e)
cut (x ∷ xs) [] us vs e le = absurd (omega arith)
cut (x ∷ xs) (y ∷ ys) us vs e le =
    let same : x ≡ y = cc in
    let tails : xs ++ us ≡ ys ++ vs = cc in
    let k = cut xs ys us vs tails (omega arith) in
    (k.0, (λ i. sym same i ∷ k.1 i), k.2)

later : (c d e : Claim) (log : List Note) → ((x : ℕ) → owns e x ≡ true → (owns c x ≡ true) ⊎ (owns d x ≡ true)) → e.seen ≡ d.seen → length c.seen ≤ length d.seen → Follows c log → Follows d log → Follows e log
later c d e log h same le f g =
    let k = cut c.seen d.seen f.0 g.0 (sym f.1 ∙ g.1) le in
    (g.0, g.1 ∙ ap (λ (l : List Note). l ++ g.0) (sym same), none_both c d e h g.0 (none_end c k.0 g.0 (subst (NoneOwn c) k.2 f.2)) g.2)

swapped : {A B : Type 0} → A ⊎ B → B ⊎ A
swapped (inl a) = inr a
swapped (inr b) = inl b

pub follows_longer : (c d e : Claim) (log : List Note) → ((x : ℕ) → owns e x ≡ true → (owns c x ≡ true) ⊎ (owns d x ≡ true)) → e.seen ≡ longer c.seen d.seen → Follows c log → Follows d log → Follows e log
follows_longer c d e log h = go (ltb (length c.seen) (length d.seen)) refl
  where
    go : (b : Bool) → ltb (length c.seen) (length d.seen) ≡ b → e.seen ≡ cond b d.seen c.seen → Follows c log → Follows d log → Follows e log
    go true is same f g = let lt = ltb-true (length c.seen) (length d.seen) is in later c d e log h same (omega arith) f g
    go false is same f g = let le = ltb-false (length c.seen) (length d.seen) is in later d c e log (λ x k. swapped (h x k)) same (omega arith) g f

-- of two passes, the journal up to where the one has seen it follows the other
follows_within : (c d : Claim) (log : List Note) → length c.seen ≤ length d.seen → Follows c log → Follows d log → Follows c d.seen
follows_within c d log le f g =
    let k = cut c.seen d.seen f.0 g.0 (sym f.1 ∙ g.1) le in
    (k.0, k.1, none_begin c k.0 g.0 (subst (NoneOwn c) k.2 f.2))

-- so the longer list follows both
pub longer_follows : (c d : Claim) (log : List Note) → Follows c log → Follows d log → FollowsEach (c ∷ d ∷ []) (longer c.seen d.seen)
longer_follows c d log f g = go (ltb (length c.seen) (length d.seen)) refl
  where
    go : (b : Bool) → ltb (length c.seen) (length d.seen) ≡ b → FollowsEach (c ∷ d ∷ []) (cond b d.seen c.seen)
    go true is = let lt = ltb-true (length c.seen) (length d.seen) is in (follows_within c d log (omega arith) f g, (follows_all d d.seen refl, tt))
    go false is = let le = ltb-false (length c.seen) (length d.seen) is in (follows_all c c.seen refl, (follows_within d c log (omega arith) g f, tt))

-- two seats own no number in common
pub apart : (b : Book) (i j : ℕ) → i ≢ j → (c d : Claim) (f g : Bool) → HasRights b i c f → HasRights b j d g → (x : ℕ) → owns_by f c.lent c.owner x ≡ true → owns_by g d.lent d.owner x ≡ false
apart b i j n c d true true r s x h = absurd (n (r.0 ∙ sym s.0))
apart b i j n c d true false r s x h =
    false_if (eqb x d.owner) (λ k. false≢true (sym (true_not (list_any (eqb x) c.lent) h) ∙ (ap (λ (l : List ℕ). list_any (eqb x) l) r.1 ∙ (ap (λ (y : ℕ). list_any (eqb y) b.lent) (eqb-true x d.owner k) ∙ s.1))))
apart b i j n c d false true r s x h =
    not_true (list_any (eqb x) d.lent) (ap (λ (l : List ℕ). list_any (eqb x) l) s.1 ∙ (ap (λ (y : ℕ). list_any (eqb y) b.lent) (eqb-true x c.owner h) ∙ r.1))
apart b i j n c d false false r s x h =
    false_if (eqb x d.owner) (λ k. n (sym r.0 ∙ (ap b.seats (sym (eqb-true x c.owner h) ∙ eqb-true x d.owner k) ∙ s.0)))

-- the only seat in its turn
pub one_turn_only : {S : Type 0} (b : Book) (homes hs : List (maybe.Option (Option S))) (i j t u : ℕ) (c d : Claim) → InLine b homes i c (turn t) → InLine b hs j d (turn u) → i ≡ j
one_turn_only b homes hs i j t u c d r s = sym r.2 ∙ (ap b.queue (sym r.0 ∙ s.0) ∙ s.2)

-- a list of seats after one of them changed
pub fits_set : {S : Type 0} (b : Book) (homes : List (maybe.Option (Option S))) (views : List SeatView) (id : ℕ) (w : SeatView)
    → ((j : ℕ) (p : SeatView) → j ≢ id → get_elem? views j ≡ some p → Fits b homes j p) → Fits b homes id w → (j : ℕ) (p : SeatView) → get_elem? (set views id w) j ≡ some p → Fits b homes j p
fits_set {S = S} b homes views id w others mine j p e =
    ⊎_elim
    (λ (x : (j ≡ id) × (w ≡ p)). subst (λ (y : ℕ × SeatView). Fits {S = S} b homes y.0 y.1) (λ i. (sym x.0 i, x.1 i)) mine)
    (λ (x : (j ≢ id) × (get_elem? views j ≡ some p)). others j p x.0 x.1)
    (at_set views id j w p e)

-- the seat that has seen it all is still there, or the one that changed has
pub known_set : (views : List SeatView) (log : List Note) (id : ℕ) (v w : SeatView) → get_elem? views id ≡ some v → IsLive w.stage → (v.claim.seen ≡ log → w.claim.seen ≡ log) → SomeSawAll views log → SomeSawAll (set views id w) log
known_set views log id v w at live same k =
    dite (ℕ_discrete k.0 id)
    (λ e. (id, w, set_here views id w (at_below views id v at), live, same (ap (λ (p : SeatView). p.claim.seen) (some-injective v k.1 (sym at ∙ (ap (get_elem? views) (sym e) ∙ k.2))) ∙ k.4)))
    (λ n. (k.0, k.1, set_else views id k.0 w n ∙ k.2, k.3, k.4))

-- a seat is still there after one of them changed
pub seated_set : (views : List SeatView) (id : ℕ) (v w : SeatView) → get_elem? views id ≡ some v → IsLive w.stage → w.claim.first ≡ v.claim.first → w.claim.owner ≡ v.claim.owner → (i : ℕ) (f : Bool) (o : ℕ) → IsSeated views i f o → IsSeated (set views id w) i f o
seated_set views id v w at live first owner i f o t =
    dite (ℕ_discrete i id)
    (λ e.
    let same : v ≡ t.0 = some-injective v t.0 (sym at ∙ (ap (get_elem? views) (sym e) ∙ t.1)) in
    (w, ap (λ (k : ℕ). get_elem? (set views id w) k) e ∙ set_here views id w (at_below views id v at), live, first ∙ (ap (λ (p : SeatView). p.claim.first) same ∙ t.3), owner ∙ (ap (λ (p : SeatView). p.claim.owner) same ∙ t.4)))
    (λ n. (t.0, set_else views id i w n ∙ t.1, t.2, t.3, t.4))

-- a beginning that is as long is the whole
pub begins_whole : (xs ys : List Note) → Begins xs ys → length ys ≤ length xs → xs ≡ ys
begins_whole xs ys b le = go b.0 b.1
  where
    go : (rest : List Note) → ys ≡ xs ++ rest → xs ≡ ys
    go [] e = sym (append-nil xs) ∙ sym e
    go (r ∷ rs) e = let k : length ys ≡ length (xs ++ r ∷ rs) = ap (λ (l : List Note). length l) e in absurd (omega (arith, length-append xs (r ∷ rs)))

pub longer_first : (xs ys log : List Note) → Begins ys log → xs ≡ log → longer xs ys ≡ log
longer_first xs ys log b same = go (ltb (length xs) (length ys)) refl
  where
    go : (t : Bool) → ltb (length xs) (length ys) ≡ t → cond t ys xs ≡ log
    go true is =
        let lt = ltb-true (length xs) (length ys) is in
        let n : length log ≡ length (ys ++ b.0) = ap (λ (l : List Note). length l) b.1 in
        let k : length xs ≡ length log = ap (λ (l : List Note). length l) same in
        absurd (omega (arith, length-append ys b.0))
    go false is = same

pub longer_second : (xs ys log : List Note) → Begins xs log → ys ≡ log → longer xs ys ≡ log
longer_second xs ys log b same = go (ltb (length xs) (length ys)) refl
  where
    go : (t : Bool) → ltb (length xs) (length ys) ≡ t → cond t ys xs ≡ log
    go true is = same
    go false is =
        let le = ltb-false (length xs) (length ys) is in
        let k : length ys ≡ length log = ap (λ (l : List Note). length l) same in
        begins_whole xs log b (omega arith)

pub written_append : (n : ℕ) (xs ys : List Note) → written_by n (xs ++ ys) ≡ written_by n xs ++ written_by n ys
written_append n [] ys = refl
written_append n (x ∷ xs) ys = cut_append n x xs ys (written_append n xs ys) (eqb x.owner n)
  where
    cut_append : (m : ℕ) (z : Note) (us vs : List Note) → written_by m (us ++ vs) ≡ written_by m us ++ written_by m vs → (b : Bool) → cond b (z ∷ written_by m (us ++ vs)) (written_by m (us ++ vs)) ≡ cond b (z ∷ written_by m us) (written_by m us) ++ written_by m vs
    cut_append m z us vs e true = ap (λ (l : List Note). z ∷ l) e
    cut_append m z us vs e false = e

none_written : (c : Claim) (n : ℕ) → owns c n ≡ true → (xs : List Note) → NoneOwn c xs → written_by n xs ≡ []
none_written c n own [] h = refl
none_written c n own (x ∷ xs) h =
    let other : eqb x.owner n ≡ false = false_if (eqb x.owner n) (λ k. false≢true (sym h.0 ∙ (ap (owns c) (eqb-true x.owner n k) ∙ own))) in
    ap (λ (b : Bool). cond b (x ∷ written_by n xs) (written_by n xs)) other ∙ none_written c n own xs h.1

pub own_entries : (c : Claim) (journal : List Note) (n : ℕ) → owns c n ≡ true → Follows c journal → written_by n journal ≡ written_by n c.seen
own_entries c journal n own f =
    ap (written_by n) f.1 ∙ (written_append n c.seen f.0 ∙ (ap (λ (l : List Note). written_by n c.seen ++ l) (none_written c n own f.0 f.2) ∙ append-nil (written_by n c.seen)))

pub turn_entries : (c : Claim) (taken new : List Note) (n : ℕ) → owns c n ≡ true → Follows c taken → written_by n (taken ++ new) ≡ written_by n c.seen ++ written_by n new
turn_entries c taken new n own f = written_append n taken new ∙ ap (λ (l : List Note). l ++ written_by n new) (own_entries c taken n own f)
