-- Totals over seats, and lists of numbers.
use Rattle.std.proofs.Common.{◌≡◌, ◌≢◌, ℕ, zero, suc, ◌+◌, ◌<◌, ◌≤◌, ◌⊎◌, inl, inr, ⊎_elim, Bool, true, false, eqb, eqb-true, eq-eqb, cond, List, [], ◌∷◌, ◌++◌, length, set, refl, sym, ap, ◌∙◌, arith}
use Rattle.std.specs.Prelude.{◌||◌, not}
use Rattle.std.specs.List.{list_any, IsDistinct, AllByRecursion}
use mathlib.Core.Option.{some, some-ne-none, some-injective}
use lib.ListN.{get_elem?}
use Rattle.std.proofs.lemmas.Bool.{false≢true}
use Rattle.std.proofs.lemmas.Map.Steps.{length-le_from_distinct_below}
use Rattle.tk_turn.specs.Claims.{Distinct, without}
use Rattle.tk_turn.specs.Views.{Stage, SeatView, idle, waits, turn, spent}
use Rattle.tk_turn.specs.Turns.{total, in_line, live}

pub total_set : (f : Stage → ℕ) (ps : List SeatView) (i : ℕ) (p q : SeatView) → get_elem? ps i ≡ some p → total f (set ps i q) + f p.stage ≡ total f ps + f q.stage
total_set f [] i p q e = absurd (some-ne-none p (sym e))
total_set f (x ∷ xs) zero p q e = let same : x ≡ p = some-injective x p e in let k : f x.stage ≡ f p.stage = ap (λ (y : SeatView). f y.stage) same in omega arith
total_set f (x ∷ xs) (suc i) p q e = let k = total_set f xs i p q e in omega arith

pub total_snoc : (f : Stage → ℕ) (ps : List SeatView) (q : SeatView) → total f (ps ++ q ∷ []) ≡ total f ps + f q.stage
total_snoc f [] q = omega arith
total_snoc f (x ∷ xs) q = let k = total_snoc f xs q in omega arith

line_le_live : (s : Stage) → in_line s ≤ live s
line_le_live idle = omega arith
line_le_live (waits t) = omega arith
line_le_live (turn t) = omega arith
line_le_live spent = omega arith

pub line_le : (ps : List SeatView) → total in_line ps ≤ total live ps
line_le [] = omega arith
line_le (x ∷ xs) = let k = line_le xs in let h = line_le_live x.stage in omega arith

pub or_true : (a b : Bool) → (a || b) ≡ true → (a ≡ true) ⊎ (b ≡ true)
or_true true b e = inl refl
or_true false b e = inr e

pub or_right : (a b : Bool) → b ≡ true → (a || b) ≡ true
or_right true b e = refl
or_right false b e = e

pub not_true : (a : Bool) → a ≡ true → not a ≡ false
not_true true e = refl
not_true false e = absurd (false≢true e)

pub true_not : (a : Bool) → not a ≡ true → a ≡ false
true_not true e = absurd (false≢true e)
true_not false e = refl

-- a test of two equal numbers or of two others
pub test_same : (x : ℕ) → eqb x x ≡ true
test_same x = eq-eqb x x refl

pub among_first : (x : ℕ) (xs : List ℕ) → list_any (eqb x) (x ∷ xs) ≡ true
among_first x xs = ap (λ (b : Bool). b || list_any (eqb x) xs) (test_same x)

none_first : (x y : ℕ) (ys : List ℕ) → (list_any (eqb x) ys ≡ false → AllByRecursion (λ z. eqb x z ≡ false) ys) → (b : Bool) → eqb x y ≡ b → (b || list_any (eqb x) ys) ≡ false → AllByRecursion (λ z. eqb x z ≡ false) (y ∷ ys)
none_first x y ys more true is h = absurd (false≢true (sym h))
none_first x y ys more false is h = (is, more h)

each_other : (x : ℕ) (xs : List ℕ) → list_any (eqb x) xs ≡ false → AllByRecursion (λ y. eqb x y ≡ false) xs
each_other x [] e = tt
each_other x (y ∷ ys) e = none_first x y ys (each_other x ys) (eqb x y) refl e

distinct : (xs : List ℕ) → Distinct xs → IsDistinct eqb xs
unfolding IsDistinct
distinct [] d = tt
distinct (x ∷ xs) d = (each_other x xs d.0, distinct xs d.1)

pub few : (xs : List ℕ) (n : ℕ) → Distinct xs → ((q : ℕ) → list_any (eqb q) xs ≡ true → q < n) → length xs ≤ n
few xs n d h = length-le_from_distinct_below xs n (distinct xs d) h

among_cut : (x y z : ℕ) (zs : List ℕ) → (list_any (eqb y) (without x zs) ≡ true → list_any (eqb y) zs ≡ true) → (b : Bool) → list_any (eqb y) (cond b (without x zs) (z ∷ without x zs)) ≡ true → list_any (eqb y) (z ∷ zs) ≡ true
among_cut x y z zs more true h = or_right (eqb y z) (list_any (eqb y) zs) (more h)
among_cut x y z zs more false h =
    ⊎_elim (λ k. ap (λ (b : Bool). b || list_any (eqb y) zs) k) (λ k. or_right (eqb y z) (list_any (eqb y) zs) (more k)) (or_true (eqb y z) (list_any (eqb y) (without x zs)) h)

pub without_among : (x y : ℕ) (xs : List ℕ) → list_any (eqb y) (without x xs) ≡ true → list_any (eqb y) xs ≡ true
without_among x y [] e = e
without_among x y (z ∷ zs) e = among_cut x y z zs (without_among x y zs) (eqb x z) e

keeps_cut : (x y z : ℕ) (zs : List ℕ) → y ≢ x → (list_any (eqb y) zs ≡ true → list_any (eqb y) (without x zs) ≡ true) → (b : Bool) → eqb x z ≡ b → (eqb y z ≡ true) ⊎ (list_any (eqb y) zs ≡ true) → list_any (eqb y) (cond b (without x zs) (z ∷ without x zs)) ≡ true
keeps_cut x y z zs n more true is (inl k) = absurd (n (eqb-true y z k ∙ sym (eqb-true x z is)))
keeps_cut x y z zs n more true is (inr k) = more k
keeps_cut x y z zs n more false is (inl k) = ap (λ (b : Bool). b || list_any (eqb y) (without x zs)) k
keeps_cut x y z zs n more false is (inr k) = or_right (eqb y z) (list_any (eqb y) (without x zs)) (more k)

pub without_keeps : (x y : ℕ) (xs : List ℕ) → y ≢ x → list_any (eqb y) xs ≡ true → list_any (eqb y) (without x xs) ≡ true
without_keeps x y [] n e = e
without_keeps x y (z ∷ zs) n e = keeps_cut x y z zs n (without_keeps x y zs n) (eqb x z) refl (or_true (eqb y z) (list_any (eqb y) zs) e)

gone_cut : (x z : ℕ) (zs : List ℕ) → list_any (eqb x) (without x zs) ≡ false → (b : Bool) → eqb x z ≡ b → list_any (eqb x) (cond b (without x zs) (z ∷ without x zs)) ≡ false
gone_cut x z zs more true is = more
gone_cut x z zs more false is = ap (λ (b : Bool). b || list_any (eqb x) (without x zs)) is ∙ more

pub without_gone : (x : ℕ) (xs : List ℕ) → list_any (eqb x) (without x xs) ≡ false
without_gone x [] = refl
without_gone x (z ∷ zs) = gone_cut x z zs (without_gone x zs) (eqb x z) refl

same_cut : (x z : ℕ) (zs : List ℕ) → (list_any (eqb x) zs ≡ false → without x zs ≡ zs) → (b : Bool) → (b || list_any (eqb x) zs) ≡ false → cond b (without x zs) (z ∷ without x zs) ≡ z ∷ zs
same_cut x z zs more true h = absurd (false≢true (sym h))
same_cut x z zs more false h = ap (λ (l : List ℕ). z ∷ l) (more h)

without_same : (x : ℕ) (xs : List ℕ) → list_any (eqb x) xs ≡ false → without x xs ≡ xs
without_same x [] e = refl
without_same x (z ∷ zs) e = same_cut x z zs (without_same x zs) (eqb x z) e

less_cut : (x z : ℕ) (zs : List ℕ) → list_any (eqb z) zs ≡ false → (list_any (eqb x) zs ≡ true → length (without x zs) + 1 ≡ length zs) → (b : Bool) → eqb x z ≡ b → (b || list_any (eqb x) zs) ≡ true → length (cond b (without x zs) (z ∷ without x zs)) + 1 ≡ length (z ∷ zs)
less_cut x z zs free more true is h =
    let k : length (without x zs) ≡ length zs = ap (λ (l : List ℕ). length l) (without_same x zs (ap (λ (y : ℕ). list_any (eqb y) zs) (eqb-true x z is) ∙ free)) in
    omega arith
less_cut x z zs free more false is h = let k = more h in omega arith

-- a list of distinct numbers loses one
pub without_less : (x : ℕ) (xs : List ℕ) → Distinct xs → list_any (eqb x) xs ≡ true → length (without x xs) + 1 ≡ length xs
without_less x [] d e = absurd (false≢true e)
without_less x (z ∷ zs) d e = less_cut x z zs d.0 (without_less x zs d.1) (eqb x z) refl e

none_by : (x y : ℕ) (xs : List ℕ) → list_any (eqb y) xs ≡ false → (b : Bool) → list_any (eqb y) (without x xs) ≡ b → b ≡ false
none_by x y xs e true is = absurd (false≢true (sym e ∙ without_among x y xs is))
none_by x y xs e false is = refl

none_without : (x y : ℕ) (xs : List ℕ) → list_any (eqb y) xs ≡ false → list_any (eqb y) (without x xs) ≡ false
none_without x y xs e = none_by x y xs e (list_any (eqb y) (without x xs)) refl

distinct_cut : (x z : ℕ) (zs : List ℕ) → Distinct (z ∷ zs) → Distinct (without x zs) → (b : Bool) → Distinct (cond b (without x zs) (z ∷ without x zs))
distinct_cut x z zs d more true = more
distinct_cut x z zs d more false = (none_without x z zs d.0, more)

pub without_distinct : (x : ℕ) (xs : List ℕ) → Distinct xs → Distinct (without x xs)
without_distinct x [] d = tt
without_distinct x (z ∷ zs) d = distinct_cut x z zs d (without_distinct x zs d.1) (eqb x z)

-- a list with one more at its end
pub at_end : {A : Type 0} (l : List A) (a b : A) (j : ℕ) → get_elem? (l ++ a ∷ []) j ≡ some b → (get_elem? l j ≡ some b) ⊎ ((a ≡ b) × (j ≡ length l))
at_end [] a b zero e = inr (some-injective a b e, refl)
at_end [] a b (suc j) e = absurd (some-ne-none b (sym e))
at_end (x ∷ xs) a b zero e = inl e
at_end (x ∷ xs) a b (suc j) e = ⊎_elim (λ k. inl k) (λ k. inr (k.0, ap suc k.1)) (at_end xs a b j e)

pub at_below : {A : Type 0} (l : List A) (j : ℕ) (a : A) → get_elem? l j ≡ some a → j < length l
at_below [] j a e = absurd (some-ne-none a (sym e))
at_below (x ∷ xs) zero a e = omega arith
at_below (x ∷ xs) (suc j) a e = let k = at_below xs j a e in omega arith
