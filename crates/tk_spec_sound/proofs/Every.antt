-- What holds of each element of a list, found one after another.
use Rattle.std.proofs.Common.{◌≡◌, ℕ, ◌+◌, ◌<◌, ◌≤◌, Bool, true, List, [], ◌∷◌, ◌++◌, map, take, length, get_or, All, IsTrue, sym, subst, arith, refl}
use Rattle.std.specs.Prelude.{flat_map}
use Rattle.std.specs.List.{list_all}
use Rattle.std.proofs.lemmas.Bool.{and_parts}
use Rattle.std.proofs.lemmas.List.{get_or-map, length-map, take_all}
use Rattle.std.proofs.lemmas.List.Elements.{All-append, All-cons, All-head, All-more, All-nil, All-tail}

-- one more, the last one, and one of which it doesn't hold
pub all_more : {X : Type 0} (P : X → Type 0) (xs : List X) (i : ℕ) (x : X) → i < length xs → x ≡ get_or xs i x → All P (take i xs) → P x → All P (take (i + 1) xs)
all_more P xs i x within is so_far here = All-more P xs i x within so_far (subst P is here)

pub all_done : {X : Type 0} (P : X → Type 0) (xs : List X) (i : ℕ) → length xs ≤ i → All P (take i xs) → All P xs
all_done P xs i past each = subst (All P) (take_all i xs past) each

pub not_each : {X : Type 0} (P : X → Type 0) (xs : List X) (i : ℕ) (x : X) → i < length xs → x ≡ get_or xs i x → (P x → ⊥) → All P xs → ⊥
not_each P xs i x within is refused each = refused (subst P (sym is) (each i x within))

-- elements of lists that are joined
pub all_front : {X : Type 0} (P : X → Type 0) (xs ys : List X) → All P (xs ++ ys) → All P xs
all_front P [] ys each = All-nil P
all_front P (x ∷ xs) ys each = All-cons P x xs (All-head P x (xs ++ ys) each) (all_front P xs ys (All-tail P x (xs ++ ys) each))

pub all_back : {X : Type 0} (P : X → Type 0) (xs ys : List X) → All P (xs ++ ys) → All P ys
all_back P [] ys each = each
all_back P (x ∷ xs) ys each = all_back P xs ys (All-tail P x (xs ++ ys) each)

pub all_inside : {X Y : Type 0} (P : Y → Type 0) (f : X → List Y) (xs : List X) → All P (flat_map f xs) → All (λ x. All P (f x)) xs
all_inside P f [] each = All-nil (λ x. All P (f x))
all_inside P f (x ∷ xs) each = All-cons (λ x. All P (f x)) x xs (all_front P (f x) (flat_map f xs) each) (all_inside P f xs (all_back P (f x) (flat_map f xs) each))

pub all_outside : {X Y : Type 0} (P : Y → Type 0) (f : X → List Y) (xs : List X) → All (λ x. All P (f x)) xs → All P (flat_map f xs)
all_outside P f [] each = All-nil P
all_outside P f (x ∷ xs) each = All-append P (f x) (flat_map f xs) (All-head (λ x. All P (f x)) x xs each) (all_outside P f xs (All-tail (λ x. All P (f x)) x xs each))

-- elements that a function gives
pub all_mapped : {X Y : Type 0} (P : Y → Type 0) (f : X → Y) (xs : List X) → All P (map f xs) → All (λ x. P (f x)) xs
all_mapped P f xs all = λ k d lt. subst P (get_or-map f xs k d (f d) lt) (all k (f d) (omega (arith, length-map xs f)))

-- a test that passes of each
pub all_true : {X : Type 0} (test : X → Bool) (xs : List X) → All (λ x. IsTrue (test x)) xs → IsTrue (list_all test xs)
all_true test [] each = refl
all_true {X} test (x ∷ xs) each =
    let P : X → Type 0 = λ y. IsTrue (test y) in
    let here : test x ≡ true = All-head P x xs each in
    rw here (all_true test xs (All-tail P x xs each))

pub each_true : {X : Type 0} (test : X → Bool) (xs : List X) → IsTrue (list_all test xs) → All (λ x. IsTrue (test x)) xs
each_true {X} test [] all = let P : X → Type 0 = λ y. IsTrue (test y) in All-nil P
each_true {X} test (x ∷ xs) all =
    let P : X → Type 0 = λ y. IsTrue (test y) in
    let parts = and_parts (test x) (list_all test xs) all in
    All-cons P x xs parts.0 (each_true test xs parts.1)
