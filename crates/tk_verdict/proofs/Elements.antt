-- What holds of each element of a list, and tests that agree on each.
use Rattle.std.proofs.Common.{◌≡◌, ℕ, zero, suc, ◌+◌, ◌-◌, ◌≤◌, ◌<◌, Bool, true, false, ◌&&◌, ◌||◌, List, [], ◌∷◌, ◌++◌, map, length, get_or, Some, refl, sym, ap, ◌∙◌, subst, inl, inr, arith, zero-add}
use Rattle.std.specs.Prelude.{Contains, flat_map, slice_get}
use Rattle.std.specs.List.{AllByRecursion, enumerate_from, list_any, list_all}
use Rattle.std.proofs.lemmas.Bool.{cases_Bool, and_parts}
use Rattle.std.proofs.lemmas.Option.{slice_get_read}
use Rattle.std.proofs.lemmas.List.FromFn.{length-enumerate_from, get_or-enumerate_from}

pub first_in : {X : Type 0} (x : X) (xs : List X) → Contains (x ∷ xs) x
first_in x xs = (0, omega arith, refl)

pub next_in : {X : Type 0} (x y : X) (xs : List X) → Contains xs x → Contains (y ∷ xs) x
next_in x y xs c = (suc c.0, omega (arith, c.1), c.2)

-- each element has what holds of all that the list contains
pub each_from : {X : Type 0} (P : X → Type 0) (xs : List X) → ((x : X) → Contains xs x → P x) → AllByRecursion P xs
each_from P [] h = tt
each_from P (x ∷ xs) h = (h x (first_in x xs), each_from P xs (λ y c. h y (next_in y x xs c)))

pub each_implies : {X : Type 0} (P Q : X → Type 0) → ((x : X) → P x → Q x) → (xs : List X) → AllByRecursion P xs → AllByRecursion Q xs
each_implies P Q h [] all = tt
each_implies P Q h (x ∷ xs) all = (h x all.0, each_implies P Q h xs all.1)

pub each_append : {X : Type 0} (P : X → Type 0) (xs ys : List X) → AllByRecursion P (xs ++ ys) → AllByRecursion P xs × AllByRecursion P ys
each_append P [] ys all = (tt, all)
each_append P (x ∷ xs) ys all = let rest = each_append P xs ys all.1 in ((all.0, rest.0), rest.1)

pub each_flat_map : {X Y : Type 0} (P : Y → Type 0) (f : X → List Y) (xs : List X) → AllByRecursion P (flat_map f xs) → AllByRecursion (λ x. AllByRecursion P (f x)) xs
each_flat_map P f [] all = tt
each_flat_map P f (x ∷ xs) all = let parts = each_append P (f x) (flat_map f xs) all in (parts.0, each_flat_map P f xs parts.1)

pub each_map : {X Y : Type 0} (P : Y → Type 0) (f : X → Y) (xs : List X) → AllByRecursion P (map f xs) → AllByRecursion (λ x. P (f x)) xs
each_map P f [] all = tt
each_map P f (x ∷ xs) all = (all.0, each_map P f xs all.1)

-- functions and tests that agree on each element

pub map_same : {X Y : Type 0} (f g : X → Y) (xs : List X) → AllByRecursion (λ x. f x ≡ g x) xs → map f xs ≡ map g xs
map_same f g [] same = refl
map_same f g (x ∷ xs) same = λ i. same.0 i ∷ map_same f g xs same.1 i

pub any_same : {X Y Z : Type 0} (f : Y → Bool) (g : Z → Bool) (p : X → Y) (q : X → Z) (xs : List X)
    → ((x : X) → Contains xs x → f (p x) ≡ g (q x)) → list_any f (map p xs) ≡ list_any g (map q xs)
any_same f g p q [] same = refl
any_same f g p q (x ∷ xs) same = λ i. same x (first_in x xs) i || any_same f g p q xs (λ y c. same y (next_in y x xs c)) i

pub none_of : {X Y : Type 0} (f : Y → Bool) (p : X → Y) (xs : List X) → ((x : X) → Contains xs x → f (p x) ≡ false) → list_any f (map p xs) ≡ false
none_of f p [] none = refl
none_of f p (x ∷ xs) none = λ i. none x (first_in x xs) i || none_of f p xs (λ y c. none y (next_in y x xs c)) i

pub all_of : {X Y : Type 0} (f : Y → Bool) (p : X → Y) (xs : List X) → ((x : X) → Contains xs x → f (p x) ≡ true) → list_all f (map p xs) ≡ true
all_of f p [] all = refl
all_of f p (x ∷ xs) all = λ i. all x (first_in x xs) i && all_of f p xs (λ y c. all y (next_in y x xs c)) i

-- an element of a list all of whose elements pass
pub all_at : {X : Type 0} (f : X → Bool) (xs : List X) (x : X) → list_all f xs ≡ true → Contains xs x → f x ≡ true
all_at f [] x all c = absurd (omega (arith, c.1))
all_at f (y ∷ xs) x all (zero, lt, is) = subst (λ z. f z ≡ true) is (and_parts (f y) (list_all f xs) all).0
all_at f (y ∷ xs) x all (suc k, lt, is) = all_at f xs x (and_parts (f y) (list_all f xs) all).1 (k, omega (arith, lt), is)

-- an element by its index, whatever stands for those past the end
pub same_default : {X : Type 0} (xs : List X) (i : ℕ) (d e : X) → i < length xs → get_or xs i d ≡ get_or xs i e
same_default [] i d e lt = absurd (omega arith)
same_default (x ∷ xs) zero d e lt = refl
same_default (x ∷ xs) (suc i) d e lt = same_default xs i d e (omega arith)

pub map_in : {X Y : Type 0} (f : X → Y) (xs : List X) (x : X) → Contains xs x → Contains (map f xs) (f x)
map_in f [] x c = absurd (omega (arith, c.1))
map_in f (y ∷ xs) x (zero, lt, is) = (0, omega arith, ap f is)
map_in f (y ∷ xs) x (suc k, lt, is) = next_in (f x) (f y) (map f xs) (map_in f xs x (k, omega (arith, lt), is))

-- an element that passes makes the test of any hold
pub any_at : {X : Type 0} (f : X → Bool) (xs : List X) (x : X) → f x ≡ true → Contains xs x → list_any f xs ≡ true
any_at f [] x pass c = absurd (omega (arith, c.1))
any_at f (y ∷ xs) x pass (zero, lt, is) = rw (subst (λ z. f z ≡ true) (sym is) pass) refl
any_at f (y ∷ xs) x pass (suc k, lt, is) = rw (any_at f xs x pass (k, omega (arith, lt), is)) (or_true (f y))
  where
    or_true : (b : Bool) → (b || true) ≡ true
    or_true true = refl
    or_true false = refl

-- where some element passes, one that does
pub any_found : {X : Type 0} (f : X → Bool) (xs : List X) → list_any f xs ≡ true → (x : X) × Contains xs x × (f x ≡ true)
any_found f [] any = cc
any_found f (x ∷ xs) any =
    elim (cases_Bool (f x)) [
      | inl pass ↦ (x, first_in x xs, pass)
      | inr fail ↦ let rest = any_found f xs (rw fail at any) in (rest.0, next_in rest.0 x xs rest.1, rest.2)
    ]

-- an element with its place
pub enumerated : {X : Type 0} (xs : List X) (e : ℕ × X) → Contains (enumerate_from 0 xs) e → slice_get xs e.0 ≡ Some e.1
enumerated xs e c =
    let within : c.0 < length xs = subst (λ n. c.0 < n) (length-enumerate_from 0 xs) c.1 in
    let is : (0 + c.0, get_or xs c.0 e.1) ≡ e = sym (get_or-enumerate_from 0 xs c.0 e within) ∙ c.2 in
    let place : e.0 ≡ c.0 = sym (ap (λ (d : ℕ × _). d.0) is) ∙ zero-add c.0 in
    rw place (slice_get_read xs (length xs) c.0 e.1 refl within (sym (ap (λ (d : ℕ × _). d.1) is)))

-- an element of two lists end to end

pub front_get : {X : Type 0} (xs ys : List X) (i : ℕ) (x : X) → slice_get xs i ≡ Some x → slice_get (xs ++ ys) i ≡ Some x
front_get [] ys i x is = cc
front_get (y ∷ xs) ys zero x is = is
front_get (y ∷ xs) ys (suc i) x is = front_get xs ys i x is

pub back_get : {X : Type 0} (xs ys : List X) (i : ℕ) → length xs ≤ i → slice_get (xs ++ ys) i ≡ slice_get ys (i - length xs)
back_get [] ys i le = let same : i ≡ i - 0 = omega arith in ap (slice_get ys) same
back_get (x ∷ xs) ys zero le = absurd (omega arith)
back_get (x ∷ xs) ys (suc i) le = let same : i - length xs ≡ suc i - suc (length xs) = omega arith in back_get xs ys i (omega arith) ∙ ap (slice_get ys) same
