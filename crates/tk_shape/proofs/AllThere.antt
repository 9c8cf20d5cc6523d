-- All of some answers, or none.
use Rattle.std.proofs.Common.{◌≡◌, Bool, true, false, ◌&&◌, List, [], ◌∷◌, map, Option, Some, None, Result, Ok, Err, refl, sym, ap, ap₂, ◌∙◌}
use Rattle.std.specs.Prelude.{is_ok, option_map}
use Rattle.std.specs.Bool.{then_some}
use Rattle.std.specs.List.{list_all}
use Rattle.std.specs.Result.{result_ok}
use Rattle.tk_types.specs.Lists.{all_some, all_ok}
use Rattle.tk_bind.specs.Substitute.{on_ok}

pub is_ok-on_ok : {T U E : Type 0} (f : T → U) (r : Result T E) → is_ok (on_ok f r) ≡ is_ok r
is_ok-on_ok f (Ok x) = refl
is_ok-on_ok f (Err e) = refl

is_ok-cons : {T E : Type 0} (x : T) (r : Result (List T) E) → is_ok (elim r [ Ok xs ↦ Ok (x ∷ xs) | Err e ↦ Err e ]) ≡ is_ok r
is_ok-cons x (Ok xs) = refl
is_ok-cons x (Err e) = refl

ok-cons : {T E : Type 0} (o : Result T E) (b c : Bool) (rs : List (Result T E)) → is_ok o ≡ b → is_ok (all_ok rs) ≡ c → is_ok (all_ok (o ∷ rs)) ≡ (b && c)
ok-cons (Ok x) b c rs here rest = is_ok-cons x (all_ok rs) ∙ (rest ∙ ap (λ d. d && c) here)
ok-cons (Err e) b c rs here rest = ap (λ d. d && c) here

-- all answers are there where each passes the test
pub is_ok-all : {X T E : Type 0} (f : X → Result T E) (test : X → Bool) → ((x : X) → is_ok (f x) ≡ test x) → (xs : List X) → is_ok (all_ok (map f xs)) ≡ list_all test xs
is_ok-all f test same [] = refl
is_ok-all f test same (x ∷ xs) = ok-cons (f x) (test x) (list_all test xs) (map f xs) (same x) (is_ok-all f test same xs)

pub result_ok-on_ok : {T U E : Type 0} (f : T → U) (r : Result T E) → result_ok (on_ok f r) ≡ option_map f (result_ok r)
result_ok-on_ok f (Ok x) = refl
result_ok-on_ok f (Err e) = refl

-- an optional answer in front of others
abbrev with_first : {Y : Type 0} → Option Y → Option (List Y) → Option (List Y)
with_first None ys = None
with_first (Some y) None = None
with_first (Some y) (Some ys) = Some (y ∷ ys)

some-cons : {X Y : Type 0} (g : X → Y) (o : Option X) (os : List (Option X)) → option_map (map g) (all_some (o ∷ os)) ≡ with_first (option_map g o) (option_map (map g) (all_some os))
some-cons g None os = refl
some-cons g (Some x) os = elim (all_some os) as (λ r. option_map (map g) (elim r [ None ↦ None | Some xs ↦ Some (x ∷ xs) ]) ≡ with_first (Some (g x)) (option_map (map g) r)) [ None ↦ refl | Some xs ↦ refl ]

some-first : {Y : Type 0} (o : Option Y) (os : List (Option Y)) → with_first o (all_some os) ≡ all_some (o ∷ os)
some-first None os = refl
some-first (Some y) os = elim (all_some os) as (λ r. with_first (Some y) r ≡ (elim r [ None ↦ None | Some xs ↦ Some (y ∷ xs) ])) [ None ↦ refl | Some ys ↦ refl ]

ok-first : {T E : Type 0} (r : Result T E) (rs : List (Result T E)) → result_ok (all_ok (r ∷ rs)) ≡ with_first (result_ok r) (result_ok (all_ok rs))
ok-first (Err e) rs = refl
ok-first (Ok x) rs = elim (all_ok rs) as (λ a. result_ok (elim a [ Ok xs ↦ Ok (x ∷ xs) | Err e ↦ Err e ]) ≡ with_first (Some x) (result_ok a)) [ Ok xs ↦ refl | Err e ↦ refl ]

-- what is made of all answers, where it is made of each
pub all_some-map : {X Y Z : Type 0} (f : X → Option Y) (g : Y → Z) (h : X → Option Z) → ((x : X) → option_map g (f x) ≡ h x) → (xs : List X) → option_map (map g) (all_some (map f xs)) ≡ all_some (map h xs)
all_some-map f g h same [] = refl
all_some-map f g h same (x ∷ xs) =
    some-cons g (f x) (map f xs) ∙ (ap₂ with_first (same x) (all_some-map f g h same xs) ∙ some-first (h x) (map h xs))

pub result_ok-all : {X Y E : Type 0} (f : X → Result Y E) (xs : List X) → result_ok (all_ok (map f xs)) ≡ all_some (map (λ x. result_ok (f x)) xs)
result_ok-all f [] = refl
result_ok-all f (x ∷ xs) =
    ok-first (f x) (map f xs) ∙ (ap (with_first (result_ok (f x))) (result_ok-all f xs) ∙ some-first (result_ok (f x)) (map (λ x. result_ok (f x)) xs))

tested-first : {Y : Type 0} (b c : Bool) (y : Y) (ys : List Y) → with_first (then_some b y) (then_some c ys) ≡ then_some (b && c) (y ∷ ys)
tested-first true true y ys = refl
tested-first true false y ys = refl
tested-first false c y ys = refl

-- where each answer is there by a test
pub all_some-tested : {X Y : Type 0} (test : X → Bool) (f : X → Y) (xs : List X) → all_some (map (λ x. then_some (test x) (f x)) xs) ≡ then_some (list_all test xs) (map f xs)
all_some-tested test f [] = refl
all_some-tested test f (x ∷ xs) =
    sym (some-first (then_some (test x) (f x)) (map (λ x. then_some (test x) (f x)) xs))
    ∙ (ap (with_first (then_some (test x) (f x))) (all_some-tested test f xs) ∙ tested-first (test x) (list_all test xs) (f x) (map f xs))

abbrev ok_first : {T E : Type 0} → Result T E → Result (List T) E → Result (List T) E
ok_first (Err e) rs = Err e
ok_first (Ok x) (Err e) = Err e
ok_first (Ok x) (Ok xs) = Ok (x ∷ xs)

all_ok-cons : {T U E : Type 0} (g : T → U) (r : Result T E) (rs : List (Result T E)) → on_ok (map g) (all_ok (r ∷ rs)) ≡ ok_first (on_ok g r) (on_ok (map g) (all_ok rs))
all_ok-cons g (Err e) rs = refl
all_ok-cons g (Ok x) rs = elim (all_ok rs) as (λ a. on_ok (map g) (elim a [ Ok xs ↦ Ok (x ∷ xs) | Err e ↦ Err e ]) ≡ ok_first (Ok (g x)) (on_ok (map g) a)) [ Ok xs ↦ refl | Err e ↦ refl ]

all_ok-first : {T E : Type 0} (r : Result T E) (rs : List (Result T E)) → ok_first r (all_ok rs) ≡ all_ok (r ∷ rs)
all_ok-first (Err e) rs = refl
all_ok-first (Ok x) rs = elim (all_ok rs) as (λ a. ok_first (Ok x) a ≡ (elim a [ Ok xs ↦ Ok (x ∷ xs) | Err e ↦ Err e ])) [ Ok xs ↦ refl | Err e ↦ refl ]

-- the same with the first error
pub all_ok-map : {X T U E : Type 0} (f : X → Result T E) (g : T → U) (h : X → Result U E) → ((x : X) → on_ok g (f x) ≡ h x) → (xs : List X) → on_ok (map g) (all_ok (map f xs)) ≡ all_ok (map h xs)
all_ok-map f g h same [] = refl
all_ok-map f g h same (x ∷ xs) =
    all_ok-cons g (f x) (map f xs) ∙ (ap₂ ok_first (same x) (all_ok-map f g h same xs) ∙ all_ok-first (h x) (map h xs))
