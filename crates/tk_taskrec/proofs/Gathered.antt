-- All values of a list, gathered one by one.
use Rattle.std.proofs.Common.{◌≡◌, ◌≤◌, ◌<◌, ◌+◌, ℕ, suc, List, [], ◌∷◌, ◌++◌, length, map, drop, get_or, Option, Some, None, Result, Ok, Err, refl, sym, ap, ◌∙◌, append_assoc, arith}
use Rattle.std.specs.Result.{result_ok}
use Rattle.std.proofs.Math.Seq.{drop-cons}
use Rattle.std.proofs.lemmas.List.{at_drop_all}
use Rattle.std.proofs.lemmas.Option.{same_Some}
use Rattle.tk_types.specs.Lists.{all_ok, all_some}

-- these values and those that are still to come, where each is there
abbrev pub onto : {Y : Type 0} → List Y → Option (List Y) → Option (List Y)
onto made None = None
onto made (Some more) = Some (made ++ more)

abbrev with_first : {Y : Type 0} → Y → Option (List Y) → Option (List Y)
with_first y None = None
with_first y (Some ys) = Some (y ∷ ys)

onto_more : {Y : Type 0} (made : List Y) (y : Y) (o : Option (List Y)) → onto made (with_first y o) ≡ onto (made ++ y ∷ []) o
onto_more made y None = refl
onto_more made y (Some ys) = ap Some (sym (append_assoc made (y ∷ []) ys))

first_there : {Y : Type 0} (y : Y) (os : List (Option Y)) → all_some (Some y ∷ os) ≡ with_first y (all_some os)
first_there y os = elim (all_some os) as (λ o. elim o [ None ↦ None | Some ys ↦ Some (y ∷ ys) ] ≡ with_first y o) [ None ↦ refl | Some ys ↦ refl ]

module _ {X Y : Type 0} (f : X → Option Y) where
  -- from a place on
  abbrev pub gathered : List Y → List X → Option (List Y)
  gathered made xs = onto made (all_some (map f xs))

  pub gathered_all : (xs : List X) → gathered [] xs ≡ all_some (map f xs)
  gathered_all xs = elim (all_some (map f xs)) as (λ o. onto [] o ≡ o) [ None ↦ refl | Some ys ↦ refl ]

  from_place : (xs : List X) (place : ℕ) (x : X) → place < length xs → x ≡ get_or xs place x → drop place xs ≡ x ∷ drop (place + 1) xs
  from_place xs place x below is =
      let e : suc place ≡ place + 1 = omega arith in
      drop-cons xs place x below ∙ (ap (λ (y : X). y ∷ drop (suc place) xs) (sym is) ∙ ap (λ (n : ℕ). x ∷ drop n xs) e)

  pub gathered_more : (made : List Y) (xs : List X) (place : ℕ) (x : X) (y : Y) → place < length xs → x ≡ get_or xs place x → f x ≡ Some y → gathered made (drop place xs) ≡ gathered (made ++ y ∷ []) (drop (place + 1) xs)
  gathered_more made xs place x y below is there =
      ap (gathered made) (from_place xs place x below is)
      ∙ (ap (λ (o : Option Y). onto made (all_some (o ∷ map f (drop (place + 1) xs)))) there
      ∙ (ap (onto made) (first_there y (map f (drop (place + 1) xs))) ∙ onto_more made y (all_some (map f (drop (place + 1) xs)))))

  pub gathered_none : (made : List Y) (xs : List X) (place : ℕ) (x : X) → place < length xs → x ≡ get_or xs place x → f x ≡ None → gathered made (drop place xs) ≡ None
  gathered_none made xs place x below is none =
      ap (gathered made) (from_place xs place x below is) ∙ ap (λ (o : Option Y). onto made (all_some (o ∷ map f (drop (place + 1) xs)))) none

  nothing_more : (made : List Y) → made ++ [] ≡ made
  nothing_more [] = refl
  nothing_more (y ∷ ys) = ap (λ (zs : List Y). y ∷ zs) (nothing_more ys)

  pub gathered_end : (made : List Y) (xs : List X) (place : ℕ) → length xs ≤ place → gathered made (drop place xs) ≡ Some made
  gathered_end made xs place past = at_drop_all (gathered made) xs place past ∙ ap Some (nothing_more made)

-- where each is there, results are given as values
pub all_there : {X Y E : Type 0} (f : X → Result Y E) (xs : List X) → result_ok (all_ok (map f xs)) ≡ all_some (map (λ x. result_ok (f x)) xs)
all_there {X} {Y} {E} f [] = refl
all_there {X} {Y} {E} f (x ∷ xs) = of_first (f x) (all_there f xs)
  where
    of_rest : (y : Y) (r : Result (List Y) E) → result_ok (elim r [ Ok ys ↦ Ok (y ∷ ys) | Err e ↦ Err e ]) ≡ with_first y (result_ok r)
    of_rest y (Ok ys) = refl
    of_rest y (Err e) = refl

    of_first : (r : Result Y E) → result_ok (all_ok (map f xs)) ≡ all_some (map (λ z. result_ok (f z)) xs) → result_ok (all_ok (r ∷ map f xs)) ≡ all_some (result_ok r ∷ map (λ z. result_ok (f z)) xs)
    of_first (Err e) rest = refl
    of_first (Ok y) rest = of_rest y (all_ok (map f xs)) ∙ (ap (with_first y) rest ∙ sym (first_there y (map (λ z. result_ok (f z)) xs)))

rest_length : {Y : Type 0} (y : Y) (o : Option (List Y)) (ys : List Y) → with_first y o ≡ Some ys → (zs : List Y) × (o ≡ Some zs) × (ys ≡ y ∷ zs)
rest_length y None ys is = absurd (cc (is))
rest_length y (Some zs) ys is = (zs, refl, sym (same_Some (y ∷ zs) ys is))

-- as many values as there are places
pub all_length : {Y : Type 0} (os : List (Option Y)) (ys : List Y) → all_some os ≡ Some ys → length ys ≡ length os
all_length [] ys is = ap length (sym (same_Some [] ys is))
all_length (None ∷ os) ys is = absurd (cc (is))
all_length (Some y ∷ os) ys is =
    let rest = rest_length y (all_some os) ys (sym (first_there y os) ∙ is) in
    ap length rest.2 ∙ ap suc (all_length os rest.0 rest.1)
