-- Steps of loops over lists, and of checks one after another.
use Rattle.std.proofs.Common.{◌≡◌, ℕ, ◌+◌, ◌<◌, ◌≤◌, List, [], ◌∷◌, ◌++◌, length, get_or, map, take, drop, Option, Some, None, Result, Ok, Err, refl, sym, ap, ◌∙◌, subst, add-one}
use Rattle.std.specs.Prelude.{All, MatchOption, OnOk, option_to_list, ⊤}
use Rattle.std.specs.List.{cons_option}
use Rattle.std.specs.Option.{option_or}
use Rattle.std.proofs.Math.Seq.{drop-cons}
use Rattle.std.proofs.lemmas.List.{append_assoc, append-nil, at_drop_more, take_all, take_more}
use Rattle.std.proofs.lemmas.List.Elements.{All-append, All-cons, All-head, All-more, All-nil, All-push, All-tail}
use Rattle.tk_types.specs.declared.rejected.Rejected.{Rejected}
use Rattle.tk_types.specs.declared.rejected.Rejected.TheVariants.{Memory, Fault}
use Rattle.tk_types.specs.First.{Finding, first_from, first_of}
use Rattle.tk_types.specs.Place.{Place, ◌#◌}
use Rattle.tk_types.specs.Rejected.{IsRefusal}
use Rattle.tk_admit.specs.Taken.{behind}

-- what is found first in those that are left, where nothing is found in the next
pub first_step : {X Y : Type 0} (find : X → Option Y) (xs : List X) (i : ℕ) (x : X) → i < length xs → x ≡ get_or xs i x → find x ≡ None → first_of (map find (drop i xs)) ≡ first_of (map find (drop (i + 1) xs))
first_step find xs i x lt is none =
    at_drop_more (λ ys. first_of (map find ys)) xs i x lt ∙ ap (λ found. option_or found (first_of (map find (drop (i + 1) xs)))) (ap find (sym is) ∙ none)

-- what holds of those so far, and of the next
pub all_step : {X : Type 0} (P : X → Type 0) (xs : List X) (i : ℕ) (x : X) → i < length xs → x ≡ get_or xs i x → All P (take i xs) → P x → All P (take (i + 1) xs)
all_step P xs i x lt is all here = All-more P xs i x lt all (subst P is here)

pub all_done : {X : Type 0} (P : X → Type 0) (xs : List X) (i : ℕ) → length xs ≤ i → All P (take i xs) → All P xs
all_done P xs i le all = subst (All P) (take_all i xs le) all

-- what holds of all of two lists
pub all_first : {X : Type 0} (P : X → Type 0) (xs ys : List X) → All P (xs ++ ys) → All P xs
all_first P [] ys all = All-nil P
all_first P (x ∷ xs) ys all = All-cons P x xs (All-head P x (xs ++ ys) all) (all_first P xs ys (All-tail P x (xs ++ ys) all))

pub all_second : {X : Type 0} (P : X → Type 0) (xs ys : List X) → All P (xs ++ ys) → All P ys
all_second P [] ys all = all
all_second P (x ∷ xs) ys all = all_second P xs ys (All-tail P x (xs ++ ys) all)

-- what is found first in two lists
or_of_three : {X : Type 0} (a b c : Option X) → option_or a (option_or b c) ≡ option_or (option_or a b) c
or_of_three None b c = refl
or_of_three (Some x) b c = refl

pub first_of_both : {X Y : Type 0} (find : X → Option Y) (xs ys : List X) → first_of (map find (xs ++ ys)) ≡ option_or (first_of (map find xs)) (first_of (map find ys))
first_of_both find [] ys = refl
first_of_both find (x ∷ xs) ys = ap (option_or (find x)) (first_of_both find xs ys) ∙ or_of_three (find x) (first_of (map find xs)) (first_of (map find ys))

-- the first of two findings
pub refused_first : (a b : Finding) (e : Rejected) → IsRefusal a e → IsRefusal (option_or a b) e
refused_first a b Memory h = tt
refused_first a b (Fault fault) h = ap (λ found. option_or found b) h

pub none_first : {X : Type 0} (a b : Option X) → a ≡ None → b ≡ option_or a b
none_first a b none = sym (ap (λ found. option_or found b) none)

-- what holds of two lists where a check of the second passes
pub few_of_both : {X T E : Type 0} (P : X → Type 0) (xs ys : List X) (result : Result T E) → All P xs → OnOk result (All P ys) → OnOk result (All P (xs ++ ys))
few_of_both P xs ys (Ok x) first second = All-append P xs ys first second
few_of_both P xs ys (Err e) first second = tt

-- what holds of all so far and of one more, if there is one
pub all_optional : {X : Type 0} (P : X → Type 0) (xs new : List X) (more : Option X) → new ≡ xs ++ option_to_list more → All P xs → MatchOption more ⊤ P → All P new
all_optional P xs new None added all here = subst (All P) (sym (added ∙ append-nil xs)) all
all_optional P xs new (Some x) added all here = subst (All P) (sym added) (All-push P xs x all here)

-- one more, if there is one, in front of the others
pub optional_added : {X : Type 0} (xs : List X) (more : Option X) (ys : List X) → (xs ++ option_to_list more) ++ ys ≡ xs ++ cons_option more ys
optional_added xs None ys = ap (λ zs. zs ++ ys) (append-nil xs)
optional_added xs (Some x) ys = append_assoc xs (x ∷ []) ys

-- what is found first in those that are left, each behind those before it
pub behind_step : {X : Type 0} (check : Place → List X × X → Finding) (place : Place) (xs : List X) (i : ℕ) (x : X) → i < length xs → x ≡ get_or xs i x
    → first_from check place i (behind (take i xs) (drop i xs)) ≡ option_or (check (place # i) (take i xs, x)) (first_from check place (i + 1) (behind (take (i + 1) xs) (drop (i + 1) xs)))
behind_step check place xs i x lt is = rw (drop-cons xs i x lt, take_more xs i x lt, ← is, add-one) refl

pub behind_refused : {X : Type 0} (check : Place → List X × X → Finding) (place at : Place) (xs stood : List X) (i : ℕ) (x : X) (whole : Finding) (e : Rejected) → i < length xs → x ≡ get_or xs i x
    → at ≡ place # i → stood ≡ take i xs → first_from check place i (behind (take i xs) (drop i xs)) ≡ whole → IsRefusal (check at (stood, x)) e → IsRefusal whole e
behind_refused check place at xs stood i x whole e lt is at_is stood_is left here =
    subst (λ (f : Finding). IsRefusal f e) (sym (behind_step check place xs i x lt is) ∙ left)
    (refused_first (check (place # i) (take i xs, x)) (first_from check place (i + 1) (behind (take (i + 1) xs) (drop (i + 1) xs))) e
    (subst (λ (f : Finding). IsRefusal f e) (λ j. check (at_is j) (stood_is j, x)) here))
