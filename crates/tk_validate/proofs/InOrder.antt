-- What is wrong first with the elements of a list that are left, and the names before them.
use Rattle.std.proofs.Common.{◌≡◌, ℕ, ◌+◌, ◌<◌, List, [], ◌∷◌, ◌++◌, map, length, get_or, take, drop, Option, Some, None, refl, sym, ap, ◌∙◌, append_assoc, arith}
use Rattle.std.specs.Prelude.{filter_map, option_to_list}
use Rattle.std.specs.List.{enumerate_from}
use Rattle.std.specs.Option.{option_or}
use Rattle.std.proofs.lemmas.List.{at_drop_more, take_more}
use Rattle.std.proofs.lemmas.List.Elements.{filter_map-append}
use Rattle.tk_types.specs.First.{Finding, first_of, first_if_there}
use Rattle.tk_types.specs.Place.{Place, ◌#◌}
use Rattle.tk_validate.specs.Names.{differ_from, names_before, nothing_inside, told_before}

-- the first fault of the elements from a place on
abbrev pub found_from : {X : Type 0} → (ℕ × X → Finding) → ℕ → List X → Finding
found_from f n xs = first_of (map f (enumerate_from n xs))

next : {X : Type 0} (f : ℕ × X → Finding) (xs : List X) (i : ℕ) (x : X) → i < length xs → x ≡ get_or xs i x
    → found_from f i (drop i xs) ≡ option_or (f (i, x)) (found_from f (i + 1) (drop (i + 1) xs))
next f xs i x lt is = at_drop_more (found_from f i) xs i x lt ∙ ap (λ y. option_or (f (i, y)) (found_from f (i + 1) (drop (i + 1) xs))) (sym is)

passes : {X : Type 0} (f : ℕ × X → Finding) (xs : List X) (i : ℕ) (x : X) → i < length xs → x ≡ get_or xs i x → f (i, x) ≡ None
    → found_from f i (drop i xs) ≡ found_from f (i + 1) (drop (i + 1) xs)
passes f xs i x lt is none = next f xs i x lt is ∙ ap (λ o. option_or o (found_from f (i + 1) (drop (i + 1) xs))) none

-- what a function gives of one element more
one_more : {X Y : Type 0} (f : X → Option Y) (x : X) → filter_map f (x ∷ []) ≡ option_to_list (f x)
one_more {X = X} f x = elim (f x) as (λ o. filter_map (λ (y : X). o) (x ∷ []) ≡ option_to_list o) [ None ↦ refl | Some y ↦ refl ]

given_more : {X Y : Type 0} (f : X → Option Y) (xs : List X) (i : ℕ) (x : X) → i < length xs → x ≡ get_or xs i x
    → filter_map f (take (i + 1) xs) ≡ filter_map f (take i xs) ++ option_to_list (f x)
given_more f xs i x lt is =
    ap (filter_map f) (take_more xs i x lt ∙ ap (λ y. take i xs ++ y ∷ []) (sym is))
    ∙ (filter_map-append f (take i xs) (x ∷ []) ∙ ap (λ ys. filter_map f (take i xs) ++ ys) (one_more f x))

-- the names before the next entry
pub names_more : {X : Type 0} (names : List (List ℕ)) (name_of : X → Option (List ℕ)) (xs : List X) (i : ℕ) (x : X) (before : List (List ℕ)) → i < length xs → x ≡ get_or xs i x
    → before ≡ names_before names name_of xs i
    → before ++ option_to_list (name_of x) ≡ names_before names name_of xs (i + 1)
names_more names name_of xs i x before lt is so_far =
    ap (λ ns. ns ++ option_to_list (name_of x)) so_far
    ∙ (append_assoc names (filter_map name_of (take i xs)) (option_to_list (name_of x)) ∙ ap (λ ns. names ++ ns) (sym (given_more name_of xs i x lt is)))

-- what is wrong with an entry at its place, and first with those from a place on
abbrev pub entry_finding : {X : Type 0} → List (List ℕ) → (X → Option (List ℕ)) → (Place → X → Finding) → Place → List X → ℕ × X → Finding
entry_finding {X} names name_of inside at xs e = first_of (first_if_there (told_before (names_before names name_of xs e.0) (at # e.0)) (name_of e.1) ∷ inside (at # e.0) e.1 ∷ [])

abbrev pub entry_from : {X : Type 0} → List (List ℕ) → (X → Option (List ℕ)) → (Place → X → Finding) → Place → List X → ℕ → List X → Finding
entry_from names name_of inside at xs n ys = found_from (entry_finding names name_of inside at xs) n ys

-- an entry with which nothing is wrong
pub entry_passes : {X : Type 0} (names : List (List ℕ)) (name_of : X → Option (List ℕ)) (inside : Place → X → Finding) (at : Place) (xs : List X) (i : ℕ) (x : X) (before : List (List ℕ)) → i < length xs → x ≡ get_or xs i x
    → before ≡ names_before names name_of xs i
    → first_if_there (told_before before (at # i)) (name_of x) ≡ None
    → inside (at # i) x ≡ None
    → entry_from names name_of inside at xs i (drop i xs) ≡ entry_from names name_of inside at xs (i + 1) (drop (i + 1) xs)
entry_passes names name_of inside at xs i x before lt is so_far new good =
    passes (entry_finding names name_of inside at xs) xs i x lt is
    (ap (λ ns. option_or (first_if_there (told_before ns (at # i)) (name_of x)) (option_or (inside (at # i) x) None)) (sym so_far)
    ∙ (ap (λ o. option_or o (option_or (inside (at # i) x) None)) new ∙ ap (λ o. option_or o None) good))

-- with no name before an entry, and none behind it, nothing is wrong
pub few_pass : {X : Type 0} (name_of : X → Option (List ℕ)) (at : Place) (xs : List X) → length xs < 2 → differ_from [] name_of nothing_inside at xs ≡ None
unfolding differ_from
few_pass name_of at [] few = refl
few_pass name_of at (x ∷ []) few =
    elim (name_of x) as (λ o. option_or (option_or (first_if_there (told_before [] (at # 0)) o) None) None ≡ None) [ None ↦ refl | Some n ↦ refl ]
few_pass name_of at (x ∷ y ∷ xs) few = absurd (omega (arith, few))
