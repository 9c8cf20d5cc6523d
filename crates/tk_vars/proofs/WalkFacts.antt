-- The first of what is given that passes a test.
use Rattle.std.proofs.Common.{◌≡◌, ℕ, ◌+◌, ◌<◌, Bool, true, false, cond, ◌||◌, List, [], ◌∷◌, ◌++◌, Option, Some, None, is_some, length, get_or, take, drop, find, refl, sym, ap, ◌∙◌}
use Rattle.std.specs.List.{filter_map, list_any}
use Rattle.std.specs.Option.{option_or, option_copied}
use Rattle.std.proofs.lemmas.List.{drop_more, take_more, take-append-drop}
use Rattle.std.proofs.lemmas.List.Elements.{filter_map-append}
use Rattle.std.proofs.lemmas.List.Folds.{find-append}
use denote.Ref.{Bor}

-- the element at i and what is behind it
drop_at : {X : Type 0} (xs : List X) (i : ℕ) (x : X) → i < length xs → x ≡ get_or xs i x → drop i xs ≡ x ∷ drop (i + 1) xs
drop_at xs i x lt is = drop_more xs i x lt ∙ ap (λ y. y ∷ drop (i + 1) xs) (sym is)

-- here, or in the rest
found-append : {X Y : Type 0} (test : Y → Bool) (given : X → Option Y) (xs ys : List X) → find test (filter_map given (xs ++ ys)) ≡ option_or (find test (filter_map given xs)) (find test (filter_map given ys))
found-append test given xs ys = ap (find test) (filter_map-append given xs ys) ∙ find-append test (filter_map given xs) (filter_map given ys)

-- none so far, and none here
pub found_none : {X Y : Type 0} (test : Y → Bool) (given : X → Option Y) (xs : List X) (i : ℕ) (x : X) → i < length xs → x ≡ get_or xs i x
    → find test (filter_map given (take i xs)) ≡ None → find test (filter_map given (x ∷ [])) ≡ None → find test (filter_map given (take (i + 1) xs)) ≡ None
found_none test given xs i x lt is before here =
    ap (λ zs. find test (filter_map given zs)) (take_more xs i x lt ∙ ap (λ y. take i xs ++ y ∷ []) (sym is))
    ∙ (found-append test given (take i xs) (x ∷ []) ∙ (ap (λ o. option_or o (find test (filter_map given (x ∷ [])))) before ∙ here))

-- none so far, and this one here
pub found_here : {X Y : Type 0} (test : Y → Bool) (given : X → Option Y) (xs : List X) (i : ℕ) (x : X) (y : Y) → i < length xs → x ≡ get_or xs i x
    → find test (filter_map given (take i xs)) ≡ None → find test (filter_map given (x ∷ [])) ≡ Some y → find test (filter_map given xs) ≡ Some y
found_here test given xs i x y lt is before here =
    ap (λ zs. find test (filter_map given zs)) (sym (take-append-drop i xs) ∙ ap (λ zs. take i xs ++ zs) (drop_at xs i x lt is))
    ∙ (found-append test given (take i xs) (x ∷ drop (i + 1) xs)
    ∙ (ap (λ o. option_or o (find test (filter_map given (x ∷ drop (i + 1) xs)))) before
    ∙ (found-append test given (x ∷ []) (drop (i + 1) xs) ∙ ap (λ o. option_or o (find test (filter_map given (drop (i + 1) xs)))) here)))

-- one is found where there is one
is_some-find : {X : Type 0} (test : X → Bool) (xs : List X) → is_some (find test xs) ≡ list_any test xs
is_some-find test [] = refl
is_some-find test (x ∷ xs) = elim (test x) as (λ b. is_some (cond b (Some x) (find test xs)) ≡ (b || list_any test xs)) [ true ↦ refl | false ↦ is_some-find test xs ]

pub is_some_found : {X : Type 0} (test : X → Bool) (xs : List X) (found : Option (Bor X)) → option_copied found ≡ find test xs → is_some found ≡ list_any test xs
is_some_found test xs found is = copied found ∙ (ap is_some is ∙ is_some-find test xs)
  where
    copied : {Y : Type 0} (found : Option (Bor Y)) → is_some found ≡ is_some (option_copied found)
    copied None = refl
    copied (Some y) = refl
