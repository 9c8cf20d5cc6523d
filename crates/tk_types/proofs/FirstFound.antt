-- The first element that passes a test.
use Rattle.std.proofs.Common.{◌≡◌, ℕ, ◌+◌, ◌<◌, Bool, true, false, cond, ◌||◌, List, [], ◌∷◌, ◌++◌, Option, Some, None, is_some, option_copied, length, get_or, take, bytes_eq, find, refl, sym, ap, ◌∙◌}
use Rattle.std.specs.List.{list_any}
use denote.Ref.{Bor}
use Rattle.std.specs.Option.{option_or}
use Rattle.std.proofs.lemmas.List.{take_more}
use Rattle.std.proofs.lemmas.List.Folds.{find-append}
use Rattle.std.proofs.lemmas.Cmp.{nat_list_eq_equiv}

-- a step of a loop: the element at i
pub find_more : {X : Type 0} (test : X → Bool) (xs : List X) (i : ℕ) (x : X) → i < length xs → x ≡ get_or xs i x → find test (take (i + 1) xs) ≡ option_or (find test (take i xs)) (cond (test x) (Some x) None)
find_more test xs i x lt is =
    ap (find test) (take_more xs i x lt ∙ ap (λ y. take i xs ++ y ∷ []) (sym is)) ∙ find-append test (take i xs) (x ∷ [])

pub bytes_eq-swap : (xs ys : List ℕ) → bytes_eq xs ys ≡ bytes_eq ys xs
bytes_eq-swap xs ys = nat_list_eq_equiv.symm xs ys

-- a thing is found where one of its name is in the list
pub is_some-named : {X : Type 0} (name_of : X → List ℕ) (name : List ℕ) (items : List X) → is_some (find (λ x. bytes_eq (name_of x) name) items) ≡ list_any (λ x. bytes_eq name (name_of x)) items
is_some-named name_of name [] = refl
is_some-named name_of name (x ∷ items) =
    ap is_some (ap (λ b. cond b (Some x) (find (λ y. bytes_eq (name_of y) name) items)) (bytes_eq-swap (name_of x) name))
    ∙ elim (bytes_eq name (name_of x)) as (λ b. is_some (cond b (Some x) (find (λ y. bytes_eq (name_of y) name) items)) ≡ (b || list_any (λ y. bytes_eq name (name_of y)) items)) [
      | true ↦ refl
      | false ↦ is_some-named name_of name items
    ]

pub is_some-copied : {X : Type 0} (found : Option (Bor X)) → is_some found ≡ is_some (option_copied found)
is_some-copied None = refl
is_some-copied (Some x) = refl
