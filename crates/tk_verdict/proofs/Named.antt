-- The tasks to whose results a task refers, by their names.
use Rattle.std.proofs.Common.{◌≡◌, ℕ, Bool, true, false, ◌||◌, cond, List, [], ◌∷◌, map, Some, is_some, find, bytes_eq, refl, sym, ap, ◌∙◌}
use Rattle.std.specs.Prelude.{flat_map}
use Rattle.std.specs.List.{list_any}
use Rattle.std.proofs.lemmas.List.Folds.{list_any-append}
use Rattle.tk_graph.specs.Results.{result_tasks, text_results, text_tasks}

pub is_some-find : {X : Type 0} (test : X → Bool) (xs : List X) → is_some (find test xs) ≡ list_any test xs
is_some-find test [] = refl
is_some-find test (x ∷ xs) = elim (test x) as (λ b. is_some (cond b (Some x) (find test xs)) ≡ (b || list_any test xs)) [ true ↦ refl | false ↦ is_some-find test xs ]

pub list_any-map : {X Y : Type 0} (test : Y → Bool) (f : X → Y) (xs : List X) → list_any test (map f xs) ≡ list_any (λ x. test (f x)) xs
list_any-map test f [] = refl
list_any-map test f (x ∷ xs) = ap (λ b. test (f x) || b) (list_any-map test f xs)

-- a task of a name is among those to whose results texts refer
pub named : (texts : List (List ℕ)) (name : List ℕ) → list_any (λ t. bytes_eq t name) (result_tasks texts) ≡ list_any (λ (r : List ℕ × List ℕ). bytes_eq r.0 name) (flat_map text_results texts)
named [] name = refl
named (text ∷ texts) name =
    list_any-append (λ t. bytes_eq t name) (text_tasks text) (result_tasks texts)
    ∙ ((λ i. list_any-map (λ t. bytes_eq t name) (λ (r : List ℕ × List ℕ). r.0) (text_results text) i || named texts name i)
    ∙ sym (list_any-append (λ (r : List ℕ × List ℕ). bytes_eq r.0 name) (text_results text) (flat_map text_results texts)))
