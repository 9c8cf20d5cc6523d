-- Folders of workspaces that are bound in the order of their declarations.
use Rattle.std.proofs.Common.{◌≡◌, ℕ, List, [], ◌∷◌, map, filter_map, Option, Some, None, option_map, refl, ap, sym, ◌∙◌}
use Rattle.std.specs.List.{cons_option}
use Rattle.tk_types.specs.declared.task.Space.{Space}
use Rattle.tk_types.specs.declared.task.SpaceSpec.{SpaceSpec}
use Rattle.tk_space.specs.Apart.{IsInOrder}
use Rattle.tk_space.specs.Space.{bound_space, folders_of, space_folder}

pub map_of_filter_map : {X Y Z : Type 0} → (f : Y → Z) (h : X → Option Y) (xs : List X) → map f (filter_map h xs) ≡ filter_map (λ x. option_map f (h x)) xs
map_of_filter_map f h [] = refl
map_of_filter_map {X} {Y} f h (x ∷ xs) = by_first (h x) (map_of_filter_map f h xs)
  where
    by_first : (first : Option Y) → map f (filter_map h xs) ≡ filter_map (λ x. option_map f (h x)) xs → map f (cons_option first (filter_map h xs)) ≡ cons_option (option_map f first) (filter_map (λ x. option_map f (h x)) xs)
    by_first None more = more
    by_first (Some y) more = ap (λ zs. f y ∷ zs) more

pub folders_in_order : (root pod : List ℕ) (specs : List SpaceSpec) (bound : List Space) → IsInOrder specs bound → map (space_folder root pod) bound ≡ folders_of root pod specs bound
folders_in_order root pod specs bound e = ap (λ bs. map (space_folder root pod) bs) (sym e) ∙ map_of_filter_map (space_folder root pod) (bound_space bound) specs
