use Rattle.std.proofs.Common.{◌≡◌, ℕ, List, [], take, bytes_eq}
use Rattle.std.specs.HashMap.{get_by}
use Rattle.std.specs.Option.{option_map_or}
use Rattle.tk_graph.specs.Index.{places_of_name}
use Rattle.tk_graph.proofs.names.grouped.Given as goal

-- each name's group so far has the places of the tasks so far
abbrev pub invariant-loop-place : goal.invariant-loop-place
invariant-loop-place l = (name : List ℕ) → option_map_or (λ group. group.items) (get_by (λ k. bytes_eq name k.now) l.places) [] ≡ places_of_name (take l.place l.tasks) name
