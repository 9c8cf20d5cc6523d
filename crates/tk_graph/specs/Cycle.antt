-- The tasks that can't be ranked, and a cycle among them.
use Rattle.std.specs.Prelude.{ℕ, zero, suc, ◌+◌, ◌-◌, ◌<◌, Bool, true, false, ◌==◌, if◌then◌else◌, List, [], ◌∷◌, ◌++◌, Option, Some, None, filter, find, length, map, slice_get, slice_index, Contains}
use Rattle.std.specs.List.{list_any, range_with_len}
use Rattle.std.specs.Option.{option_map_or}
use Rattle.tk_types.specs.declared.task.PipelineTask.{PipelineTask}
use Rattle.tk_types.specs.Lists.{is_empty, repeated}
use Rattle.tk_graph.specs.Parents.{parents}

-- the place is in the list
abbrev pub is_among : List ℕ → ℕ → Bool
is_among places place = list_any (λ p. place == p) places

-- of some places, those that have a parent among them, where `above` gives a place's parents
abbrev pub kept : (ℕ → List ℕ) → List ℕ → List ℕ
kept above left = filter (λ place. list_any (is_among left) (above place)) left

-- the first so many places without those that are removed in so many rounds
abbrev pub after_rounds : (ℕ → List ℕ) → ℕ → ℕ → List ℕ
after_rounds above count rounds = repeated (kept above) rounds (range_with_len 0 count)

-- the tasks that are left once each task whose parents are all removed is removed, again and again
abbrev pub left_of : List PipelineTask → List ℕ
left_of tasks = after_rounds (parents tasks) (length tasks) (length tasks)

-- the places from the first coming of a place on
abbrev pub from_first : ℕ → List ℕ → List ℕ
from_first place [] = []
from_first place (p ∷ path) = if place == p then p ∷ path else from_first place path

-- from a place to its first parent that is left, until a place comes twice, in so many steps at most: the places from its first coming on
abbrev pub walk : (ℕ → List ℕ) → (ℕ → Bool) → ℕ → List ℕ → ℕ → List ℕ
walk above is_left zero path place = []
walk above is_left (suc steps) path place =
    elim (is_among path place) [
      | true ↦ from_first place path
      | false ↦ option_map_or (walk above is_left steps (path ++ place ∷ [])) (find is_left (above place)) []
    ]

-- the cycle that the walk from the first task left finds
abbrev pub cycle_of : List PipelineTask → List ℕ
cycle_of tasks = option_map_or (walk (parents tasks) (is_among (left_of tasks)) (suc (length tasks)) []) (slice_get (left_of tasks) 0) []

-- the name of the task at a place
abbrev pub name_at : List PipelineTask → ℕ → List ℕ
name_at tasks place = option_map_or (λ (t : PipelineTask). t.name) (slice_get tasks place) []

-- the names of the cycle that is told, if tasks are left
abbrev pub cycle_names : List PipelineTask → Option (List (List ℕ))
cycle_names tasks = if is_empty (left_of tasks) then None else Some (map (name_at tasks) (cycle_of tasks))

-- each place is a parent of the one before it, and the first of the last
pub record IsCycle (above : ℕ → List ℕ) (places : List ℕ) : Type 0 where
  pub some : 0 < length places
  pub next : (i : ℕ) → i + 1 < length places → Contains (above (slice_index places i)) (slice_index places (i + 1))
  pub back : Contains (above (slice_index places (length places - 1))) (slice_index places 0)
