-- Names of parents that no task has.
use Rattle.std.specs.Prelude.{ℕ, Bool, not, List, map, Option, find, option_map, bytes_eq}
use Rattle.std.specs.List.{list_any, enumerate_from}
use Rattle.tk_types.specs.declared.task.PipelineTask.{PipelineTask}
use Rattle.tk_types.specs.First.{first_of}
use Rattle.tk_graph.specs.Parents.{parent_names}

-- some task has this name
abbrev pub is_known : List PipelineTask → List ℕ → Bool
is_known tasks name = list_any (λ (task : PipelineTask). bytes_eq name task.name) tasks

-- the first of a task's parent names that no task has
abbrev pub unknown_name : List PipelineTask → PipelineTask → Option (List ℕ)
unknown_name tasks task = find (λ name. not (is_known tasks name)) (parent_names task)

-- the first task that names an unknown parent: its place, and the first such name
abbrev pub first_unknown : List PipelineTask → Option (ℕ × List ℕ)
first_unknown tasks =
    first_of (map (λ (e : ℕ × PipelineTask). option_map (λ name. (e.0, name)) (unknown_name tasks e.1)) (enumerate_from 0 tasks))
