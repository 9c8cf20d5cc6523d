-- Places by name.
use Rattle.std.specs.Prelude.{List, ℕ, bytes_eq}
use Rattle.tk_types.specs.declared.task.PipelineTask.{PipelineTask}
use Rattle.tk_types.specs.Lists.{places_where}

-- the places of the tasks of a name, ascending
abbrev pub places_of_name : List PipelineTask → List ℕ → List ℕ
places_of_name tasks name = places_where (λ (task : PipelineTask). bytes_eq name task.name) tasks
