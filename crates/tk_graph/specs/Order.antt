-- What it means that tasks have no order.
use Rattle.std.specs.Prelude.{◌≡◌, ◌≢◌, List, [], map, Some, None}
use Rattle.tk_types.specs.declared.task.PipelineTask.{PipelineTask}
use Rattle.tk_graph.specs.declared.refusal.OrderError.{OrderError}
use Rattle.tk_graph.specs.declared.refusal.OrderError.TheVariants.{UnknownTask, Cycle, Memory}
use Rattle.tk_graph.specs.Cycle.{left_of, cycle_of, name_at}
use Rattle.tk_graph.specs.Unknown.{first_unknown}

-- the first unknown name at its task; else the names of the cycle among the tasks that are left; memory may run out at any time
abbrev pub IsOrderRefusal : List PipelineTask → OrderError → Type 0
IsOrderRefusal tasks (UnknownTask task name) = first_unknown tasks ≡ Some (task, name)
IsOrderRefusal tasks (Cycle names) = (first_unknown tasks ≡ None) × (left_of tasks ≢ []) × (names ≡ map (name_at tasks) (cycle_of tasks))
IsOrderRefusal tasks Memory = Unit {0}
