-- The rules on each object of an input beside those before it: one name of one kind, and settled matrices.
use Rattle.std.specs.Prelude.{ℕ, Bool, ◌&&◌, ◌==◌, nat_lt, List, [], ◌∷◌, map, None, bytes_eq, option_and_then}
use Rattle.std.specs.List.{list_any}
use Rattle.tk_types.specs.declared.task.PipelineTask.{PipelineTask}
use Rattle.tk_types.specs.declared.run.RunSpec.{RunSpec}
use Rattle.tk_types.specs.declared.object.Item.{Item}
use Rattle.tk_types.specs.declared.object.ItemObject.{ItemObject}
use Rattle.tk_types.specs.Behaviour.{kind_of, name_of, tasks_of}
use Rattle.tk_types.specs.Fault.{duplicate, too_large}
use Rattle.tk_types.specs.Place.{Place}
use Rattle.tk_types.specs.First.{Finding, first_of, refused_if}
use Rattle.tk_journal.specs.declared.act.Admission.{Admission}
use Rattle.tk_journal.specs.declared.act.Admission.TheVariants.{Run, Task}
use Rattle.tk_types.specs.Limits.{most_combinations}
use Rattle.tk_early.specs.Possible.{settled_count, told_count}
use Rattle.tk_admit.specs.Taken.{resolved, with_earlier}

-- another object has its kind and its name
abbrev pub is_same_object : ItemObject → Item → Bool
is_same_object object other = (kind_of object == kind_of other.object) && bytes_eq (name_of object) (name_of other.object)

-- a settled matrix has too many combinations (Tekton, Matrix, Concurrency Control)
abbrev pub oversize : Place → ℕ → Finding
oversize place count = refused_if (nat_lt most_combinations count) (too_large place most_combinations (told_count count))

abbrev pub task_oversize : Place → RunSpec → PipelineTask → Finding
task_oversize place spec task = option_and_then (oversize place) (settled_count spec task)

abbrev pub matrix_finding : Place → Admission → Finding
matrix_finding place (Run spec) = first_of (map (task_oversize place spec) (tasks_of spec))
matrix_finding place (Task spec) = None

-- an object of this kind and name stood before; a settled matrix of the run has too many combinations
abbrev pub same_name_finding : List Item → Item → Finding
same_name_finding earlier item = refused_if (list_any (is_same_object item.object) earlier) (duplicate item.place (name_of item.object))

abbrev pub object_finding : List Item × Item → Finding
object_finding (earlier, item) =
    first_of (same_name_finding earlier item ∷ option_and_then (matrix_finding item.place) (resolved earlier item.object) ∷ [])

abbrev pub objects_finding : List Item → Finding
objects_finding items = first_of (map object_finding (with_earlier items))
