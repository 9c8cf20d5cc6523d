-- The task that a reference names, part by part.
use Rattle.std.specs.Prelude.{ℕ, ◌&&◌, ◌||◌, not, if◌then◌else◌, List, [], ◌∷◌, ◌++◌, Option, Some, None, bytes_eq, codes, flat_map, option_and_then, option_to_list}
use Rattle.tk_types.specs.declared.value.Pair.{Pair}
use Rattle.tk_types.specs.declared.value.Param.{Param}
use Rattle.tk_types.specs.declared.value.Value.{Value}
use Rattle.tk_types.specs.declared.value.Value.TheVariants.{Str, Arr, Obj}
use Rattle.tk_types.specs.declared.task.Matrix.{Matrix}
use Rattle.tk_types.specs.declared.task.When.{When}
use Rattle.tk_types.specs.Lists.{is_empty}
use Rattle.tk_vars.specs.declared.part.Part.{Part}
use Rattle.tk_vars.specs.declared.part.Part.TheVariants.{Name}
use Rattle.tk_vars.specs.declared.piece.Piece.{Piece}
use Rattle.tk_vars.specs.declared.piece.Piece.TheVariants.{Plain, Ref}
use Rattle.tk_graph.specs.Results.{result_tasks, text_tasks}

-- the name that parts begin with, and what follows it
abbrev pub first_name : List Part → Option (List ℕ × List Part)
first_name (Name name ∷ parts) = Some (name, parts)
first_name parts = None

-- behind the head: the task, `results` and one part more
abbrev pub task_of_field : List ℕ → List ℕ × List Part → Option (List ℕ)
task_of_field task (field, parts) = if bytes_eq field (codes "results") && not (is_empty parts) then Some task else None

abbrev pub task_behind : List Part → Option (List ℕ)
task_behind parts = option_and_then (λ (t : List ℕ × List Part). option_and_then (task_of_field t.0) (first_name t.1)) (first_name parts)

-- the task of whose results a reference with these parts names one
abbrev pub task_of_head : List ℕ × List Part → Option (List ℕ)
task_of_head (head, parts) = if bytes_eq head (codes "tasks") || bytes_eq head (codes "finally") then task_behind parts else None

unfoldable pub part_task : List Part → Option (List ℕ)
part_task parts = option_and_then task_of_head (first_name parts)

-- the same of a piece, as a list
abbrev pub piece_tasks : Piece → List (List ℕ)
piece_tasks (Plain text) = []
piece_tasks (Ref reference) = option_to_list (part_task reference.parts)

-- The tasks of the results that values, parameters, matrices and `when` expressions refer to, part by part.
abbrev pub value_tasks : Value → List (List ℕ)
value_tasks (Str text) = text_tasks text
value_tasks (Arr texts) = result_tasks texts
value_tasks (Obj pairs) = flat_map (λ (p : Pair). text_tasks p.value) pairs

abbrev pub param_tasks : Param → List (List ℕ)
param_tasks param = value_tasks param.value

abbrev pub entry_tasks : List Param → List (List ℕ)
entry_tasks params = flat_map param_tasks params

abbrev pub matrix_tasks : Option Matrix → List (List ℕ)
matrix_tasks None = []
matrix_tasks (Some matrix) = entry_tasks matrix.params ++ flat_map entry_tasks matrix.include

abbrev pub guard_tasks : When → List (List ℕ)
guard_tasks guard = text_tasks guard.input ++ result_tasks guard.values
