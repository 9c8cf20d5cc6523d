-- References that don't take what is due where they stand.
use Rattle.std.specs.Prelude.{ℕ, Bool, false, not, ◌&&◌, if◌then◌else◌, List, Option, Some, None, bytes_eq, find, is_some, option_map, option_and_then}
use Rattle.std.specs.List.{list_any}
use Rattle.std.specs.Option.{option_map_or}
use Rattle.tk_types.specs.declared.value.ParamType.{ParamType}
use Rattle.tk_types.specs.declared.value.ParamType.TheVariants.{Str as string, Arr as array}
use Rattle.tk_types.specs.declared.value.ResultSpec.{ResultSpec}
use Rattle.tk_types.specs.declared.task.PipelineTask.{PipelineTask}
use Rattle.tk_types.specs.declared.task.TaskBody.{TaskBody}
use Rattle.tk_vars.specs.declared.part.Part.{Part}
use Rattle.tk_vars.specs.declared.reference.Reference.{Reference}
use Rattle.tk_vars.specs.declared.piece.Piece.{Piece}
use Rattle.tk_vars.specs.Reading.{ends_with_star, pieces_of}
use Rattle.tk_vars.specs.Target.{Target, param, result, target_of, referenced}
use Rattle.tk_bind.specs.declared.env.Env.{Env}
use Rattle.tk_types.specs.Names.{is_in}
use Rattle.tk_bind.specs.Scope.{suits}
use Rattle.tk_bind.specs.Substitute.{reference_value}
use Rattle.tk_resolve.specs.declared.due.Due.{Due}
use Rattle.tk_types.specs.Behaviour.{type_of}
use Rattle.tk_resolve.specs.Due.{DueText, is_due}

-- the piece is a reference that passes the test
abbrev pub passes : (Reference → Bool) → Piece → Bool
passes test piece = option_map_or test (referenced piece) false

-- some reference of these texts passes the test for what is due there
abbrev pub any_use : (Due → Reference → Bool) → List DueText → Bool
any_use test texts = list_any (λ (t : DueText). list_any (passes (test t.0)) (pieces_of t.1)) texts

-- Parameters, by their values.

-- it is a parameter, none of those that are spared
abbrev pub is_judged : List (List ℕ) → Target → Bool
is_judged spared (param name selector) = not (is_in spared name)
is_judged spared target = false

-- the reference takes a value that is due
abbrev pub takes_due : Env → Due → Reference → Bool
takes_due env due r = option_map_or (λ value. is_due due (type_of value)) (reference_value env r) false

-- it is to a parameter, none of those that are spared, and takes none
abbrev pub lacks : Env → List (List ℕ) → Due → Reference → Bool
lacks env spared due r = is_judged spared (target_of r.parts) && not (takes_due env due r)

abbrev pub any_lacks : Env → List (List ℕ) → List DueText → Bool
any_lacks env spared texts = any_use (lacks env spared) texts

-- Results, by their declared types.

-- the type of what a selector takes of a value of a type, if it suits that: all of it by `[*]`, else a text
abbrev pub taken : ParamType → List Part → Option ParamType
taken kind selector = if suits kind selector then Some (if ends_with_star selector then kind else string) else None

-- the type of a result as others see it: of a matrix the texts of all combinations are a list, and there is no other
abbrev pub seen_type : PipelineTask → ParamType → Option ParamType
seen_type task string = Some (if is_some task.matrix then array else string)
seen_type task kind = if is_some task.matrix then None else Some kind

-- the type that a body declares for a result
abbrev pub declared_type : TaskBody → List ℕ → Option ParamType
declared_type body name = option_map (λ (r : ResultSpec). r.kind) (find (λ (r : ResultSpec). bytes_eq r.name name) body.spec.results)

-- the task of a name, with its body
abbrev pub task_and_body : List (PipelineTask × TaskBody) → List ℕ → Option (PipelineTask × TaskBody)
task_and_body tasks name = find (λ (t : PipelineTask × TaskBody). bytes_eq t.0.name name) tasks

-- the type of what a reference takes of a result of a task
abbrev pub type_by : List ℕ → List Part → PipelineTask × TaskBody → Option ParamType
type_by name selector (task, body) = option_and_then (λ kind. taken kind selector) (option_and_then (seen_type task) (declared_type body name))

-- it is to a result that its task doesn't declare, or that is used against its declared type
abbrev pub is_misused : List (PipelineTask × TaskBody) → Due → Target → Bool
is_misused tasks due (result task name selector) = not (option_map_or (is_due due) (option_and_then (type_by name selector) (task_and_body tasks task)) false)
is_misused tasks due target = false

abbrev pub misuses : List (PipelineTask × TaskBody) → Due → Reference → Bool
misuses tasks due r = is_misused tasks due (target_of r.parts)

abbrev pub any_misuse : List (PipelineTask × TaskBody) → List DueText → Bool
any_misuse tasks texts = any_use (misuses tasks) texts
