-- A plan in the steps in which the code makes it.
use Rattle.std.specs.Prelude.{ℕ, List, [], map, Option, option_map}
use Rattle.std.specs.Option.{option_map_or}
use Rattle.std.specs.Result.{result_ok}
use Rattle.tk_types.specs.declared.value.Param.{Param}
use Rattle.tk_types.specs.Lists.{all_some}
use Rattle.tk_edge.specs.declared.order.Order.{Order}
use Rattle.tk_bind.specs.Bind.{bound_params}
use Rattle.tk_journal.specs.declared.object.Plan.{Plan}
use Rattle.tk_journal.specs.declared.object.TaskRunState.{TaskRunState}
use Rattle.tk_journal.specs.Plan.{Filled as FilledStep, filled, filled_of, order_of, plan_env, plan_with, script_file}
use Rattle.tk_taskrec.specs.declared.texts.Filled.{Filled}

-- the texts of a step
abbrev pub step_of : Filled → FilledStep
step_of step = filled_of step.command step.args step.script step.env step.dir

-- what a kubelet starts for it, by its place
abbrev pub order_at : List ℕ → List ℕ → ℕ × Filled → Order
order_at pod folder (place, step) = order_of pod folder (place, step_of step)

-- its script's text, where it has one
abbrev pub script_at : Filled → List ℕ
script_at step = option_map_or script_file step.script []

-- the parameters of a TaskRun as they are bound to its body, where each that the body wants has a value that suits
abbrev pub bound_to_body : TaskRunState → Option (List Param)
bound_to_body task_run = result_ok (bound_params task_run.spec.body.spec.params task_run.binding.params task_run.spec.body.outer task_run.spec.body.fallback)

-- the plan of an attempt with these parameters
abbrev pub planned_with : TaskRunState → ℕ → List Param → Option Plan
planned_with task_run attempt params = option_map (plan_with task_run attempt) (all_some (map (filled (plan_env task_run attempt params)) task_run.spec.body.spec.steps))
