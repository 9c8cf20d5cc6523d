-- Resolved standalone TaskRuns (Tekton, TaskRuns, Specifying the target Task).
use Rattle.std.specs.Prelude.{ℕ, ◌||◌, List, [], ◌∷◌, flat_map, Option, Some, None}
use Rattle.tk_types.specs.declared.task.TaskBody.{TaskBody}
use Rattle.tk_types.specs.declared.task.TaskSpec.{TaskSpec}
use Rattle.tk_types.specs.declared.task.TaskSource.{TaskSource}
use Rattle.tk_types.specs.declared.task.TaskSource.TheVariants.{Named, Inlined}
use Rattle.tk_types.specs.declared.object.Item.{Item}
use Rattle.tk_types.specs.declared.object.TaskRunObject.{TaskRunObject}
use Rattle.tk_types.specs.declared.object.TaskRunSpec.{TaskRunSpec}
use Rattle.tk_types.specs.Lists.{first_row}
use Rattle.tk_bind.specs.declared.env.Env.{Env}
use Rattle.tk_bind.specs.Fits.{step_env}
use Rattle.tk_resolve.specs.Due.{step_dues}
use Rattle.tk_resolve.specs.Lookup.{task_named}
use Rattle.tk_resolve.specs.Misuse.{any_lacks}
use Rattle.tk_resolve.specs.declared.reason.Reason.{Reason}
use Rattle.tk_resolve.specs.declared.reason.Reason.TheVariants.{CouldntGetTask, ParameterMissing, ParameterTypeMismatch, InvalidWorkspaceBindings}
use Rattle.tk_resolve.specs.Reasons.{start_of}
use Rattle.tk_resolve.specs.Spaces.{own_spaces, has_unbound}
use Rattle.tk_resolve.specs.Values.{all_values, has_missing, has_mismatch}

-- the spec that a TaskRun runs, its own or that of an earlier Task, and the Task's name: an inlined spec has the TaskRun's
abbrev pub spec_of : List Item → TaskSource → Option TaskSpec
spec_of earlier (Named name) = task_named earlier name
spec_of earlier (Inlined spec) = Some spec

abbrev pub task_name : TaskRunObject → TaskSource → List ℕ
task_name run (Named name) = name
task_name run (Inlined spec) = run.name

-- a spec without anything
abbrev pub no_spec : TaskSpec
no_spec = record { params = []; steps = []; results = []; spaces = [] }

-- the body with a spec: a TaskRun has no run around it, so nothing comes from outside
abbrev pub body_with : TaskRunObject → TaskSpec → TaskBody
body_with run spec = record { spec = spec; task_name = task_name run run.source; outer = []; fallback = []; bound = own_spaces run.bindings spec.spaces }

-- what the steps of a TaskRun see
abbrev pub own_env : TaskRunObject → TaskBody → Env
own_env run body = step_env body (all_values body.spec.params run.params)

-- the first reason why a TaskRun with this body can't start
abbrev pub first_reason : TaskRunObject → TaskBody → Option Reason
first_reason run body =
    first_row
    ((has_missing body.spec.params run.params || any_lacks (own_env run body) [] (flat_map step_dues body.spec.steps), ParameterMissing)
    ∷ (has_mismatch body.spec.params run.params, ParameterTypeMismatch)
    ∷ (has_unbound body.bound body.spec.spaces, InvalidWorkspaceBindings)
    ∷ [])

abbrev pub task_run_with : TaskRunObject → TaskBody → Option Reason → TaskRunSpec
task_run_with run body reason = record { name = run.name; body = body; params = run.params; retries = run.retries; timeout = run.timeout; start = start_of reason }

-- the TaskRun with the Task that it refers to among the earlier objects
abbrev pub resolved_task_run : List Item → TaskRunObject → TaskRunSpec
resolved_task_run earlier run =
    elim (spec_of earlier run.source) [
      | None ↦ task_run_with run (body_with run no_spec) (Some CouldntGetTask)
      | Some spec ↦ task_run_with run (body_with run spec) (first_reason run (body_with run spec))
    ]
