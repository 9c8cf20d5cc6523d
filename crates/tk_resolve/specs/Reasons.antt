-- Why a run can't start (Tekton, PipelineRuns, Monitoring execution status).
use Rattle.std.specs.Prelude.{ℕ, List, Option, Some, None, codes}
use Rattle.tk_types.specs.declared.run.Start.{Start}
use Rattle.tk_types.specs.declared.run.Start.TheVariants.{Ready, Unstartable}
use Rattle.tk_resolve.specs.declared.reason.Reason.{Reason}
use Rattle.tk_resolve.specs.declared.reason.Reason.TheVariants.{CouldntGetPipeline, CouldntGetTask, ParameterMissing, ParameterTypeMismatch, InvalidTaskResultReference, InvalidWorkspaceBindings}

-- a reason as a condition tells it
abbrev pub reason_text : Reason → List ℕ
reason_text CouldntGetPipeline = codes "CouldntGetPipeline"
reason_text CouldntGetTask = codes "CouldntGetTask"
reason_text ParameterMissing = codes "ParameterMissing"
reason_text ParameterTypeMismatch = codes "ParameterTypeMismatch"
reason_text InvalidTaskResultReference = codes "InvalidTaskResultReference"
reason_text InvalidWorkspaceBindings = codes "InvalidWorkspaceBindings"

-- a run starts unless there is a reason
abbrev pub start_of : Option Reason → Start
start_of None = Ready
start_of (Some reason) = Unstartable (reason_text reason)
