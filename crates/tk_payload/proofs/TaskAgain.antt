-- What is written of a part of an entry is read again: Step, SpaceSpec, SpaceUse, Space, TaskSpec, When, Matrix, TaskSource, PipelineTask, TaskBody.
use Rattle.std.proofs.Common.{◌≡◌, List, Some, codes, refl}
use Rattle.json.specs.Token.{Token}
use Rattle.json.specs.Json.{string}
use Rattle.tk_payload.specs.Forms.{optional, step_json, space_spec_json, space_use_json, space_json, task_spec_json, when_json, matrix_json, task_source_json, pipeline_task_json, task_body_json}
use Rattle.tk_payload.specs.Fits.{Plain, PipelineTaskFits}
use Rattle.tk_payload.specs.Reading.{step_at, space_spec_at, space_use_at, space_at, task_spec_at, when_at, matrix_at, task_source_at, pipeline_task_at, task_body_at, task_source_under}
use Rattle.tk_payload.proofs.Again.{Again, IsNeverNull, field, key_known, before, is_plain, optional_plain, all_plain, text_again, boolean_again, count_again_32, count_again_64, optional_again, listed_again, text_is_some}
use Rattle.tk_payload.proofs.ValueAgain.{pair_again, param_again, param_spec_again, result_spec_again}
use Rattle.tk_types.specs.declared.task.Step.{Step}
use Rattle.tk_types.specs.declared.task.SpaceSpec.{SpaceSpec}
use Rattle.tk_types.specs.declared.task.SpaceUse.{SpaceUse}
use Rattle.tk_types.specs.declared.task.Space.{Space}
use Rattle.tk_types.specs.declared.task.TaskSpec.{TaskSpec}
use Rattle.tk_types.specs.declared.task.When.{When}
use Rattle.tk_types.specs.declared.task.Matrix.{Matrix}
use Rattle.tk_types.specs.declared.task.TaskSource.{TaskSource}
use Rattle.tk_types.specs.declared.task.TaskSource.TheVariants as task_sources
use Rattle.tk_types.specs.declared.task.PipelineTask.{PipelineTask}
use Rattle.tk_types.specs.declared.task.TaskBody.{TaskBody}

step_read : (x : Step) (rest : List Token) → Plain x → step_at (before (step_json x) rest) ≡ Some (x, rest)
unfolding step_at
step_read x rest fits =
    rw (
      field (listed_again text_again) (codes "args") x.args _ (all_plain is_plain x.args),
      field (listed_again text_again) (codes "command") x.command _ (all_plain is_plain x.command),
      field (optional_again text_again text_is_some) (codes "dir") x.dir _ (optional_plain is_plain x.dir),
      field (listed_again pair_again) (codes "env") x.env _ (all_plain is_plain x.env),
      field boolean_again (codes "keep_going") x.keep_going _ tt,
      field (optional_again text_again text_is_some) (codes "name") x.name _ (optional_plain is_plain x.name),
      field (optional_again text_again text_is_some) (codes "script") x.script _ (optional_plain is_plain x.script),
      step_at,
    ) refl

pub step_again : Again Plain step_json step_at
step_again = record { again = step_read }

space_spec_read : (x : SpaceSpec) (rest : List Token) → Plain x → space_spec_at (before (space_spec_json x) rest) ≡ Some (x, rest)
unfolding space_spec_at
space_spec_read x rest fits =
    rw (
      field text_again (codes "name") x.name _ tt,
      field boolean_again (codes "optional") x.optional _ tt,
      space_spec_at,
    ) refl

pub space_spec_again : Again Plain space_spec_json space_spec_at
space_spec_again = record { again = space_spec_read }

space_use_read : (x : SpaceUse) (rest : List Token) → Plain x → space_use_at (before (space_use_json x) rest) ≡ Some (x, rest)
unfolding space_use_at
space_use_read x rest fits =
    rw (
      field text_again (codes "from") x.from _ tt,
      field text_again (codes "name") x.name _ tt,
      field text_again (codes "sub") x.sub _ tt,
      space_use_at,
    ) refl

pub space_use_again : Again Plain space_use_json space_use_at
space_use_again = record { again = space_use_read }

space_read : (x : Space) (rest : List Token) → Plain x → space_at (before (space_json x) rest) ≡ Some (x, rest)
unfolding space_at
space_read x rest fits =
    rw (
      field (optional_again text_again text_is_some) (codes "claim") x.claim _ (optional_plain is_plain x.claim),
      field text_again (codes "name") x.name _ tt,
      field text_again (codes "sub") x.sub _ tt,
      space_at,
    ) refl

pub space_again : Again Plain space_json space_at
space_again = record { again = space_read }

task_spec_read : (x : TaskSpec) (rest : List Token) → Plain x → task_spec_at (before (task_spec_json x) rest) ≡ Some (x, rest)
unfolding task_spec_at
task_spec_read x rest fits =
    rw (
      field (listed_again param_spec_again) (codes "params") x.params _ (all_plain is_plain x.params),
      field (listed_again result_spec_again) (codes "results") x.results _ (all_plain is_plain x.results),
      field (listed_again space_spec_again) (codes "spaces") x.spaces _ (all_plain is_plain x.spaces),
      field (listed_again step_again) (codes "steps") x.steps _ (all_plain is_plain x.steps),
      task_spec_at,
    ) refl

pub task_spec_again : Again Plain task_spec_json task_spec_at
task_spec_again = record { again = task_spec_read }

when_read : (x : When) (rest : List Token) → Plain x → when_at (before (when_json x) rest) ≡ Some (x, rest)
unfolding when_at
when_read x rest fits =
    rw (
      field text_again (codes "input") x.input _ tt,
      field boolean_again (codes "is_member") x.is_member _ tt,
      field (listed_again text_again) (codes "values") x.values _ (all_plain is_plain x.values),
      when_at,
    ) refl

pub when_again : Again Plain when_json when_at
when_again = record { again = when_read }

matrix_read : (x : Matrix) (rest : List Token) → Plain x → matrix_at (before (matrix_json x) rest) ≡ Some (x, rest)
unfolding matrix_at
matrix_read x rest fits =
    rw (
      field (listed_again (listed_again param_again)) (codes "include") x.include _ (all_plain (all_plain is_plain) x.include),
      field (listed_again param_again) (codes "params") x.params _ (all_plain is_plain x.params),
      matrix_at,
    ) refl

pub matrix_again : Again Plain matrix_json matrix_at
matrix_again = record { again = matrix_read }

pub matrix_is_some : IsNeverNull matrix_json
matrix_is_some x = refl

task_source_read : (x : TaskSource) (rest : List Token) → Plain x → task_source_at (before (task_source_json x) rest) ≡ Some (x, rest)
unfolding task_source_at task_source_under
task_source_read (task_sources.Named x) rest fits = rw (key_known (codes "Named") (string x) _, text_again.again x _ tt, task_source_at, task_source_under) refl
task_source_read (task_sources.Inlined x) rest fits = rw (key_known (codes "Inlined") (task_spec_json x) _, task_spec_again.again x _ tt, task_source_at, task_source_under) refl

pub task_source_again : Again Plain task_source_json task_source_at
task_source_again = record { again = task_source_read }

pipeline_task_read : (x : PipelineTask) (rest : List Token) → PipelineTaskFits x → pipeline_task_at (before (pipeline_task_json x) rest) ≡ Some (x, rest)
unfolding pipeline_task_at
pipeline_task_read x rest fits =
    rw (
      field boolean_again (codes "ignore_failure") x.ignore_failure _ tt,
      field (optional_again matrix_again matrix_is_some) (codes "matrix") x.matrix _ (optional_plain is_plain x.matrix),
      field text_again (codes "name") x.name _ tt,
      field (listed_again param_again) (codes "params") x.params _ (all_plain is_plain x.params),
      field count_again_32 (codes "retries") x.retries _ fits.0,
      field (listed_again text_again) (codes "run_after") x.run_after _ (all_plain is_plain x.run_after),
      field task_source_again (codes "source") x.source _ tt,
      field (listed_again space_use_again) (codes "spaces") x.spaces _ (all_plain is_plain x.spaces),
      field count_again_64 (codes "timeout") x.timeout _ fits.1,
      field (listed_again when_again) (codes "when") x.when _ (all_plain is_plain x.when),
      pipeline_task_at,
    ) refl

pub pipeline_task_again : Again PipelineTaskFits pipeline_task_json pipeline_task_at
pipeline_task_again = record { again = pipeline_task_read }

task_body_read : (x : TaskBody) (rest : List Token) → Plain x → task_body_at (before (task_body_json x) rest) ≡ Some (x, rest)
unfolding task_body_at
task_body_read x rest fits =
    rw (
      field (listed_again space_again) (codes "bound") x.bound _ (all_plain is_plain x.bound),
      field (listed_again param_again) (codes "fallback") x.fallback _ (all_plain is_plain x.fallback),
      field (listed_again param_again) (codes "outer") x.outer _ (all_plain is_plain x.outer),
      field task_spec_again (codes "spec") x.spec _ tt,
      field text_again (codes "task_name") x.task_name _ tt,
      task_body_at,
    ) refl

pub task_body_again : Again Plain task_body_json task_body_at
task_body_again = record { again = task_body_read }
