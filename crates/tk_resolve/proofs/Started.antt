-- A run with and without a reason why it can't start.
use Rattle.std.proofs.Common.{◌≡◌, List, Option, Some, None, sym, ap, ◌∙◌}
use Rattle.tk_types.specs.declared.value.Param.{Param}
use Rattle.tk_types.specs.declared.task.TaskBody.{TaskBody}
use Rattle.tk_types.specs.declared.run.RunSpec.{RunSpec}
use Rattle.tk_types.specs.declared.object.PipelineSpec.{PipelineSpec}
use Rattle.tk_types.specs.declared.object.RunObject.{RunObject}
use Rattle.tk_resolve.specs.declared.reason.Reason.{Reason}
use Rattle.tk_resolve.specs.Run.{first_reason, run_with_bodies, startable, unstartable}
use Rattle.tk_resolve.specs.Values.{all_values}

abbrev with : RunObject → PipelineSpec → List TaskBody → Option Reason → RunSpec
with run pipeline bodies found =
    let params = all_values pipeline.params run.params in
    elim found [ Some reason ↦ unstartable run params reason | None ↦ startable run pipeline params bodies ]

pub with_reason : (run : RunObject) (pipeline : PipelineSpec) (bodies : List TaskBody) (params : List Param) (reason : Reason) → params ≡ all_values pipeline.params run.params → first_reason run pipeline bodies ≡ Some reason → unstartable run params reason ≡ run_with_bodies run pipeline bodies
with_reason run pipeline bodies params reason is found = ap (λ ps. unstartable run ps reason) is ∙ sym (ap (with run pipeline bodies) found)

pub without_reason : (run : RunObject) (pipeline : PipelineSpec) (bodies : List TaskBody) (params : List Param) → params ≡ all_values pipeline.params run.params → first_reason run pipeline bodies ≡ None → startable run pipeline params bodies ≡ run_with_bodies run pipeline bodies
without_reason run pipeline bodies params is none = ap (λ ps. startable run pipeline ps bodies) is ∙ sym (ap (with run pipeline bodies) none)
