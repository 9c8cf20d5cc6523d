use Rattle.std.proofs.Common.{List, All, ap, sym, subst, ◌∙◌}
use Rattle.std.proofs.lemmas.Result.{IfOk-weaker}
use Rattle.tk_types.specs.declared.object.PipelineSpec.{PipelineSpec}
use Rattle.tk_types.specs.declared.object.RunObject.{RunObject}
use Rattle.tk_types.specs.declared.task.TaskBody.{TaskBody}
use Rattle.tk_bind.specs.Readings.{ReadsTaskSpec}
use Rattle.tk_resolve.specs.Run.{first_reason}
use Rattle.tk_resolve.proofs.run_reason.first_reason.Goals as goal

pub first_reason-requires-clause-bodies : goal.first_reason-requires-clause-bodies
first_reason-requires-clause-bodies c =
    subst (λ (v : RunObject × PipelineSpec × List TaskBody). All (λ (b : TaskBody). ReadsTaskSpec b.spec) v.2) (sym c.in_ok-candidate.ensures) c.requires.bodies

pub returns : goal.returns
returns c =
    IfOk-weaker c.first_reason.result _ _ (λ reason is. is ∙ ap (λ (v : RunObject × PipelineSpec × List TaskBody). first_reason v.0 v.1 v.2) c.in_ok-candidate.ensures) c.first_reason.ensures
