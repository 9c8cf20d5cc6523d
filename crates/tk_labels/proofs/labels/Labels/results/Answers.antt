use Rattle.std.proofs.Common.{ap, ◌∙◌}
use Rattle.std.proofs.lemmas.Result.{IfOk-weaker}
use Rattle.tk_verdict.specs.Condition.{results_of}
use Rattle.tk_labels.specs.Kept.{of_run}
use Rattle.tk_labels.proofs.labels.Labels.results.Goals as goal

pub returns : goal.returns
returns c =
    IfOk-weaker c.pipeline_results.result _ _
    (λ results is. is ∙ ap results_of (c.in_ok-facts.ensures ∙ (ap (of_run c.self.inside.run) c.as_slice.ensures.value ∙ c.self.view_is)))
    c.pipeline_results.ensures
