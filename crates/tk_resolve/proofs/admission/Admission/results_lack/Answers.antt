use Rattle.std.proofs.Common.{ap, ◌∙◌}
use Rattle.tk_types.specs.declared.object.PipelineSpec.{PipelineSpec}
use Rattle.tk_types.specs.declared.object.RunObject.{RunObject}
use Rattle.tk_resolve.specs.declared.due.Due.TheVariants.{AnyValue}
use Rattle.tk_resolve.specs.Due.{params_dues, seen}
use Rattle.tk_resolve.proofs.Readings.{params_read, seen_read}
use Rattle.tk_resolve.proofs.admission.Admission.results_lack.Goals as goal

pub any_lacks_value-requires : goal.any_lacks_value-requires
any_lacks_value-requires c =
    seen_read _ _
    (ap seen c.as_slice-2.ensures.value ∙ (c.in_ok-texts.ensures ∙ ap (params_dues AnyValue) (c.as_slice.ensures ∙ ap (λ (a : RunObject × PipelineSpec). a.1.results) c.self.view_is)))
    (params_read AnyValue c.args.self.now.1.results c.requires)
