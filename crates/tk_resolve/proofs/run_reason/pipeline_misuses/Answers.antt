use Rattle.std.proofs.Common.{ap, ◌∙◌}
use Rattle.tk_resolve.specs.declared.due.Due.TheVariants.{AnyValue}
use Rattle.tk_resolve.specs.Due.{params_dues, seen}
use Rattle.tk_resolve.proofs.Readings.{params_read, seen_read}
use Rattle.tk_resolve.proofs.run_reason.pipeline_misuses.Goals as goal

pub any_misuse-requires : goal.any_misuse-requires
any_misuse-requires c =
    seen_read _ _ (ap seen c.as_slice-4.ensures.value ∙ (c.in_ok-texts.ensures ∙ ap (params_dues AnyValue) c.as_slice-3.ensures)) (params_read AnyValue c.args.pipeline.now.results c.requires.results)
