use Rattle.std.proofs.Common.{ap, ◌∙◌}
use Rattle.tk_resolve.specs.declared.due.Due.TheVariants.{AnyValue}
use Rattle.tk_resolve.specs.Due.{seen}
use Rattle.tk_resolve.proofs.Readings.{seen_read, value_reads}
use Rattle.tk_resolve.proofs.settled.is_late.Goals as goal

pub any_use-requires : goal.any_use-requires
any_use-requires c = seen_read _ _ (ap seen c.as_slice.ensures.value ∙ c.in_ok-texts.ensures) (value_reads AnyValue c.args.param.now.value c.requires)
