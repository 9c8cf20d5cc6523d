use Rattle.std.proofs.Common.{ap, ◌∙◌}
use Rattle.tk_resolve.specs.Due.{seen}
use Rattle.tk_resolve.proofs.Readings.{seen_read, task_reads}
use Rattle.tk_resolve.proofs.admission.texts_lack.Goals as goal

pub any_lacks_value-requires : goal.any_lacks_value-requires
any_lacks_value-requires c = seen_read _ _ (ap seen c.as_slice.ensures.value ∙ c.in_ok-texts.ensures) (task_reads c.args.task.now c.requires)
