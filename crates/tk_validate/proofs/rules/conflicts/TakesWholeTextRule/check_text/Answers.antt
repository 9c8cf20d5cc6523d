use Rattle.std.proofs.Common.{refl}
use Rattle.tk_validate.proofs.NoTask.{none_taken}
use Rattle.tk_validate.proofs.rules.conflicts.TakesWholeTextRule.check_text.Goals as goal

pub returns-then-reads_no_task : goal.returns-then-reads_no_task
returns-then-reads_no_task c =
    (none_taken c.args.self.now.names.now c.args._whole c.args.place.now c.args.text.now (c.reads_no_task.ensures c.if-reads_no_task.true), refl)
