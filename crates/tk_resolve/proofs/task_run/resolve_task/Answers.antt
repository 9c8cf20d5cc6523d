use Rattle.std.proofs.Common.{sym}
use Rattle.tk_resolve.proofs.LookedUp.{spec_reads}
use Rattle.tk_resolve.proofs.task_run.resolve_task.Goals as goal

pub with_task-requires-clause-reads : goal.with_task-requires-clause-reads
with_task-requires-clause-reads c = spec_reads c.args.earlier.now c.args.run.now.source c.in-Some.spec.now c.requires.earlier c.requires.own (sym c.in-Some.ensures)
