use Rattle.std.proofs.Common.{sym, subst}
use Rattle.tk_verdict.specs.Readings.{ReadsTask}
use Rattle.tk_report.proofs.skipped.push_all_skipped.Goals as goal

pub push_skipped-requires-clause-reads : goal.push_skipped-requires-clause-reads
push_skipped-requires-clause-reads c = subst ReadsTask (sym c.index-tasks-index.is) (c.requires.reads c.loop-index.index c.index-tasks-index.result c.loop-index-test.true)
