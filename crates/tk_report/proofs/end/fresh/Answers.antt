use Rattle.std.proofs.Common.{arith}
use Rattle.tk_cache.specs.Views.{seen}
use Rattle.tk_cache.proofs.Showing.{shows_none}
use Rattle.tk_report.proofs.end.fresh.Goals as goal

pub returns-clause-shows : goal.returns-clause-shows
returns-clause-shows c = shows_none (seen c.empty.result) c.args.journal.now.history c.empty.ensures

pub returns-clause-pods : goal.returns-clause-pods
returns-clause-pods c = omega (arith, c.empty.ensures.within.pods)
