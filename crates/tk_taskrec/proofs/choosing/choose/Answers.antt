use Rattle.std.proofs.Common.{◌≡◌, Option, sym, subst}
use Rattle.std.specs.Prelude.{IfOk}
use Rattle.tk_journal.specs.declared.act.Act.{Act}
use Rattle.tk_cache.specs.Views.{Kept, seen}
use Rattle.tk_task_cache.specs.Acting.{AreQueued}
use Rattle.tk_taskrec.specs.Choice.{choice}
use Rattle.tk_taskrec.specs.Fit.{AreFit}
use Rattle.tk_taskrec.proofs.choosing.choose.Goals as goal

pub first_queued-requires-clause-fit : goal.first_queued-requires-clause-fit
first_queued-requires-clause-fit c = subst (λ (k : Kept). AreFit (seen k).view) (sym c.cache.ensures) c.requires.fit

pub first_queued-requires-clause-queued : goal.first_queued-requires-clause-queued
first_queued-requires-clause-queued c = subst (λ (k : Kept). AreQueued (seen k).view c.queue.result.now) (sym c.cache.ensures) c.queue.ensures

pub returns : goal.returns
returns c = subst (λ (k : Kept). IfOk c.first_queued.result (λ (found : Option Act). found ≡ choice (seen k).view)) c.cache.ensures c.first_queued.ensures
