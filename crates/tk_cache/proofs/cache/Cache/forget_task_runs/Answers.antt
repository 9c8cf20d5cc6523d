use Rattle.std.proofs.Common.{sym, subst, arith}
use Rattle.tk_cache.specs.Fronts.{Shows}
use Rattle.tk_cache.specs.Views.{Kept, seen}
use Rattle.tk_cache.proofs.Showing.{with_task_runs, no_runs, no_task_runs}
use Rattle.tk_cache.proofs.cache.Cache.forget_task_runs.Goals as goal

pub returns-clause-shows : goal.returns-clause-shows
returns-clause-shows c = λ history shows.
    with_task_runs c.self.inside.fronts c.self.inside.runs c.self.inside.beside c.self.inside.task_runs c.self.inside.pods history (subst (λ (k : Kept). Shows (seen k) history) (sym c.self.view_is) shows) 0 c.new.result c.new-2.result (omega arith) (no_runs history c.new.result c.new.ensures.empty).objects (no_task_runs history c.new-2.result c.new-2.ensures.empty)
