use Rattle.std.proofs.Common.{ap}
use Rattle.tk_types.specs.declared.scenario.Kind.TheVariants as kinds
use Rattle.tk_journal.specs.declared.entry.Fronts.{Fronts}
use Rattle.tk_cache.specs.Views.{seen}
use Rattle.tk_cache.proofs.Passed.{same_of}
use Rattle.tk_task_cache.proofs.Queue.{passed_run}
use Rattle.tk_task_cache.proofs.advance.list_runs.Goals as goal

pub returns-clause-queued : goal.returns-clause-queued
returns-clause-queued c =
    let same = same_of (seen c.args.cache.now) (seen c.relist.new.self) c.args.journal.now.history c.requires.shows c.in_ok-relist.ensures.shows in
    passed_run (seen c.args.cache.now).view (seen c.relist.new.self).view c.args.queue.now c.requires.queued
    (same kinds.TaskRuns (ap (λ (f : Fronts). f.task_runs) c.in_ok-relist.ensures.fronts))
    (same kinds.Pods (ap (λ (f : Fronts). f.pods) c.in_ok-relist.ensures.fronts))
