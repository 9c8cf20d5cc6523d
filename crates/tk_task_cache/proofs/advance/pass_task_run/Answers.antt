use Rattle.std.proofs.Common.{ℕ, List, sym, subst}
use Rattle.std.proofs.lemmas.Result.{on_ok_weaker}
use Rattle.tk_cache.specs.Views.{Kept, seen}
use Rattle.tk_task_cache.specs.Acting.{AreFew, IsJudged}
use Rattle.tk_task_cache.proofs.Passing.{few, task_run_queued}
use Rattle.tk_task_cache.proofs.advance.pass_task_run.Goals as goal

pub judge-requires : goal.judge-requires
judge-requires c = record {
  few = subst (λ (k : Kept). AreFew (seen k).view) (sym c.cache.ensures)
      (few c.args.cache.now c.relist.new.self c.args.journal.now.history c.requires.legal c.args.place c.entry-entry.result.now c.entry-entry.ensures c.requires.shows c.in_ok-relist.ensures.shows c.args.queue.now c.requires.queued);
}

pub returns-clause-queued : goal.returns-clause-queued
returns-clause-queued c =
    on_ok_weaker c.judge.result
    (λ judged. task_run_queued c.args.cache.now c.relist.new.self c.args.journal.now.history c.requires.legal c.args.place c.entry-entry.result.now c.entry-entry.ensures c.requires.shows c.in_ok-relist.ensures.shows c.args.queue.now c.requires.queued
    c.requires.at c.in_ok-relist.ensures.fronts c.judge.new.queue
    (subst (λ (n : List ℕ). IsJudged (seen c.relist.new.self).view n c.args.queue.now c.judge.new.queue) c.name.ensures
    (subst (λ (k : Kept). IsJudged (seen k).view c.name.result.now c.args.queue.now c.judge.new.queue) c.cache.ensures judged)))
    c.judge.ensures
