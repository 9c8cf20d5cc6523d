use Rattle.std.proofs.Common.{sym, subst}
use Rattle.tk_cache.specs.Views.{Kept, seen}
use Rattle.tk_task_cache.specs.Acting.{AreFew, AreQueued}
use Rattle.tk_task_cache.proofs.Queue.{few_seen}
use Rattle.tk_task_cache.proofs.advance.list_anew.Goals as goal

pub judge_all-requires : goal.judge_all-requires
judge_all-requires c = record {
  few = subst (λ (k : Kept). AreFew (seen k).view) (sym c.cache.ensures) (few_seen (seen c.relist.new.self) c.args.journal.now.history c.requires.legal c.in_ok-relist.ensures.shows);
}

pub returns-clause-queued : goal.returns-clause-queued
returns-clause-queued c = subst (λ (k : Kept). AreQueued (seen k).view c.in_ok-queue.field-0) c.cache.ensures c.in_ok-queue.ensures
