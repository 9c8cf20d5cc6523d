use Rattle.std.proofs.Common.{ℕ, List, ◌≡◌, Some, None, sym, subst}
use Rattle.std.proofs.lemmas.Result.{on_ok_weaker}
use Rattle.tk_journal.specs.Effects.{name_of}
use Rattle.tk_cache.specs.Views.{Kept, seen}
use Rattle.tk_task_cache.specs.Acting.{AreFew, IsJudged}
use Rattle.tk_task_cache.proofs.Passing.{few, no_pod_queued, pod_queued}
use Rattle.tk_task_cache.proofs.advance.pass_pod.Goals as goal

pub returns-in_default-clause-queued : goal.returns-in_default-clause-queued
returns-in_default-clause-queued c =
    let gone : (seen c.relist.new.self).view.pod (name_of c.entry-entry.result.now.act) ≡ None =
    subst (λ (n : List ℕ). (seen c.relist.new.self).view.pod n ≡ None) c.name.ensures
    (subst (λ (k : Kept). (seen k).view.pod c.name.result.now ≡ None) c.cache.ensures (sym c.in_default.ensures)) in
    no_pod_queued c.args.cache.now c.relist.new.self c.args.journal.now.history c.requires.legal c.args.place c.entry-entry.result.now c.entry-entry.ensures c.requires.shows c.in_ok-relist.ensures.shows c.args.queue.now c.requires.queued
    c.requires.at c.in_ok-relist.ensures.fronts gone

pub judge-requires : goal.judge-requires
judge-requires c = record {
  few = subst (λ (k : Kept). AreFew (seen k).view) (sym c.cache-2.ensures)
      (few c.args.cache.now c.relist.new.self c.args.journal.now.history c.requires.legal c.args.place c.entry-entry.result.now c.entry-entry.ensures c.requires.shows c.in_ok-relist.ensures.shows c.args.queue.now c.requires.queued);
}

pub returns-clause-queued : goal.returns-clause-queued
returns-clause-queued c =
    let there : (seen c.relist.new.self).view.pod (name_of c.entry-entry.result.now.act) ≡ Some c.in-Some.pod.now =
    subst (λ (n : List ℕ). (seen c.relist.new.self).view.pod n ≡ Some c.in-Some.pod.now) c.name.ensures
    (subst (λ (k : Kept). (seen k).view.pod c.name.result.now ≡ Some c.in-Some.pod.now) c.cache.ensures (sym c.in-Some.ensures)) in
    on_ok_weaker c.judge.result
    (λ judged. pod_queued c.args.cache.now c.relist.new.self c.args.journal.now.history c.requires.legal c.args.place c.entry-entry.result.now c.entry-entry.ensures c.requires.shows c.in_ok-relist.ensures.shows c.args.queue.now c.requires.queued
    c.requires.at c.in_ok-relist.ensures.fronts c.in-Some.pod.now there c.judge.new.queue
    (subst (λ (n : List ℕ). IsJudged (seen c.relist.new.self).view n c.args.queue.now c.judge.new.queue) c.as_str.ensures
    (subst (λ (k : Kept). IsJudged (seen k).view c.as_str.result.now c.args.queue.now c.judge.new.queue) c.cache-2.ensures judged)))
    c.judge.ensures
