use Rattle.std.proofs.Common.{◌≡◌, ◌∙◌, ap, sym, subst, length, get_or, List, ℕ, arith}
use Rattle.tk_types.specs.declared.verdict.Verdict.{Verdict}
use Rattle.tk_verdict.specs.declared.sequence.Ranked.{Ranked}
use Rattle.tk_verdict.specs.Labels.{verdict_line}
use Rattle.tk_verdict.specs.Sequence.{IsSequence}
use Rattle.tk_verdict.proofs.Walking.{Walked, Walked-none, Walked-more, Walked-all, place_within, parents_at, parents_count}
use Rattle.tk_verdict.proofs.walk.walk.Goals as goal

pub loop-task-init : goal.loop-task-init
loop-task-init c =
    record {
      sequence = subst (λ (s : List Ranked). IsSequence c.args.ranks.now s) (sym c.deref-task-items.ensures.value) c.in_ok-sequence.ensures;
      walked = Walked-none c.args.facts.now _ _ (omega (arith, c.requires.ranking.count));
    }

pub bounds-parents-place : goal.bounds-parents-place
bounds-parents-place c =
    let small = place_within c.args.facts.now c.args.ranks.now _ c.loop-task.task-index (record { rank = 0; place = 0 }) c.requires.ranking c.loop-task.invariant.sequence c.loop-task-test.true in
    omega (arith, small, parents_count c.args.facts.now.spec.tasks c.args.parents.now c.requires.parents)

pub judge_task-requires-clause-parents : goal.judge_task-requires-clause-parents
judge_task-requires-clause-parents c =
    let zero : Ranked = record { rank = 0; place = 0 } in
    let small = place_within c.args.facts.now c.args.ranks.now _ c.loop-task.task-index zero c.requires.ranking c.loop-task.invariant.sequence c.loop-task-test.true in
    let place = (get_or c.deref-task-items.result.now c.loop-task.task-index zero).place in
    c.as_slice-above.ensures ∙ (c.index-parents-place.is ∙ parents_at c.args.facts.now.spec.tasks c.args.parents.now place _ c.requires.parents small)

pub judge_task-requires-clause-exists : goal.judge_task-requires-clause-exists
judge_task-requires-clause-exists c =
    place_within c.args.facts.now c.args.ranks.now _ c.loop-task.task-index (record { rank = 0; place = 0 }) c.requires.ranking c.loop-task.invariant.sequence c.loop-task-test.true

pub index_mut-requires : goal.index_mut-requires
index_mut-requires c =
    let small = place_within c.args.facts.now c.args.ranks.now _ c.loop-task.task-index (record { rank = 0; place = 0 }) c.requires.ranking c.loop-task.invariant.sequence c.loop-task-test.true in
    omega (arith, small, c.loop-task.invariant.walked.count)

pub loop-task-preserved : goal.loop-task-preserved
loop-task-preserved c =
    let zero : Ranked = record { rank = 0; place = 0 } in
    let place = (get_or c.deref-task-items.result.now c.loop-task.task-index zero).place in
    record {
      sequence = c.loop-task.invariant.sequence;
      walked =
          Walked-more c.args.facts.now c.args.ranks.now _ c.loop-task.labels.items c.loop-task.task-index zero c.in_ok-label.label c.requires.ranking
          c.loop-task.invariant.sequence c.loop-task.invariant.walked c.loop-task-test.true
          (c.in_ok-label.ensures ∙ ap (λ (ls : List Verdict). verdict_line c.args.facts.now ls place) c.as_slice.ensures.value);
    }

pub returns-clause-right : goal.returns-clause-right
returns-clause-right c =
    let all : c.loop-task.task-index ≡ length c.deref-task-items.result.now = omega arith in
    Walked-all c.args.facts.now c.args.ranks.now c.deref-task-items.result.now c.loop-task.labels.items c.requires.ranking c.loop-task.invariant.sequence
    (subst (λ (n : ℕ). Walked c.args.facts.now c.deref-task-items.result.now c.loop-task.labels.items n) all c.loop-task.invariant.walked)
