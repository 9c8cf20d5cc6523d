use Rattle.std.proofs.Common.{◌≡◌, ◌∙◌, subst, length, get_or, List, ℕ, Bool, arith}
use Rattle.std.proofs.lemmas.List.{length-set}
use Rattle.tk_types.specs.declared.run.Facts.{Facts}
use Rattle.tk_types.specs.declared.verdict.Verdict.{Verdict}
use Rattle.tk_verdict.specs.declared.sequence.Ranked.{Ranked}
use Rattle.tk_graph.specs.Parents.{parents}
use Rattle.tk_verdict.proofs.Walking.{parents_at, parents_count, place_within}
use Rattle.tk_labels.specs.Kept.{of_run}
use Rattle.tk_labels.specs.Reached.{IsNext}
use Rattle.tk_labels.proofs.Walks.{Walks, Walks-all, Walks-none, next_walks}
use Rattle.tk_labels.proofs.walk.walk.Goals as goal

pub loop-next-init : goal.loop-next-init
loop-next-init c =
    let facts : Facts = of_run c.args.run.now c.args.kids.now in
    let many = parents_count c.args.run.now.spec.tasks c.args.parents.now c.requires.parents in
    record {
      count = omega (arith, many, c.in_ok-labels.ensures);
      marks = omega (arith, many, c.in_ok-moved.ensures);
      walks = λ old was. Walks-none old facts _ _ _ _ (omega (arith, many, c.in_ok-labels.ensures));
    }

pub bounds-parents-place : goal.bounds-parents-place
bounds-parents-place c =
    let ranked = c.requires.ranked in
    let small = place_within (of_run c.args.run.now c.args.kids.now) ranked.ranks _ c.loop-next.next-index (record { rank = 0; place = 0 }) ranked.ranking ranked.sequence c.loop-next-test.true in
    omega (arith, small, parents_count c.args.run.now.spec.tasks c.args.parents.now c.requires.parents)

pub next_label-requires-clause-parents : goal.next_label-requires-clause-parents
next_label-requires-clause-parents c =
    let ranked = c.requires.ranked in
    let zero : Ranked = record { rank = 0; place = 0 } in
    let small = place_within (of_run c.args.run.now c.args.kids.now) ranked.ranks _ c.loop-next.next-index zero ranked.ranking ranked.sequence c.loop-next-test.true in
    let place = (get_or c.args.sequence.now c.loop-next.next-index zero).place in
    c.as_slice-above.ensures ∙ (c.index-parents-place.is ∙ parents_at c.args.run.now.spec.tasks c.args.parents.now place _ c.requires.parents small)

pub next_label-requires-clause-exists : goal.next_label-requires-clause-exists
next_label-requires-clause-exists c =
    let ranked = c.requires.ranked in
    place_within (of_run c.args.run.now c.args.kids.now) ranked.ranks _ c.loop-next.next-index (record { rank = 0; place = 0 }) ranked.ranking ranked.sequence c.loop-next-test.true

pub index_mut-requires : goal.index_mut-requires
index_mut-requires c =
    let ranked = c.requires.ranked in
    let small = place_within (of_run c.args.run.now c.args.kids.now) ranked.ranks _ c.loop-next.next-index (record { rank = 0; place = 0 }) ranked.ranking ranked.sequence c.loop-next-test.true in
    omega (arith, small, c.loop-next.invariant.marks)

pub index_mut-requires-in-loop-next : goal.index_mut-requires-in-loop-next
index_mut-requires-in-loop-next c =
    let ranked = c.requires.ranked in
    let small = place_within (of_run c.args.run.now c.args.kids.now) ranked.ranks _ c.loop-next.next-index (record { rank = 0; place = 0 }) ranked.ranking ranked.sequence c.loop-next-test.true in
    omega (arith, small, c.loop-next.invariant.count)

pub loop-next-preserved : goal.loop-next-preserved
loop-next-preserved c =
    let ranked = c.requires.ranked in
    let facts : Facts = of_run c.args.run.now c.args.kids.now in
    let zero : Ranked = record { rank = 0; place = 0 } in
    let place = (get_or c.args.sequence.now c.loop-next.next-index zero).place in
    let small = place_within facts ranked.ranks _ c.loop-next.next-index zero ranked.ranking ranked.sequence c.loop-next-test.true in
    let above = c.as_slice-above.ensures ∙ (c.index-parents-place.is ∙ parents_at c.args.run.now.spec.tasks c.args.parents.now place _ c.requires.parents small) in
    let label = c.in_ok-told.told.label in
    let mark = c.in_ok-told.told.moved in
    let one = subst (λ (ls : List Verdict). IsNext facts ls c.as_slice-in-loop-next.result.now c.as_slice-above.result.now c.label_at.result place c.args.task label mark) c.as_slice.ensures.value c.in_ok-told.ensures in
    let two = subst (λ (ms : List Bool). IsNext facts c.loop-next.labels.items ms c.as_slice-above.result.now c.label_at.result place c.args.task label mark) c.as_slice-in-loop-next.ensures.value one in
    let three = subst (λ (ps : List ℕ). IsNext facts c.loop-next.labels.items c.loop-next.moved.items ps c.label_at.result place c.args.task label mark) above two in
    let next = subst (λ (v : Verdict). IsNext facts c.loop-next.labels.items c.loop-next.moved.items (parents facts.spec.tasks place) v place c.args.task label mark) c.label_at.ensures three in
    record {
      count = length-set c.loop-next.labels.items place label ∙ c.loop-next.invariant.count;
      marks = length-set c.loop-next.moved.items place mark ∙ c.loop-next.invariant.marks;
      walks = λ old was. next_walks c.one_bad_offset.ensures.good old facts c.args.task c.args.was.now was ranked.ranks c.args.sequence.now c.loop-next.labels.items c.loop-next.moved.items c.loop-next.next-index zero
          label mark ranked.ranking ranked.sequence (c.loop-next.invariant.walks old was) c.loop-next-test.true c.loop-next.invariant.marks next;
    }

pub returns-clause-right : goal.returns-clause-right
returns-clause-right c = λ old was place within.
    let ranked = c.requires.ranked in
    let facts : Facts = of_run c.args.run.now c.args.kids.now in
    let all : c.loop-next.next-index ≡ length c.args.sequence.now = omega arith in
    Walks-all old facts ranked.ranks c.args.sequence.now c.args.was.now c.loop-next.labels.items c.loop-next.moved.items ranked.ranking ranked.sequence
    (subst (λ (n : ℕ). Walks old facts c.args.sequence.now c.args.was.now c.loop-next.labels.items c.loop-next.moved.items n) all (c.loop-next.invariant.walks old was)) place within
