use Rattle.std.proofs.Common.{◌∙◌, eqb, get_or, take, inl, inr, sym, ap, arith}
use Rattle.std.proofs.lemmas.Bool.{or_cases, eqb-true}
use Rattle.std.proofs.lemmas.List.{take_all}
use Rattle.std.proofs.lemmas.List.Folds.{list_any_more}
use Rattle.tk_graph.specs.Cycle.{is_among}
use Rattle.tk_graph.proofs.removal.settle_all.Goals as goal

pub loop-task-preserved : goal.loop-task-preserved
loop-task-preserved c =
    let tasks = c.args.tasks.now in
    let i = c.loop-task.task-index in
    let before = c.loop-task.invariant.settled in
    record {
      removing = c.in_ok-settle.ensures.removing;
      more = omega (arith, c.settle.ensures.more, c.loop-task.invariant.more);
      settled = λ step place le low old.
          c.in_ok-settle.ensures.settled step place (omega (arith, c.loop-task.invariant.more)) low
          (elim old [
            | inl among ↦
                elim (or_cases (is_among (take i tasks) place) (eqb place (get_or tasks i 0)) (sym (list_any_more (λ p. eqb place p) tasks i 0 c.loop-task-test.true) ∙ among)) [
                  | inl earlier ↦ inr (before step place le low (inl earlier))
                  | inr now ↦ inl (eqb-true place (get_or tasks i 0) now)
                ]
            | inr waits ↦ inr (before step place le low (inr waits))
          ]);
    }

pub returns-clause-settled : goal.returns-clause-settled
returns-clause-settled c = λ step place le low old.
    let tasks = c.args.tasks.now in
    c.loop-task.invariant.settled step place le low
    (elim old [
      | inl among ↦ inl (ap (λ xs. is_among xs place) (take_all c.loop-task.task-index tasks c.loop-task-test.false) ∙ among)
      | inr waits ↦ inr waits
    ])
