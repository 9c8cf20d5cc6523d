use Rattle.std.proofs.Common.{◌+◌, ◌∙◌, ap}
use Rattle.tk_verdict.specs.Available.{available_of}
use Rattle.tk_verdict.specs.Facts.{children_at}
use Rattle.tk_verdict.proofs.AvailableFacts.{tasks_more}
use Rattle.tk_verdict.proofs.available.add_of_tasks.Goals as goal

pub loop-place-preserved : goal.loop-place-preserved
loop-place-preserved c = λ facts same.
    let place = c.args.first + c.loop-place.place in
    tasks_more (available_of facts) c.args.tasks.now c.args.first c.loop-place.place c.index-tasks-place.result c.args.made.now c.loop-place.made c.add_of_task.new.made
    c.loop-place-test.true c.index-tasks-place.is (c.loop-place.invariant facts same)
    (c.in_ok-add_of_task.ensures facts place (c.at.ensures ∙ ap (λ children. children_at children place) same))
