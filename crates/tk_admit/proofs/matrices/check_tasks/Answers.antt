use Rattle.std.proofs.Common.{sym, ◌∙◌}
use Rattle.tk_admit.specs.Objects.{task_oversize}
use Rattle.tk_admit.specs.Sound.{HasFewChildren}
use Rattle.tk_admit.proofs.Steps.{all_done, all_step, first_step}
use Rattle.tk_admit.proofs.matrices.check_tasks.Goals as goal

pub loop-task-preserved : goal.loop-task-preserved
loop-task-preserved c =
    let spec = c.args.values.now in
    let tasks = c.args.tasks.now in
    let task = c.task-item.result in
    record {
      found = sym (first_step (task_oversize c.args.place.now spec) tasks c.loop-task.task-index task c.loop-task-test.true c.task-item.is c.in_ok-check_task.ensures.found.0) ∙ c.loop-task.invariant.found;
      few = all_step (HasFewChildren spec) tasks c.loop-task.task-index task c.loop-task-test.true c.task-item.is c.loop-task.invariant.few c.in_ok-check_task.ensures.few;
    }

pub returns-clause-few : goal.returns-clause-few
returns-clause-few c = all_done (HasFewChildren c.args.values.now) c.args.tasks.now c.loop-task.task-index c.loop-task-test.false c.loop-task.invariant.few
