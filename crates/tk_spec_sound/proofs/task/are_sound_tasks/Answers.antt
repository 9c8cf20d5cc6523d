use Rattle.tk_spec_sound.specs.Parts.{IsSoundTask}
use Rattle.tk_spec_sound.proofs.Answers.{no_is, refused_by, yes_is}
use Rattle.tk_spec_sound.proofs.Every.{all_done, all_more, not_each}
use Rattle.tk_spec_sound.proofs.task.are_sound_tasks.Goals as goal

pub loop-task-preserved : goal.loop-task-preserved
loop-task-preserved c =
    all_more (IsSoundTask c.args.values.now) c.args.tasks.now c.loop-task.task-index c.task-item.result c.loop-task-test.true c.task-item.is c.loop-task.invariant (c.in_ok-is_sound_task.ensures.0 c.if-not-branch.false)

pub returns : goal.returns
returns c = yes_is (all_done (IsSoundTask c.args.values.now) c.args.tasks.now c.loop-task.task-index c.loop-task-test.false c.loop-task.invariant)

pub returns-then-not-branch : goal.returns-then-not-branch
returns-then-not-branch c =
    no_is (λ each. not_each (IsSoundTask c.args.values.now) c.args.tasks.now c.loop-task.task-index c.task-item.result c.loop-task-test.true c.task-item.is (refused_by c.in_ok-is_sound_task.field-0 c.in_ok-is_sound_task.ensures c.if-not-branch.true) each)
