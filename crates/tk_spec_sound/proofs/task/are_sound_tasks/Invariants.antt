use Rattle.std.proofs.Common.{All, take}
use Rattle.tk_spec_sound.specs.Parts.{IsSoundTask}
use Rattle.tk_spec_sound.proofs.task.are_sound_tasks.Given as goal

-- the tasks so far keep the rules
abbrev pub invariant-loop-task : goal.invariant-loop-task
invariant-loop-task l = All (IsSoundTask l.values) (take l.task-index l.tasks)
