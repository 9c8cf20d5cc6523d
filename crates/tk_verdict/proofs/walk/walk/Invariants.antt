use Rattle.tk_verdict.specs.Sequence.{IsSequence}
use Rattle.tk_verdict.proofs.Walking.{Walked}
use Rattle.tk_verdict.proofs.walk.walk.Given as goal

-- the labels of the tasks so far are right
pub record Kept (l : goal.Live-loop-task) : Type 0 where
  pub sequence : IsSequence l.ranks l.task-items
  pub walked : Walked l.facts l.task-items l.labels.items l.task-index

abbrev pub invariant-loop-task : goal.invariant-loop-task
invariant-loop-task l = Kept l
