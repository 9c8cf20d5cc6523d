use Rattle.std.proofs.Common.{◌≡◌, drop}
use Rattle.std.specs.List.{list_any}
use Rattle.tk_resolve.specs.Run.{task_lacks}
use Rattle.tk_resolve.proofs.admission.Admission.tasks_lack.Given as goal

-- the tasks that are left decide
abbrev pub invariant-loop-declarer : goal.invariant-loop-declarer
invariant-loop-declarer l = list_any (task_lacks l.self.0 l.self.1) (drop l.declarer-index l.tasks) ≡ list_any (task_lacks l.self.0 l.self.1) l.tasks
