use Rattle.std.proofs.Common.{◌≡◌, drop}
use Rattle.std.specs.List.{enumerate_from, list_any}
use Rattle.tk_verdict.specs.Status.{has_bad_child_among}
use Rattle.tk_verdict.proofs.status.has_bad_children.Given as goal

-- the tasks that are left decide
abbrev pub invariant-loop-place : goal.invariant-loop-place
invariant-loop-place l = list_any (has_bad_child_among l.groups) (enumerate_from l.place (drop l.place l.tasks)) ≡ list_any (has_bad_child_among l.groups) (enumerate_from 0 l.tasks)
