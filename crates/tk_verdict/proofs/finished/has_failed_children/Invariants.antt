use Rattle.std.proofs.Common.{◌≡◌, drop}
use Rattle.std.specs.List.{list_any}
use Rattle.tk_verdict.specs.Facts.{all_tasks}
use Rattle.tk_verdict.specs.Failures.{has_failure_among}
use Rattle.tk_verdict.proofs.finished.has_failed_children.Given as goal

-- the children that are left decide
abbrev pub invariant-loop-child : goal.invariant-loop-child
invariant-loop-child l = list_any (has_failure_among (all_tasks l.facts)) (drop l.child-index l.child-items) ≡ list_any (has_failure_among (all_tasks l.facts)) l.facts.children
