use Rattle.std.proofs.Common.{◌≡◌, map, drop}
use Rattle.std.specs.List.{list_any}
use Rattle.tk_verdict.specs.Facts.{is_running}
use Rattle.tk_verdict.proofs.children.is_any_running.Given as goal

-- the children that are left decide
abbrev pub invariant-loop-child : goal.invariant-loop-child
invariant-loop-child l = list_any is_running (map (λ c. c.now) (drop l.child-index l.children)) ≡ list_any is_running (map (λ c. c.now) l.children)
