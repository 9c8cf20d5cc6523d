use Rattle.std.proofs.Common.{◌≡◌, map, drop}
use Rattle.std.specs.List.{list_all}
use Rattle.tk_verdict.specs.Facts.{has_ended, is_good}
use Rattle.tk_verdict.proofs.available.are_good.Given as goal

-- the children that are left decide
abbrev pub invariant-loop-child : goal.invariant-loop-child
invariant-loop-child l = list_all (has_ended (is_good l.task)) (map (λ child. child.now) (drop l.child-index l.children)) ≡ list_all (has_ended (is_good l.task)) (map (λ child. child.now) l.children)
