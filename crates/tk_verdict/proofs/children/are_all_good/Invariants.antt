use Rattle.std.proofs.Common.{◌≡◌, map, drop}
use Rattle.std.specs.List.{list_all}
use Rattle.tk_verdict.specs.Facts.{has_ended, is_good_where}
use Rattle.tk_verdict.proofs.children.are_all_good.Given as goal

-- the children that are left decide
abbrev pub invariant-loop-child : goal.invariant-loop-child
invariant-loop-child l =
    list_all (has_ended (is_good_where l.ignores)) (map (λ c. c.now) (drop l.child-index l.children)) ≡ list_all (has_ended (is_good_where l.ignores)) (map (λ c. c.now) l.children)
