use Rattle.std.proofs.Common.{◌≡◌, map, drop, not}
use Rattle.std.specs.List.{list_any}
use Rattle.tk_verdict.specs.Facts.{has_ended, is_good_where}
use Rattle.tk_verdict.proofs.status.is_any_bad.Given as goal

-- the children that are left decide
abbrev pub invariant-loop-child : goal.invariant-loop-child
invariant-loop-child l =
    list_any (has_ended (λ outcome. not (is_good_where l.ignores outcome))) (map (λ c. c.now) (drop l.child-index l.children)) ≡ list_any (has_ended (λ outcome. not (is_good_where l.ignores outcome))) (map (λ c. c.now) l.children)
