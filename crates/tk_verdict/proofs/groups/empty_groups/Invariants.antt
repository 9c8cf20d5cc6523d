use Rattle.std.proofs.Common.{◌≡◌, [], map, replicate}
use Rattle.tk_verdict.proofs.groups.empty_groups.Given as goal

-- as many empty groups as iterations
abbrev pub invariant-loop-i : goal.invariant-loop-i
invariant-loop-i l = map (λ group. map (λ child. child.now) group.items) l.groups.items ≡ replicate l._i []
