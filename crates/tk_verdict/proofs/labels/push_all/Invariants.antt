use Rattle.std.proofs.Common.{◌≡◌, ◌++◌, take}
use Rattle.tk_verdict.proofs.labels.push_all.Given as goal

-- the labels so far are added
abbrev pub invariant-loop-label : goal.invariant-loop-label
invariant-loop-label l = l.labels.items ≡ l.fn.labels.items ++ take l.label-index l.more
