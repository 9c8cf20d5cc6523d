use Rattle.std.proofs.Common.{◌≡◌, take}
use Rattle.tk_validate.specs.Seen.{declared_seen}
use Rattle.tk_validate.proofs.seen.outside.declared_seen.Given as goal

-- the parameters so far
abbrev pub invariant-loop-param : goal.invariant-loop-param
invariant-loop-param l = l.made ≡ declared_seen (take l.param-index l.params)
