use Rattle.std.proofs.Common.{◌≡◌, map, take}
use Rattle.tk_report.specs.Guards.{guard_shown}
use Rattle.tk_report.proofs.guards.guards_in.Given as goal

-- those so far
abbrev pub invariant-loop-guard : goal.invariant-loop-guard
invariant-loop-guard l = l.shown ≡ map (guard_shown l.lookup) (take l.guard-index l.guards)
