use Rattle.std.proofs.Common.{◌≡◌, ◌++◌, drop, map}
use Rattle.tk_admit.specs.Command.{scenarios_of}
use Rattle.tk_admit.proofs.command.scenarios_of.Given as goal

-- those so far, and those that are left
abbrev pub invariant-loop-item : goal.invariant-loop-item
invariant-loop-item l = map (λ i. i.now) l.found.items ++ scenarios_of (drop l.item-index l.items) ≡ scenarios_of l.items
