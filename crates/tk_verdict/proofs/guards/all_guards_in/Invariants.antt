use Rattle.std.proofs.Common.{◌≡◌, ◌++◌, map, drop}
use Rattle.std.specs.Option.{option_map}
use Rattle.tk_types.specs.Lists.{all_some}
use Rattle.tk_verdict.specs.Bindings.{guard_in}
use Rattle.tk_verdict.proofs.guards.all_guards_in.Given as goal

-- what is made so far, and what those that are left give, are the whole
abbrev pub invariant-loop-guard : goal.invariant-loop-guard
invariant-loop-guard l = option_map (λ rest. l.made ++ rest) (all_some (map (guard_in l.lookup) (drop l.guard-index l.guards))) ≡ all_some (map (guard_in l.lookup) l.guards)
