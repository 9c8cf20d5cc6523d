use Rattle.std.proofs.Common.{◌≡◌, ◌++◌, map, drop}
use Rattle.std.specs.Option.{option_map}
use Rattle.tk_types.specs.Lists.{all_some}
use Rattle.tk_bind.specs.Params.{params_in}
use Rattle.tk_bind.proofs.params.entries_in.Given as goal

-- what is made so far, and what those that are left give, are the whole
abbrev pub invariant-loop-entry : goal.invariant-loop-entry
invariant-loop-entry l = option_map (λ rest. l.made ++ rest) (all_some (map (params_in l.lookup) (drop l.entry-index l.entries))) ≡ all_some (map (params_in l.lookup) l.entries)
