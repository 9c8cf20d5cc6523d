use Rattle.std.proofs.Common.{◌≡◌, ◌++◌, map, drop}
use Rattle.std.specs.Option.{option_map}
use Rattle.tk_types.specs.Lists.{all_some}
use Rattle.tk_bind.specs.Params.{list_in}
use Rattle.tk_bind.proofs.params.lists_in.Given as goal

-- what is made so far, and what those that are left give, are the whole
abbrev pub invariant-loop-param : goal.invariant-loop-param
invariant-loop-param l = option_map (λ rest. l.made ++ rest) (all_some (map (list_in l.lookup) (drop l.param-index l.params))) ≡ all_some (map (list_in l.lookup) l.params)
