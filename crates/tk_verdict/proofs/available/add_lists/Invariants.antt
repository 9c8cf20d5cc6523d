use Rattle.std.proofs.Common.{◌≡◌, ◌++◌, map, take, filter_map, option_map}
use Rattle.std.specs.Prelude.{option_and_then}
use Rattle.tk_types.specs.declared.value.Param.{Param}
use Rattle.tk_types.specs.declared.value.Value.TheVariants.{Arr}
use Rattle.tk_types.specs.Lists.{all_some}
use Rattle.tk_types.specs.Value.{value_named}
use Rattle.tk_bind.specs.Substitute.{as_text}
use Rattle.tk_verdict.specs.GivenResults.{given}
use Rattle.tk_verdict.proofs.available.add_lists.Given as goal

-- the available results so far are added
abbrev pub invariant-loop-param : goal.invariant-loop-param
invariant-loop-param l =
    l.made ≡ l.initial.made ++ filter_map (λ (p : Param). option_map (given l.task p.name) (option_map Arr (all_some (map (λ params. option_and_then as_text (value_named p.name params)) l.indexes.items)))) (take l.param-index l.param-items)
