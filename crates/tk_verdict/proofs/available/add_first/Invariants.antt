use Rattle.std.proofs.Common.{◌≡◌, ◌++◌, map, take, filter_map, option_map}
use Rattle.tk_types.specs.Value.{value_named}
use Rattle.tk_verdict.specs.declared.emitted.EmittedResult.{EmittedResult}
use Rattle.tk_verdict.specs.GivenResults.{given}
use Rattle.tk_verdict.proofs.available.add_first.Given as goal

-- the available results so far are added
abbrev pub invariant-loop-result : goal.invariant-loop-result
invariant-loop-result l =
    let param = λ (result : EmittedResult). result.param.now in
    l.made ≡ l.initial.made ++ filter_map (λ (result : EmittedResult). option_map (given l.task result.param.now.name) (value_named result.param.now.name (map param l.result-items))) (take l.result-index l.result-items)
