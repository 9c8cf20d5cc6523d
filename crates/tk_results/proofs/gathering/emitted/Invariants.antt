use Rattle.std.proofs.Common.{◌≡◌, drop}
use Rattle.std.specs.List.{filter_map}
use Rattle.tk_types.specs.Lists.{all_ok}
use Rattle.tk_results.specs.Gathered.{emitted}
use Rattle.tk_results.proofs.AllRead.{behind}
use Rattle.tk_results.proofs.gathering.emitted.Given as goal

-- what is made, and what the declarations that are left give, is the answer
abbrev pub invariant-loop-spec : goal.invariant-loop-spec
invariant-loop-spec l = behind l.params (all_ok (filter_map (emitted l.files) (drop l.spec-index l.specs))) ≡ all_ok (filter_map (emitted l.files) l.specs)
