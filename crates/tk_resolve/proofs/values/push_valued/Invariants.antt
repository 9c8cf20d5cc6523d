use Rattle.std.proofs.Common.{◌≡◌, ◌++◌, drop}
use Rattle.std.specs.List.{filter_map}
use Rattle.tk_resolve.specs.Values.{valued}
use Rattle.tk_resolve.proofs.values.push_valued.Given as goal

-- what is made so far, and what those that are left give, are the whole
abbrev pub invariant-loop-spec : goal.invariant-loop-spec
invariant-loop-spec l =
    let value = valued l.sources.given l.sources.outer l.sources.fallback in
    l.params ++ filter_map value (drop l.spec-index l.wanted) ≡ l.initial.params ++ filter_map value l.wanted
