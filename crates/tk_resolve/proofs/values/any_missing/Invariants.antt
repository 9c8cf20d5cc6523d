use Rattle.std.proofs.Common.{◌≡◌, Bool, drop}
use Rattle.std.specs.List.{list_any}
use Rattle.tk_types.specs.declared.value.ParamSpec.{ParamSpec}
use Rattle.tk_bind.specs.Bind.{bound_param}
use Rattle.tk_resolve.specs.Values.{is_missing}
use Rattle.tk_resolve.proofs.values.any_missing.Given as goal

-- the parameters that are left decide
abbrev pub invariant-loop-spec : goal.invariant-loop-spec
invariant-loop-spec l =
    let test : ParamSpec → Bool = λ w. is_missing (bound_param l.sources.given l.sources.outer l.sources.fallback w) in
    list_any test (drop l.spec-index l.wanted) ≡ list_any test l.wanted
