use Rattle.std.proofs.Common.{◌≡◌, not, take}
use Rattle.std.specs.List.{filter}
use Rattle.tk_types.specs.declared.value.ParamSpec.{ParamSpec}
use Rattle.tk_types.specs.Names.{is_in}
use Rattle.tk_resolve.proofs.beside.early_specs.Given as goal

-- those of the parameters so far that aren't late
abbrev pub invariant-loop-spec : goal.invariant-loop-spec
invariant-loop-spec l = l.specs ≡ filter (λ (w : ParamSpec). not (is_in l.late w.name)) (take l.spec-index l.params)
