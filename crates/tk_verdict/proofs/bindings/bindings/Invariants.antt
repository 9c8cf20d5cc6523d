use Rattle.std.proofs.Common.{◌≡◌, map, take}
use Rattle.tk_verdict.proofs.bindings.bindings.Given as goal

-- the bindings so far
abbrev pub invariant-loop-params : goal.invariant-loop-params
invariant-loop-params l = l.made ≡ map (λ params. record { params = params }) (take l.params-index l.combinations)
