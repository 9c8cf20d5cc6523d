use Rattle.std.proofs.Common.{◌≡◌, take, map, Ok}
use Rattle.tk_types.specs.Lists.{all_ok}
use Rattle.tk_bind.specs.Bind.{bound_param}
use Rattle.tk_bind.proofs.bind.bound_all.Given as goal

-- the wanted parameters so far have these values
abbrev pub invariant-loop-spec : goal.invariant-loop-spec
invariant-loop-spec l = all_ok (map (bound_param l.sources.given l.sources.outer l.sources.fallback) (take l.spec-index l.wanted)) ≡ Ok l.params
