use Rattle.std.proofs.Common.{◌≡◌, ◌++◌, map, drop}
use Rattle.std.specs.Prelude.{option_and_then}
use Rattle.std.specs.Option.{option_map}
use Rattle.tk_types.specs.Lists.{all_some}
use Rattle.tk_types.specs.Value.{value_named}
use Rattle.tk_bind.specs.Substitute.{as_text}
use Rattle.tk_verdict.proofs.available.texts_named.Given as goal

-- the texts so far, and those of the children that are left, are the whole
abbrev pub invariant-loop-index : goal.invariant-loop-index
invariant-loop-index l =
    option_map (λ rest. l.texts ++ rest) (all_some (map (λ params. option_and_then as_text (value_named l.name params)) (drop l.index-index l.indexes)))
    ≡ all_some (map (λ params. option_and_then as_text (value_named l.name params)) l.indexes)
