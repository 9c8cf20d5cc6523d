use Rattle.std.proofs.Common.{◌≡◌, ◌++◌, map, take}
use Rattle.tk_types.specs.declared.value.Pair.{Pair}
use Rattle.tk_resolve.specs.declared.due.Due.TheVariants.{OneText}
use Rattle.tk_resolve.specs.Due.{seen}
use Rattle.tk_resolve.proofs.due.add_pairs.Given as goal

-- the texts of the pairs so far stand behind those that were there
abbrev pub invariant-loop-pair : goal.invariant-loop-pair
invariant-loop-pair l = seen l.made.items ≡ seen l.fn.made.items ++ map (λ (p : Pair). (OneText, p.value)) (take l.pair-index l.pairs)
