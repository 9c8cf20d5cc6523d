use Rattle.std.proofs.Common.{◌≡◌, ◌++◌, map, take}
use Rattle.tk_types.specs.declared.value.Pair.{Pair}
use Rattle.tk_graph.proofs.texts.add_pairs.Given as goal

-- the texts of the pairs so far stand behind those that were there
abbrev pub invariant-loop-pair : goal.invariant-loop-pair
invariant-loop-pair l = map (λ t. t.now) l.made.items ≡ map (λ t. t.now) l.fn.made.items ++ map (λ (p : Pair). p.value) (take l.pair-index l.pairs)
