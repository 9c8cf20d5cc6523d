use Rattle.std.proofs.Common.{◌≡◌, ◌++◌, take}
use Rattle.std.specs.Prelude.{flat_map}
use Rattle.tk_types.specs.declared.value.Pair.{Pair}
use Rattle.tk_graph.specs.Results.{text_tasks}
use Rattle.tk_graph.proofs.references.add_of_pairs.Given as goal

-- the names so far stand behind those that were there
abbrev pub invariant-loop-pair : goal.invariant-loop-pair
invariant-loop-pair l = l.names ≡ l.fn.names ++ flat_map (λ (p : Pair). text_tasks p.value) (take l.pair-index l.pairs)
