use Rattle.std.proofs.Common.{◌≡◌, ◌++◌, map, take}
use Rattle.std.specs.List.{flat_map}
use Rattle.tk_graph.specs.Results.{params_texts}
use Rattle.tk_graph.proofs.texts.add_entries.Given as goal

-- the texts of the entries so far stand behind those that were there
abbrev pub invariant-loop-entry : goal.invariant-loop-entry
invariant-loop-entry l = map (λ t. t.now) l.made.items ≡ map (λ t. t.now) l.fn.made.items ++ flat_map params_texts (take l.entry-index l.entries)
