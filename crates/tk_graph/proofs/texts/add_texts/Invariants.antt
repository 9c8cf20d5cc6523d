use Rattle.std.proofs.Common.{◌≡◌, ◌++◌, map, take}
use Rattle.tk_graph.proofs.texts.add_texts.Given as goal

-- the texts so far stand behind those that were there
abbrev pub invariant-loop-text : goal.invariant-loop-text
invariant-loop-text l = map (λ t. t.now) l.made.items ≡ map (λ t. t.now) l.fn.made.items ++ take l.text-index l.texts
