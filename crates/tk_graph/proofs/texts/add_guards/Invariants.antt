use Rattle.std.proofs.Common.{◌≡◌, ◌++◌, map, take}
use Rattle.tk_graph.specs.Results.{guards_texts}
use Rattle.tk_graph.proofs.texts.add_guards.Given as goal

-- the texts of the expressions so far stand behind those that were there
abbrev pub invariant-loop-guard : goal.invariant-loop-guard
invariant-loop-guard l = map (λ t. t.now) l.made.items ≡ map (λ t. t.now) l.fn.made.items ++ guards_texts (take l.guard-index l.guards)
