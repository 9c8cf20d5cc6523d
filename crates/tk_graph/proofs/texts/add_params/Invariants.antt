use Rattle.std.proofs.Common.{◌≡◌, ◌++◌, map, take}
use Rattle.tk_graph.specs.Results.{params_texts}
use Rattle.tk_graph.proofs.texts.add_params.Given as goal

-- the texts of the parameters so far stand behind those that were there
abbrev pub invariant-loop-param : goal.invariant-loop-param
invariant-loop-param l = map (λ t. t.now) l.made.items ≡ map (λ t. t.now) l.fn.made.items ++ params_texts (take l.param-index l.params)
