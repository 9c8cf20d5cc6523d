use Rattle.std.proofs.Common.{◌≡◌, ◌++◌, take}
use Rattle.tk_graph.proofs.above.add_copies.Given as goal

-- the names so far stand behind those that were there
abbrev pub invariant-loop-name : goal.invariant-loop-name
invariant-loop-name l = l.names ≡ l.fn.names ++ take l.name-index l.wanted
