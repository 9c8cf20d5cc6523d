use Rattle.std.proofs.Common.{◌≡◌, ◌++◌, take}
use Rattle.std.specs.Prelude.{flat_map}
use Rattle.tk_graph.specs.Tasks.{piece_tasks}
use Rattle.tk_graph.proofs.references.add_of_pieces.Given as goal

-- the names so far stand behind those that were there
abbrev pub invariant-loop-piece : goal.invariant-loop-piece
invariant-loop-piece l = l.names ≡ l.fn.names ++ flat_map piece_tasks (take l.piece-index l.pieces)
