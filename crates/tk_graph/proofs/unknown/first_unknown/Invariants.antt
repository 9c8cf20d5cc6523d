use Rattle.std.proofs.Common.{◌≡◌, drop}
use Rattle.tk_graph.specs.Unknown.{first_unknown as first_unknown_of}
use Rattle.tk_graph.proofs.UnknownFrom.{unknown_from}
use Rattle.tk_graph.proofs.unknown.first_unknown.Given as goal

-- the first is among the tasks to come
abbrev pub invariant-loop-place : goal.invariant-loop-place
invariant-loop-place l = unknown_from l.names l.place (drop l.place l.tasks) ≡ first_unknown_of l.names
