use Rattle.std.proofs.Common.{◌≡◌, map, take}
use Rattle.tk_graph.specs.Cycle.{name_at}
use Rattle.tk_graph.proofs.walk.names_at.Given as goal

-- the names so far are those at the places so far
abbrev pub invariant-loop-place : goal.invariant-loop-place
invariant-loop-place l = l.names ≡ map (name_at l.tasks) (take l.place-index l.places)
