use Rattle.std.proofs.Common.{◌≡◌, take}
use Rattle.std.specs.List.{flat_map}
use Rattle.tk_graph.specs.Index.{places_of_name}
use Rattle.tk_graph.proofs.above.gathered.Given as goal

-- the places so far are those of the names so far
abbrev pub invariant-loop-name : goal.invariant-loop-name
invariant-loop-name l = l.places.items ≡ flat_map (places_of_name l.names) (take l.name-index l.wanted)
