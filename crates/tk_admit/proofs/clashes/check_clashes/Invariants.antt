use Rattle.std.proofs.Common.{◌≡◌, map, take, Bor}
use Rattle.tk_types.specs.Place.{Place}
use Rattle.tk_admit.specs.Names.{all_names, owners}
use Rattle.tk_admit.proofs.clashes.check_clashes.Given as goal

-- the names of the runs so far, with the places of their objects
abbrev pub invariant-loop-run : goal.invariant-loop-run
invariant-loop-run l = (l.names ≡ all_names (take l.run-index l.runs)) × (map (λ (p : Bor Place). p.now) l.owners.items ≡ owners (take l.run-index l.runs))
