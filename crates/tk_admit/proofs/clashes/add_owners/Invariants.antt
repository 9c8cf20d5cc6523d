use Rattle.std.proofs.Common.{◌≡◌, ◌++◌, map, replicate, Bor}
use Rattle.tk_types.specs.Place.{Place}
use Rattle.tk_admit.proofs.clashes.add_owners.Given as goal

-- so many copies stand behind those that were there
abbrev pub invariant-loop : goal.invariant-loop
invariant-loop l = map (λ (p : Bor Place). p.now) l.owners.items ≡ map (λ (p : Bor Place). p.now) l.initial.owners.items ++ replicate l.counter l.place
