use Rattle.std.proofs.Common.{◌≡◌, take}
use Rattle.std.specs.Prelude.{flat_map}
use Rattle.tk_labels.specs.Kept.{of_run}
use Rattle.tk_labels.specs.Local.{results_at}
use Rattle.tk_labels.proofs.judge.results_of.Given as goal

-- the results of the tasks so far
abbrev pub invariant-loop-place : goal.invariant-loop-place
invariant-loop-place l = l.made ≡ flat_map (results_at (of_run l.run l.kids)) (take l.place-index l.places)
