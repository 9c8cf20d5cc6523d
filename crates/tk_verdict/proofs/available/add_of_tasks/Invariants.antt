use Rattle.std.proofs.Common.{◌≡◌, ◌++◌, flat_map, take}
use Rattle.std.specs.List.{enumerate_from}
use Rattle.tk_types.specs.declared.run.Facts.{Facts}
use Rattle.tk_verdict.specs.Available.{available_of}
use Rattle.tk_verdict.proofs.available.add_of_tasks.Given as goal

-- the available results of the tasks so far are added
abbrev pub invariant-loop-place : goal.invariant-loop-place
invariant-loop-place l = (facts : Facts) → l.groups ≡ facts.children → l.made ≡ l.initial.made ++ flat_map (available_of facts) (enumerate_from l.first (take l.place l.tasks))
