use Rattle.std.proofs.Common.{◌≡◌, ℕ, List, drop, None}
use Rattle.tk_cache.specs.Views.{seen}
use Rattle.tk_runrec.specs.Choice.{unmarked}
use Rattle.tk_runrec.specs.Found.{first_found}
use Rattle.tk_runrec.proofs.cancel.first_unmarked.Given as goal

-- the first of all is the first of the best one so far and those that are left
abbrev pub invariant-loop-place : goal.invariant-loop-place
invariant-loop-place l =
    first_found (λ (child : List ℕ). unmarked child l.fn.run ((seen l.fn.cache).view.task_run child)) None l.fn.names
    ≡ first_found (λ (child : List ℕ). unmarked child l.fn.run ((seen l.fn.cache).view.task_run child)) l.best (drop l.place l.fn.names)
