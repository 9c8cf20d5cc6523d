use Rattle.std.proofs.Common.{◌≡◌, ℕ, List, drop}
use Rattle.std.specs.List.{list_any}
use Rattle.tk_cache.specs.Views.{seen}
use Rattle.tk_world.specs.Looking.{has_open_task_run, is_open_task_run}
use Rattle.tk_world.proofs.looking.has_open_task_run.Given as goal

abbrev pub invariant-loop-place : goal.invariant-loop-place
invariant-loop-place l =
    list_any (λ (name : List ℕ). is_open_task_run ((seen l.cache).view.task_run name)) (drop l.place (seen l.cache).view.task_runs) ≡ has_open_task_run (seen l.cache).view
