use Rattle.std.proofs.Common.{◌≡◌, ℕ, List, drop}
use Rattle.std.specs.List.{list_any}
use Rattle.tk_cache.specs.Views.{seen}
use Rattle.tk_world.specs.Looking.{has_open_run, is_open_run}
use Rattle.tk_world.proofs.looking.has_open_run.Given as goal

abbrev pub invariant-loop-place : goal.invariant-loop-place
invariant-loop-place l =
    list_any (λ (name : List ℕ). is_open_run ((seen l.cache).view.run name)) (drop l.place (seen l.cache).view.runs) ≡ has_open_run (seen l.cache).view
