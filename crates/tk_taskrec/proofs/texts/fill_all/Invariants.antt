use Rattle.std.proofs.Common.{◌≡◌, map, drop}
use Rattle.tk_types.specs.Lists.{all_some}
use Rattle.tk_journal.specs.Plan.{filled}
use Rattle.tk_taskrec.specs.Planned.{step_of}
use Rattle.tk_taskrec.proofs.Gathered.{gathered}
use Rattle.tk_taskrec.proofs.texts.fill_all.Given as goal

-- the steps so far, and those to come
abbrev pub invariant-loop-step : goal.invariant-loop-step
invariant-loop-step l = gathered (filled l.lookup) (map step_of l.made.items) (drop l.step-index l.steps) ≡ all_some (map (filled l.lookup) l.steps)
