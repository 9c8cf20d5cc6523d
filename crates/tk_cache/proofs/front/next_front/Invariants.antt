use Rattle.std.specs.Prelude.{◌≡◌, ◌≤◌, ◌-◌, length}
use Rattle.tk_cache.specs.Fronts.{next_front}
use Rattle.tk_cache.proofs.front.next_front.Given as goal

-- what is left leads from here to the same front
abbrev pub invariant-loop-left : goal.invariant-loop-left
invariant-loop-left l = (next_front l.kind l.left l.at l.journal.history ≡ next_front l.kind l.n l.front l.journal.history) × (l.front ≤ l.at) × (l.at ≤ length l.journal.history)

abbrev pub decreases-loop-left : goal.decreases-loop-left
decreases-loop-left l = length l.journal.history - l.at
