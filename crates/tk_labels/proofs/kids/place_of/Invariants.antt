use Rattle.std.proofs.Common.{◌≡◌, ℕ, ◌<◌, false, get_or}
use Rattle.tk_types.specs.declared.run.Child.{Child}
use Rattle.tk_labels.specs.Change.{runs_at}
use Rattle.tk_labels.proofs.kids.place_of.Given as goal

-- none before is the child
abbrev pub invariant-loop-place : goal.invariant-loop-place
invariant-loop-place l = (k : ℕ) → k < l.place → (d : Child) → runs_at l.task l.index (get_or l.children k d) ≡ false
