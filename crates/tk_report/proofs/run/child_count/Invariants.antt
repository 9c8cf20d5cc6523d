use Rattle.std.proofs.Common.{◌≡◌, drop}
use Rattle.tk_journal.specs.Effects.{bindings_for}
use Rattle.tk_report.proofs.run.child_count.Given as goal

-- the task is among those that are left
abbrev pub invariant-loop-part : goal.invariant-loop-part
invariant-loop-part l = bindings_for l.place (drop l.part-index l.scheduled) ≡ bindings_for l.place l.scheduled
