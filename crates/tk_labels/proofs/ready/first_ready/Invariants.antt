use Rattle.std.proofs.Common.{◌≢◌, ℕ, ◌<◌}
use Rattle.tk_types.specs.declared.verdict.Verdict.TheVariants.{Ready}
use Rattle.tk_verdict.specs.Verdict.{label_at}
use Rattle.tk_labels.proofs.ready.first_ready.Given as goal

-- no task before is Ready
abbrev pub invariant-loop-place : goal.invariant-loop-place
invariant-loop-place l = (k : ℕ) → k < l.place → label_at l.labels k ≢ Ready
