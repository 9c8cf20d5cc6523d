use Rattle.std.proofs.Common.{◌≡◌, take}
use Rattle.tk_journal.specs.PodRows.{walk_of}
use Rattle.tk_outcome.specs.Exits.{exits_of}
use Rattle.tk_outcome.proofs.walking.walked.Given as goal

abbrev pub invariant-loop-step : goal.invariant-loop-step
invariant-loop-step l = record {
  same : l.step-items ≡ l.pod.steps.items;
  walk : l.walk ≡ walk_of l.pod.plan (exits_of (take l.step-index l.pod.steps.items));
}
