use Rattle.std.proofs.Common.{◌≡◌, ℕ, length}
use Rattle.tk_labels.specs.Spans.{span_at}
use Rattle.tk_labels.proofs.spans.padded.Given as goal

-- each task has the span that it had
pub record Padded (l : goal.Live-loop-i) : Type 0 where
  pub many : length l.made.items ≡ l._i
  pub same : (place : ℕ) → span_at l.made.items place ≡ span_at l.spans place

abbrev pub invariant-loop-i : goal.invariant-loop-i
invariant-loop-i l = Padded l
