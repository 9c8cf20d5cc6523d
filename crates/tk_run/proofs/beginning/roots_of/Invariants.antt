use Rattle.std.proofs.Common.{◌≡◌, ℕ, List, length}
use Rattle.std.specs.Prelude.{All}
use Rattle.tk_run.proofs.beginning.roots_of.Given as goal

abbrev pub invariant-loop : goal.invariant-loop
invariant-loop l = record {
  count : length l.roots.items ≡ l.counter;
  each : All (λ (r : List ℕ). r ≡ l.root) l.roots.items;
}
