use Rattle.std.proofs.Common.{◌≡◌, ℕ, length}
use Rattle.tk_run.specs.Asks.{AreTried}
use Rattle.tk_run.proofs.asks.refuse_rest.Given as goal

abbrev pub invariant-loop-place : goal.invariant-loop-place
invariant-loop-place l = record {
  count : length l.asking.tried.items ≡ length l.fn.asking.tried.items;
  start : l.asking.start ≡ l.fn.asking.start;
  asks : (since : ℕ) → AreTried since l.words l.fn.asking.tried.items l.store.history → AreTried since l.words l.asking.tried.items l.store.history;
  end : l.place-end ≡ length l.words;
}
