use Rattle.std.proofs.Common.{◌≡◌, length}
use Rattle.tk_run.specs.Asks.{IsNoneTried}
use Rattle.tk_run.proofs.asks.untried.Given as goal

abbrev pub invariant-loop : goal.invariant-loop
invariant-loop l = record {
  count : length l.tried.items ≡ l.counter;
  none : IsNoneTried l.tried.items;
}
