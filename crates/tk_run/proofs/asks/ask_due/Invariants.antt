use Rattle.std.proofs.Common.{◌≡◌, ◌≤◌, ℕ, length}
use Rattle.tk_journal.specs.Legal.{IsLegal}
use Rattle.tk_rounds.specs.Growth.{GrowsBy}
use Rattle.tk_run.specs.Asks.{AreTried, ClockTold, IsOfUser, UserFollows, clock_told}
use Rattle.tk_run.proofs.asks.ask_due.Given as goal

abbrev pub invariant-loop-place : goal.invariant-loop-place
invariant-loop-place g l = record {
  count : length l.asking.tried.items ≡ length l.fn.asking.tried.items;
  start : l.asking.start ≡ l.fn.asking.start;
  legal : IsLegal l.store.history;
  grows : GrowsBy IsOfUser l.fn.store.history l.store.history;
  asks : (since : ℕ) → since ≤ l.fn.asking.start → AreTried since l.words l.fn.asking.tried.items l.fn.store.history → AreTried since l.words l.asking.tried.items l.store.history;
  user : (since : ClockTold) → UserFollows since (clock_told g.K.Clock.readings g.K.Clock.last l.fn.user) l.fn.store.history → UserFollows since (clock_told g.K.Clock.readings g.K.Clock.last l.user) l.store.history;
  end : l.place-end ≡ length l.words;
}
