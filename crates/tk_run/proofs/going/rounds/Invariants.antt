use Rattle.std.proofs.Common.{◌≡◌, ◌≤◌, ℕ, length}
use Rattle.tk_cache.specs.Fronts.{Shows}
use Rattle.tk_cache.specs.Views.{seen}
use Rattle.tk_run.specs.Asks.{AreTried}
use Rattle.tk_run.specs.Going.{GoesOn, IsReady}
use Rattle.tk_run.proofs.going.rounds.Given as goal

abbrev pub invariant-loop : goal.invariant-loop
invariant-loop g l = record {
  ready : IsReady g.H.Host.told g.H.Host.killed l.store.history l.bench;
  shows : Shows (seen l.watch) l.store.history;
  goes : GoesOn g.G.Gate.answers g.K.Clock.readings g.K.Clock.last g.H.Host.told g.H.Host.faults l.fn.bench l.bench l.fn.store.history l.store.history;
  count : length l.asking.tried.items ≡ length l.words;
  start : l.asking.start ≡ l.fn.asking.start;
  asks : (since : ℕ) → since ≤ l.fn.asking.start → AreTried since l.words l.fn.asking.tried.items l.fn.store.history → AreTried since l.words l.asking.tried.items l.store.history;
}
