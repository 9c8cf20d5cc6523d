use Rattle.std.proofs.Common.{◌≡◌}
use Rattle.tk_cache.specs.Views.{seen}
use Rattle.tk_steps.specs.Moves.{Acts}
use Rattle.tk_held.specs.Placed.{ArePlaced, StayReady}
use Rattle.tk_held.specs.Pods.{AreApart, MovesAll, Rises, StayFailed, StaysDone, count_failed}
use Rattle.tk_held.proofs.Plays.{ArePlayedBelow}
use Rattle.tk_held.proofs.Watches.{AreWatchedBelow, WatchesBelow}
use Rattle.tk_held.proofs.phases.watch_all.Given as goal

abbrev pub invariant-loop-place : goal.invariant-loop-place
invariant-loop-place g l = record {
  moves : MovesAll l.root l.initial.held l.held (g.H.Host.told l.initial.host) (g.H.Host.told l.host);
  ready : ArePlaced l.root l.initial.held → StayReady l.root l.initial.held l.held (g.H.Host.told l.initial.host) (g.H.Host.told l.host);
  rises : Rises l.initial.held l.held (g.H.Host.faults l.initial.host) (g.H.Host.faults l.host);
  failed : StayFailed l.initial.held l.held;
  apart : AreApart l.held;
  actions : count_failed l.held ≡ count_failed l.initial.held → Acts l.acted (g.H.Host.told l.initial.host) (g.H.Host.told l.host);
  done : StaysDone l.initial.held l.held;
  killed : g.H.Host.killed l.host ≡ g.H.Host.killed l.initial.host;
  plays : g.H.Host.plays l.host ≡ g.H.Host.plays l.initial.host;
  watched : AreWatchedBelow (seen l.cache).view l.moment l.held l.place (g.H.Host.watches l.initial.host) (g.H.Host.watches l.host);
  played : ArePlayedBelow (seen l.cache).view l.moment l.held l.place (g.H.Host.plays l.initial.host) (g.H.Host.killed l.initial.host) (g.H.Host.told l.initial.host) (g.H.Host.told l.host);
  only : WatchesBelow (seen l.cache).view l.moment l.held l.place (g.H.Host.watches l.initial.host) (g.H.Host.watches l.host);
}
