use Rattle.std.proofs.Common.{◌≡◌, ℕ, ◌<◌}
use Rattle.tk_cache.specs.Views.{seen}
use Rattle.tk_steps.specs.Moves.{count_actions}
use Rattle.tk_held.specs.Placed.{ArePlaced, StayReady}
use Rattle.tk_held.specs.Pods.{AreApart, MovesAll, Rises, StayFailed, IsDoneAt}
use Rattle.tk_held.proofs.phases.arm_all.Given as goal

abbrev pub invariant-loop-place : goal.invariant-loop-place
invariant-loop-place g l = record {
  moves : MovesAll l.root l.initial.held l.held (g.H.Host.told l.initial.host) (g.H.Host.told l.host);
  ready : ArePlaced l.root l.initial.held → StayReady l.root l.initial.held l.held (g.H.Host.told l.initial.host) (g.H.Host.told l.host);
  rises : Rises l.initial.held l.held (g.H.Host.faults l.initial.host) (g.H.Host.faults l.host);
  failed : StayFailed l.initial.held l.held;
  apart : AreApart l.held;
  done : (place : ℕ) → place < l.place → IsDoneAt (seen l.cache).view l.moment l.held place;
  quiet : count_actions (g.H.Host.told l.host) ≡ count_actions (g.H.Host.told l.initial.host);
  killed : g.H.Host.killed l.host ≡ g.H.Host.killed l.initial.host;
  watches : g.H.Host.watches l.host ≡ g.H.Host.watches l.initial.host;
  plays : g.H.Host.plays l.host ≡ g.H.Host.plays l.initial.host;
}
