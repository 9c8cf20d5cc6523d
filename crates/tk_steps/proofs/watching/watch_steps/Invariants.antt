use Rattle.std.proofs.Common.{◌≡◌, ◌<◌, ℕ, length, take, Some, slice_get}
use Rattle.std.specs.Prelude.{◌⊎◌}
use Rattle.tk_edge.specs.Causes.{raised}
use Rattle.tk_steps.specs.Watched.{children_of}
use Rattle.tk_steps.specs.Played.{WatchesFrom}
use Rattle.tk_steps.specs.Ready.{ReadyIsSo}
use Rattle.tk_steps.specs.Moves.{Moves, Acts}
use Rattle.tk_steps.proofs.watching.watch_steps.Given as goal

abbrev pub invariant-loop-place : goal.invariant-loop-place
invariant-loop-place g l = record {
  moves : Moves l.root l.initial.pod l.pod (g.H.Host.told l.initial.host) (g.H.Host.told l.host);
  actions : Acts l.acted (g.H.Host.told l.initial.host) (g.H.Host.told l.host);
  steps : length l.pod.steps.items ≡ length l.initial.pod.steps.items;
  failed : l.pod.failed ≡ l.initial.pod.failed;
  killed : g.H.Host.killed l.host ≡ g.H.Host.killed l.initial.host;
  plays : g.H.Host.plays l.host ≡ g.H.Host.plays l.initial.host;
  count : g.H.Host.faults l.host ≡ g.H.Host.faults l.initial.host;
  children : children_of l.pod ≡ children_of l.initial.pod;
  watched : (i child : ℕ) → i < l.place → slice_get (children_of l.initial.pod) i ≡ Some child → g.H.Host.watches l.host child ≡ raised (g.H.Host.watches l.initial.host child);
  turns : WatchesFrom (g.H.Host.plays l.initial.host) (g.H.Host.killed l.initial.host) l.initial.pod.name 0 (take l.place (children_of l.initial.pod)) (g.H.Host.told l.initial.host) (g.H.Host.told l.host);
  only : (child : ℕ) → (g.H.Host.watches l.host child ≡ g.H.Host.watches l.initial.host child) ⊎ ((i : ℕ) × (i < l.place) × (slice_get (children_of l.initial.pod) i ≡ Some child) × (g.H.Host.watches l.host child ≡ raised (g.H.Host.watches l.initial.host child)));
  stays : ReadyIsSo l.root l.initial.pod (g.H.Host.told l.initial.host) → ReadyIsSo l.root l.pod (g.H.Host.told l.host);
}
