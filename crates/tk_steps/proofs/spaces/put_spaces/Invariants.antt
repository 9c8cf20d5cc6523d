use Rattle.std.proofs.Common.{◌≡◌}
use Rattle.std.specs.Prelude.{ℕ, ◌<◌, true, List, Some, slice_get}
use Rattle.tk_edge.specs.History.{was_put}
use Rattle.tk_steps.specs.Ready.{space_file}
use Rattle.tk_steps.specs.Moves.{Moves, count_actions}
use Rattle.tk_steps.proofs.spaces.put_spaces.Given as goal

abbrev pub invariant-loop-place : goal.invariant-loop-place
invariant-loop-place g l = record {
  moves : Moves l.root l.pod l.pod (g.H.Host.told l.initial.host) (g.H.Host.told l.host);
  quiet : count_actions (g.H.Host.told l.host) ≡ count_actions (g.H.Host.told l.initial.host);
  killed : g.H.Host.killed l.host ≡ g.H.Host.killed l.initial.host;
  watches : g.H.Host.watches l.host ≡ g.H.Host.watches l.initial.host;
  plays : g.H.Host.plays l.host ≡ g.H.Host.plays l.initial.host;
  count : g.H.Host.faults l.host ≡ g.H.Host.faults l.initial.host;
  spaces : (i : ℕ) (folder : List ℕ) → i < l.place → slice_get l.pod.plan.folders i ≡ Some folder → was_put (space_file l.root l.pod.name folder) (g.H.Host.told l.host) ≡ true;
}
