use Rattle.std.proofs.Common.{◌≡◌, ◌≤◌, ℕ, ◌<◌, Some, slice_get}
use Rattle.tk_steps.specs.declared.held.HeldPod.{HeldPod}
use Rattle.tk_held.specs.Settling.{IsKilledPod, KillsHeld, StayKilled}
use Rattle.tk_held.proofs.kills.kill_pods.Given as goal

abbrev pub invariant-loop-place : goal.invariant-loop-place
invariant-loop-place g l = record {
  told : g.H.Host.told l.host ≡ g.H.Host.told l.initial.host;
  watches : g.H.Host.watches l.host ≡ g.H.Host.watches l.initial.host;
  plays : g.H.Host.plays l.host ≡ g.H.Host.plays l.initial.host;
  killed : (place : ℕ) → place < l.place → (pod : HeldPod) → slice_get l.held place ≡ Some pod → IsKilledPod (g.H.Host.killed l.host) pod;
  still : StayKilled (g.H.Host.killed l.initial.host) (g.H.Host.killed l.host);
  only : KillsHeld l.held (g.H.Host.killed l.initial.host) (g.H.Host.killed l.host);
  later : g.H.Host.faults l.initial.host ≤ g.H.Host.faults l.host;
}
