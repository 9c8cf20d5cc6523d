use Rattle.std.proofs.Common.{◌≡◌, ℕ, ◌<◌, true, Some, None, slice_get}
use Rattle.std.specs.Prelude.{◌⊎◌}
use Rattle.tk_steps.specs.Kills.{CountsKills, IsLiving}
use Rattle.tk_steps.specs.declared.held.HeldStep.{HeldStep}
use Rattle.tk_steps.proofs.killing.kill_steps.Given as goal

abbrev pub invariant-loop-place : goal.invariant-loop-place
invariant-loop-place g l = record {
  told : g.H.Host.told l.host ≡ g.H.Host.told l.initial.host;
  watches : g.H.Host.watches l.host ≡ g.H.Host.watches l.initial.host;
  plays : g.H.Host.plays l.host ≡ g.H.Host.plays l.initial.host;
  killed : (place : ℕ) (step : HeldStep) → place < l.place → slice_get l.steps place ≡ Some step → step.exit ≡ None → g.H.Host.killed l.host step.child ≡ true;
  still : (child : ℕ) → g.H.Host.killed l.initial.host child ≡ true → g.H.Host.killed l.host child ≡ true;
  only : (child : ℕ) → g.H.Host.killed l.host child ≡ true → (g.H.Host.killed l.initial.host child ≡ true) ⊎ IsLiving l.steps child;
  count : CountsKills l.failed (g.H.Host.faults l.initial.host) (g.H.Host.faults l.host);
}
