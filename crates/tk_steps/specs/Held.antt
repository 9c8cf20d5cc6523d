-- What a kubelet holds of a pod, and that it is what its host tells.
use Rattle.std.specs.Prelude.{◌≡◌, ◌<◌, ◌≤◌, ℕ, false, List, [], length, Some, slice_get}
use Rattle.tk_edge.specs.declared.event.Event.{Event}
use Rattle.tk_edge.specs.declared.event.Arming.{Arming}
use Rattle.tk_edge.specs.declared.order.Order.{Order}
use Rattle.tk_edge.specs.History.{arming_of, exit_of, is_refused}
use Rattle.tk_journal.specs.declared.object.Plan.{Plan}
use Rattle.tk_steps.specs.declared.held.HeldPod.{HeldPod}
use Rattle.tk_steps.specs.declared.held.HeldStep.{HeldStep}

-- A pod's plan: 1 to 32 orders of this pod, in the order of their steps.
pub record IsPlanOf (name : List ℕ) (plan : Plan) : Type 0 where
  pub some : 0 < length plan.orders
  pub few : length plan.orders ≤ 32
  pub scripts : length plan.scripts ≤ 32
  pub pod : (step : ℕ) (order : Order) → slice_get plan.orders step ≡ Some order → order.pod ≡ name
  pub step : (step : ℕ) (order : Order) → slice_get plan.orders step ≡ Some order → order.step ≡ step

-- the step of this pod is armed, and its exit and its refusal are those that the host tells
pub record HoldsStep (told : List Event) (name : List ℕ) (place : ℕ) (step : HeldStep) : Type 0 where
  pub arming : Arming
  pub armed : arming_of step.child told ≡ Some arming
  pub same_pod : arming.order.pod ≡ name
  pub same_step : arming.order.step ≡ place
  pub exit : step.exit ≡ exit_of step.child told
  pub refused : step.refused ≡ is_refused step.child told

-- the held steps are the first ones of the pod, and all of it that are armed
pub record HoldsPod (told : List Event) (pod : HeldPod) : Type 0 where
  pub steps : (place : ℕ) (step : HeldStep) → slice_get pod.steps.items place ≡ Some step → HoldsStep told pod.name place step
  pub all : (child : ℕ) (arming : Arming) → arming_of child told ≡ Some arming → arming.order.pod ≡ pod.name → (step : HeldStep) × (slice_get pod.steps.items arming.order.step ≡ Some step) × (step.child ≡ child)
  pub unready : pod.ready ≡ false → pod.steps.items ≡ []
