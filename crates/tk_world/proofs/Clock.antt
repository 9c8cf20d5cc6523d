-- Which events set the clock, and that the events that are left may come.
use Rattle.std.proofs.Common.{◌≡◌, ℕ, zero, suc, List, [], ◌∷◌, ◌++◌, length, ◌∙◌, ap}
use Rattle.tk_types.specs.declared.scenario.Event.{Event}
use Rattle.tk_types.specs.declared.scenario.Event.TheVariants as events
use Rattle.tk_types.specs.declared.scenario.Viewer.TheVariants as viewers
use Rattle.tk_types.specs.declared.scenario.Taker.TheVariants as takers
use Rattle.tk_machine.specs.Hosts.{Script}
use Rattle.tk_machine.specs.State.{World, controller_events, for_each, kubelet_events, round_events}
use Rattle.tk_machine.specs.Machine.{Step, Steps, opened}
use Rattle.tk_play.specs.Scripts.{script_of}
use Rattle.tk_machine.specs.Events.{clock_after}
use Rattle.tk_world.specs.Goes.{MayTakeAll, Takes}
use Rattle.tk_world.specs.Whole.{Whole, machine_of, scripts_of}

abbrev IsTimeless : Event → Type 0
IsTimeless (events.Clock reading) = ⊥
IsTimeless _ = Unit {0}

abbrev AreTimeless : List Event → Type 0
AreTimeless [] = Unit {0}
AreTimeless (event ∷ later) = IsTimeless event × AreTimeless later

timeless_append : (xs ys : List Event) → AreTimeless xs → AreTimeless ys → AreTimeless (xs ++ ys)
timeless_append [] ys first second = second
timeless_append (x ∷ xs) ys first second = (first.0, timeless_append xs ys first.1 second)

timeless_each : (turns : ℕ → List Event) → ((i : ℕ) → AreTimeless (turns i)) → (first count : ℕ) → AreTimeless (for_each turns first count)
timeless_each turns each first zero = tt
timeless_each turns each first (suc count) = timeless_append (turns first) (for_each turns (suc first) count) (each first) (timeless_each turns each (suc first) count)

timeless_round : (controllers kubelets : ℕ) → AreTimeless (round_events controllers kubelets)
timeless_round controllers kubelets =
    timeless_append (for_each controller_events 0 controllers) (for_each kubelet_events 0 kubelets)
    (timeless_each controller_events (λ i. (tt, (tt, (tt, (tt, tt))))) 0 controllers) (timeless_each kubelet_events (λ i. (tt, (tt, tt))) 0 kubelets)

abbrev clock_of : World → ℕ
clock_of w = w.clock

module _ (script : Script) where
  step_clock : (w : World) (event : Event) (after : World) → IsTimeless event → Step script w event after → after.clock ≡ w.clock
  step_clock w (events.Deliver (viewers.Controller i) kind n) after timeless is = ap clock_of is
  step_clock w (events.Deliver (viewers.Kubelet i) kind n) after timeless is = ap clock_of is
  step_clock w (events.DeliverAll (viewers.Controller i)) after timeless is = ap clock_of is
  step_clock w (events.DeliverAll (viewers.Kubelet i)) after timeless is = ap clock_of is
  step_clock w (events.Relist (viewers.Controller i) kind position) after timeless is = ap clock_of is
  step_clock w (events.Relist (viewers.Kubelet i) kind position) after timeless is = ap clock_of is
  step_clock w (events.Turn (takers.Runs i)) after timeless is = ap clock_of is.leaves
  step_clock w (events.Turn (takers.Tasks i)) after timeless is = ap clock_of is.leaves
  step_clock w (events.Turn (takers.Kubelet i)) after timeless is = ap clock_of is.leaves
  step_clock w (events.Restart (viewers.Controller i)) after timeless is = ap clock_of is
  step_clock w (events.Restart (viewers.Kubelet i)) after timeless is = ap clock_of is
  step_clock w (events.Ask name status) after timeless is = ap clock_of is.2
  step_clock w (events.Clock reading) after timeless is = absurd timeless
  step_clock w events.Round after timeless is = absurd is

  steps_clock : (w : World) (later : List Event) (after : World) → AreTimeless later → Steps script w later after → after.clock ≡ w.clock
  steps_clock w [] after timeless is = ap clock_of is
  steps_clock w (event ∷ later) after timeless is = steps_clock is.0 later after timeless.1 is.2 ∙ step_clock w event is.0 timeless.0 is.1

  opened_clock : (w : World) (event : Event) (after : World) → Steps script w (opened script w event) after → after.clock ≡ clock_after w.clock event
  opened_clock w (events.Deliver viewer kind n) after is = steps_clock w (events.Deliver viewer kind n ∷ []) after (tt, tt) is
  opened_clock w (events.DeliverAll viewer) after is = steps_clock w (events.DeliverAll viewer ∷ []) after (tt, tt) is
  opened_clock w (events.Relist viewer kind position) after is = steps_clock w (events.Relist viewer kind position ∷ []) after (tt, tt) is
  opened_clock w (events.Turn taker) after is = steps_clock w (events.Turn taker ∷ []) after (tt, tt) is
  opened_clock w (events.Restart viewer) after is = steps_clock w (events.Restart viewer ∷ []) after (tt, tt) is
  opened_clock w (events.Ask name status) after is = steps_clock w (events.Ask name status ∷ []) after (tt, tt) is
  opened_clock w (events.Clock reading) after is = ap clock_of (is.2 ∙ is.1.1)
  opened_clock w events.Round after is =
      steps_clock w (round_events (length w.controllers) (length w.kubelets)) after (timeless_round (length w.controllers) (length w.kubelets)) is

-- behind the first of these events the others may come
pub may_next : (event : Event) (later : List Event) (old new : Whole) → Takes event old new → MayTakeAll old (event ∷ later) → MayTakeAll new later
may_next event later old new takes may =
    let clock = opened_clock (script_of (scripts_of old)) (machine_of old) event (machine_of new) takes.goes.steps in
    rw (clock, takes.goes.stays.controllers, takes.goes.stays.nodes) may.1
