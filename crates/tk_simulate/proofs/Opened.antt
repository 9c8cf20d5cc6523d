-- A run is its events one after the other, each round opened: as many asks, and no reading of the clock more.
use Rattle.std.proofs.Common.{◌≡◌, ℕ, zero, suc, ◌+◌, List, [], ◌∷◌, ◌++◌, length, All, refl, subst, arith}
use Rattle.std.proofs.lemmas.List.Elements.{All-nil, All-cons, All-head, All-tail, All-append}
use Rattle.tk_types.specs.declared.scenario.Event.{Event}
use Rattle.tk_types.specs.declared.scenario.Event.TheVariants as events
use Rattle.tk_types.specs.declared.scenario.Viewer.TheVariants as viewers
use Rattle.tk_types.specs.declared.scenario.Taker.TheVariants as takers
use Rattle.tk_machine.specs.Hosts.{Script}
use Rattle.tk_machine.specs.Machine.{Run, Steps, opened}
use Rattle.tk_machine.specs.State.{World, controller_events, kubelet_events, for_each, round_events}
use Rattle.tk_scenario_laws.specs.Laws.{IsTimely, count_asks}

-- asks

pub asks_first : (event : Event) (later : List Event) → count_asks (event ∷ later) ≡ count_asks (event ∷ []) + count_asks later
asks_first (events.Ask name status) later = omega arith
asks_first _ later = omega arith

asks_append : (xs ys : List Event) → count_asks (xs ++ ys) ≡ count_asks xs + count_asks ys
asks_append [] ys = omega arith
asks_append (x ∷ xs) ys = omega (arith, asks_first x (xs ++ ys), asks_first x xs, asks_append xs ys)

no_asks : (turns : ℕ → List Event) → ((i : ℕ) → count_asks (turns i) ≡ 0) → (first count : ℕ) → count_asks (for_each turns first count) ≡ 0
no_asks turns none first zero = refl
no_asks turns none first (suc count) = omega (arith, asks_append (turns first) (for_each turns (suc first) count), none first, no_asks turns none (suc first) count)

round_asks : (controllers kubelets : ℕ) → count_asks (round_events controllers kubelets) ≡ 0
round_asks controllers kubelets =
    omega (arith, asks_append (for_each controller_events 0 controllers) (for_each kubelet_events 0 kubelets), no_asks controller_events (λ i. refl) 0 controllers, no_asks kubelet_events (λ i. refl) 0 kubelets)

-- readings

each_timely : (turns : ℕ → List Event) → ((i : ℕ) → All IsTimely (turns i)) → (first count : ℕ) → All IsTimely (for_each turns first count)
each_timely turns timely first zero = All-nil IsTimely
each_timely turns timely first (suc count) = All-append IsTimely (turns first) (for_each turns (suc first) count) (timely first) (each_timely turns timely (suc first) count)

kubelet_timely : (i : ℕ) → All IsTimely (kubelet_events i)
kubelet_timely i = All-cons IsTimely (events.DeliverAll (viewers.Kubelet i)) (events.Turn (takers.Kubelet i) ∷ []) tt (All-cons IsTimely (events.Turn (takers.Kubelet i)) [] tt (All-nil IsTimely))

controller_timely : (i : ℕ) → All IsTimely (controller_events i)
controller_timely i =
    All-cons IsTimely (events.DeliverAll (viewers.Controller i)) (events.Turn (takers.Runs i) ∷ events.DeliverAll (viewers.Controller i) ∷ events.Turn (takers.Tasks i) ∷ []) tt
    (All-cons IsTimely (events.Turn (takers.Runs i)) (events.DeliverAll (viewers.Controller i) ∷ events.Turn (takers.Tasks i) ∷ []) tt
    (All-cons IsTimely (events.DeliverAll (viewers.Controller i)) (events.Turn (takers.Tasks i) ∷ []) tt (All-cons IsTimely (events.Turn (takers.Tasks i)) [] tt (All-nil IsTimely))))

round_timely : (controllers kubelets : ℕ) → All IsTimely (round_events controllers kubelets)
round_timely controllers kubelets =
    All-append IsTimely (for_each controller_events 0 controllers) (for_each kubelet_events 0 kubelets) (each_timely controller_events controller_timely 0 controllers) (each_timely kubelet_events kubelet_timely 0 kubelets)

module _ (script : Script) where
  opened_asks : (w : World) (event : Event) → count_asks (opened script w event) ≡ count_asks (event ∷ [])
  opened_asks w events.Round = round_asks (length w.controllers) (length w.kubelets)
  opened_asks w _ = refl

  opened_timely : (w : World) (event : Event) → IsTimely event → All IsTimely (opened script w event)
  opened_timely w events.Round timely = round_timely (length w.controllers) (length w.kubelets)
  opened_timely w event timely = All-cons IsTimely event [] timely (All-nil IsTimely)

  steps_append : (w : World) (xs ys : List Event) (mid after : World) → Steps script w xs mid → Steps script mid ys after → Steps script w (xs ++ ys) after
  steps_append w [] ys mid after first second = subst (λ (m : World). Steps script m ys after) first second
  steps_append w (x ∷ xs) ys mid after first second = (first.0, first.1, steps_append first.0 xs ys mid after first.2 second)

  -- the run's events, with their rounds opened
  pub record IsPlayed (w : World) (given : List Event) (after : World) : Type 0 where
    pub played : List Event
    pub steps : Steps script w played after
    pub asks : count_asks played ≡ count_asks given
    pub timely : All IsTimely given → All IsTimely played

  pub played_run : (w : World) (given : List Event) (after : World) → Run script w given after → IsPlayed w given after
  played_run w [] after done = record { played = []; steps = done; asks = refl; timely = λ timely. timely }
  played_run w (event ∷ later) after done =
      let first = opened script w event in
      let rest = played_run done.0 later after done.2 in
      record {
        played = first ++ rest.played;
        steps = steps_append w first rest.played done.0 after done.1 rest.steps;
        asks = omega (arith, asks_append first rest.played, opened_asks w event, rest.asks, asks_first event later);
        timely = λ timely. All-append IsTimely first rest.played (opened_timely w event (All-head IsTimely event later timely)) (rest.timely (All-tail IsTimely event later timely));
      }
