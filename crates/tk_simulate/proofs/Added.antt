-- What an event adds to a history, and what it does to the clock.
use Rattle.std.proofs.Common.{◌≡◌, ℕ, ◌≤◌, List, [], ◌∷◌, false, refl, sym, subst, inl, inr, arith}
use Rattle.std.specs.Prelude.{◌⊎◌}
use Rattle.tk_types.specs.declared.object.Asked.{Asked}
use Rattle.tk_types.specs.declared.scenario.Event.{Event}
use Rattle.tk_types.specs.declared.scenario.Event.TheVariants as events
use Rattle.tk_types.specs.declared.scenario.Viewer.{Viewer}
use Rattle.tk_types.specs.declared.scenario.Viewer.TheVariants as viewers
use Rattle.tk_types.specs.declared.scenario.Taker.TheVariants as takers
use Rattle.tk_journal.specs.declared.act.Act.{Act}
use Rattle.tk_journal.specs.declared.act.Act.TheVariants as acts
use Rattle.tk_journal.specs.declared.entry.Actor.{Actor}
use Rattle.tk_journal.specs.declared.entry.Actor.TheVariants as actors
use Rattle.tk_journal.specs.declared.entry.Entry.{Entry}
use Rattle.tk_journal.specs.declared.entry.Fronts.{Fronts}
use Rattle.tk_journal.specs.Choice.{MayChoose}
use Rattle.tk_journal.specs.History.{view_at}
use Rattle.tk_journal.specs.Legal.{is_admit}
use Rattle.tk_journal.specs.Progress.{at_end}
use Rattle.tk_journal.specs.Weight.{act_weight}
use Rattle.tk_choice.specs.Took.{entry_of}
use Rattle.tk_machine.specs.Hosts.{Script}
use Rattle.tk_machine.specs.Machine.{move_fronts, restarted, Answers, AskTurn, KubeletTurn, Step, WorkerTurn}
use Rattle.tk_machine.specs.State.{KubeletState, World}
use Rattle.tk_machine.proofs.Soundness.{tried_justified}
use Rattle.tk_scenario_laws.specs.Laws.{IsTimely, count_asks}
use Rattle.tk_time.specs.Moment.{last_moment}

-- events that only move caches

abbrev pub IsQuiet : Event → Type 0
IsQuiet (events.Deliver viewer kind n) = Unit {0}
IsQuiet (events.DeliverAll viewer) = Unit {0}
IsQuiet (events.Relist viewer kind position) = Unit {0}
IsQuiet (events.Restart viewer) = Unit {0}
IsQuiet _ = ⊥

-- neither the history nor the clock changed
pub record IsStill (w after : World) : Type 0 where
  pub history : after.history ≡ w.history
  pub clock : after.clock ≡ w.clock

still_moved : (w : World) (viewer : Viewer) (move : Fronts → Fronts) → IsStill w (move_fronts w viewer move)
still_moved w (viewers.Controller i) move = record { history = refl; clock = refl }
still_moved w (viewers.Kubelet i) move = record { history = refl; clock = refl }

still_restarted : (w : World) (viewer : Viewer) → IsStill w (restarted w viewer)
still_restarted w (viewers.Controller i) = record { history = refl; clock = refl }
still_restarted w (viewers.Kubelet i) = record { history = refl; clock = refl }

-- what is added

-- nothing, or one entry that is so
abbrev pub Adds : (Entry → Type 0) → List Entry → List Entry → Type 0
Adds IsSo history after = (after ≡ history) ⊎ ((e : Entry) × IsSo e × (after ≡ e ∷ history))

-- an entry of this moment that admits nothing, and weighs at most so much
pub record IsAdded (moment most : ℕ) (e : Entry) : Type 0 where
  pub of_moment : e.moment ≡ moment
  pub no_admit : is_admit e.act ≡ false
  pub weighs : act_weight e.act ≤ most

-- what an event leaves: a reading of the clock that has a text where the event's and the one before have
pub record Grows (w : World) (event : Event) (after : World) : Type 0 where
  pub adds : Adds (IsAdded w.clock (count_asks (event ∷ []))) w.history after.history
  pub timely : IsTimely event → w.clock ≤ last_moment → after.clock ≤ last_moment

admits_nothing : (act : Act) → MayChoose act → is_admit act ≡ false
admits_nothing (acts.Admit name spec pending asked root) may = absurd may
admits_nothing _ may = refl

weighs_nothing : (act : Act) → MayChoose act → act_weight act ≡ 0
weighs_nothing (acts.Admit name spec pending asked root) may = absurd may
weighs_nothing (acts.Ask name status) may = absurd may
weighs_nothing _ may = refl

answer_adds : (history : List Entry) (actor : Actor) (fronts : Fronts) (moment : ℕ) (act : Act) (after : List Entry) → MayChoose act → Answers history actor fronts moment act after → Adds (IsAdded moment 0) history after
answer_adds history actor fronts moment act after may answers = elim answers [
  | inl went ↦
      let weighs = weighs_nothing act may in
      inr (entry_of actor fronts moment act, record { of_moment = refl; no_admit = admits_nothing act may; weighs = omega (arith, weighs) }, went.1)
  | inr refused ↦ inl refused.1
]

worker_adds : (history : List Entry) (actor : Actor) (fronts : Fronts) (moment : ℕ) (after : List Entry) → WorkerTurn history actor fronts moment after → Adds (IsAdded moment 0) history after
worker_adds history actor fronts moment after turn = elim turn [
  | inl idle ↦ inl idle.1
  | inr tried ↦ answer_adds history actor fronts moment tried.0 after tried.1.mine tried.2
]

ask_adds : (history : List Entry) (moment : ℕ) (name : List ℕ) (status : Asked) (after : List Entry) → AskTurn history moment name status after → Adds (IsAdded moment 1) history after
ask_adds history moment name status after turn = elim turn [
  | inl went ↦ inr (entry_of actors.User (at_end history) moment (acts.Ask name status), record { of_moment = refl; no_admit = refl; weighs = omega arith }, went.1)
  | inr refused ↦ inl refused.1
]

module _ (script : Script) where
  pub quiet_step : (w : World) (event : Event) (after : World) → IsQuiet event → Step script w event after → IsStill w after
  quiet_step w (events.Deliver viewer kind n) after quiet done = subst (IsStill w) (sym done) (still_moved w viewer _)
  quiet_step w (events.DeliverAll viewer) after quiet done = subst (IsStill w) (sym done) (still_moved w viewer _)
  quiet_step w (events.Relist viewer kind position) after quiet done = subst (IsStill w) (sym done) (still_moved w viewer _)
  quiet_step w (events.Restart viewer) after quiet done = subst (IsStill w) (sym done) (still_restarted w viewer)
  quiet_step w _ after quiet done = absurd quiet

  kubelet_adds : (number : ℕ) (k now : KubeletState) (moment : ℕ) (history after : List Entry) → KubeletTurn script number k moment history after now → Adds (IsAdded moment 0) history after
  kubelet_adds number k now moment history after turn = elim turn.tries [
    | inl idle ↦ inl idle.1
    | inr tried ↦ answer_adds history (actors.Kubelet number k.life) k.fronts moment tried.0 after (tried_justified script number k.life history (view_at k.fronts history) moment now.told tried.0 tried.1.may).0 tried.2
  ]

  pub grows_step : (w : World) (event : Event) (after : World) → Step script w event after → Grows w event after
  grows_step w (events.Turn (takers.Runs i)) after done =
      subst (Grows w (events.Turn (takers.Runs i))) (sym done.leaves) (record { adds = worker_adds w.history (actors.Runs i) done.fronts w.clock done.history done.turn; timely = λ given before. before })
  grows_step w (events.Turn (takers.Tasks i)) after done =
      subst (Grows w (events.Turn (takers.Tasks i))) (sym done.leaves) (record { adds = worker_adds w.history (actors.Tasks i) done.fronts w.clock done.history done.turn; timely = λ given before. before })
  grows_step w (events.Turn (takers.Kubelet i)) after done =
      subst (Grows w (events.Turn (takers.Kubelet i))) (sym done.leaves) (record { adds = kubelet_adds i done.k done.now w.clock w.history done.history done.turn; timely = λ given before. before })
  grows_step w (events.Ask name status) after done =
      subst (Grows w (events.Ask name status)) (sym done.2) (record { adds = ask_adds w.history w.clock name status done.0 done.1; timely = λ given before. before })
  grows_step w (events.Clock reading) after done = subst (Grows w (events.Clock reading)) (sym done.1) (record { adds = inl refl; timely = λ given before. given })
  grows_step w events.Round after done = absurd done
  grows_step w event after done = let still = quiet_step w event after tt done in let stood = still.clock in record { adds = inl still.history; timely = λ given before. omega (arith, stood, before) }
