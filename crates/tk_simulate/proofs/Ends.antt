-- Each pod that a run ends ends by the script.
use Rattle.std.proofs.Common.{◌≡◌, ◌≢◌, ℕ, List, [], ◌∷◌, length, sym, subst, inl, inr}
use Rattle.tk_types.specs.declared.run.Outcome.{Outcome}
use Rattle.tk_types.specs.declared.run.Outcome.TheVariants as outcomes
use Rattle.tk_types.specs.declared.object.Asked.{Asked}
use Rattle.tk_types.specs.declared.scenario.Event.{Event}
use Rattle.tk_types.specs.declared.scenario.Event.TheVariants as events
use Rattle.tk_types.specs.declared.scenario.Taker.TheVariants as takers
use Rattle.tk_edge.specs.declared.event.Event.{Event as HostEvent}
use Rattle.tk_edge.specs.History.{IsTold}
use Rattle.tk_journal.specs.declared.act.Act.{Act}
use Rattle.tk_journal.specs.declared.act.Act.TheVariants as acts
use Rattle.tk_journal.specs.declared.entry.Actor.{Actor}
use Rattle.tk_journal.specs.declared.entry.Actor.TheVariants as actors
use Rattle.tk_journal.specs.declared.entry.Entry.{Entry}
use Rattle.tk_journal.specs.declared.entry.Fronts.{Fronts}
use Rattle.tk_journal.specs.declared.object.PodState.{PodState}
use Rattle.tk_journal.specs.History.{View, view_at}
use Rattle.tk_journal.specs.Rows.{IsJustified}
use Rattle.tk_machine.specs.Hosts.{Script, IsScripted, MayEnd, MayTry, exits_in}
use Rattle.tk_machine.specs.Machine.{Answers, AskTurn, IsSound, KubeletTurn, Step, Steps, WorkerTurn}
use Rattle.tk_machine.specs.State.{KubeletState, World}
use Rattle.tk_machine.proofs.Soundness.{sound_step}
use Rattle.tk_simulate.proofs.Added.{quiet_step}
use Rattle.tk_simulate.proofs.Exits.{exits_are}
use Rattle.tk_simulate.proofs.Opened.{played_run}
use Rattle.tk_simulate.specs.Ends.{ActsByScript, AreEndsScripted, AreExitsOf, EndsByScript, RunsEndByScript}

-- no life of a kubelet
abbrev IsNoKubelet : Actor → Type 0
IsNoKubelet actor = (number life : ℕ) → actor ≢ actors.Kubelet number life

module _ (script : Script) where
  -- a worker ends no pod
  worker_acts : (view : View) (actor : Actor) (moment : ℕ) (act : Act) → IsNoKubelet actor → IsJustified view actor moment act → ActsByScript script view act
  worker_acts view actor moment (acts.EndPod name exits outcome) not_kubelet justified = absurd (not_kubelet justified.has.number justified.has.life justified.has.by)
  worker_acts view actor moment _ not_kubelet justified = tt

  module _ (number life : ℕ) (history : List Entry) (view : View) (moment : ℕ) (told : List HostEvent) (is_told : IsTold told) (scripted : IsScripted script told) where
    told_exits : (name : List ℕ) (pod : PodState) (exits : List ℕ) → exits ≡ exits_in name pod told → AreExitsOf script name 0 exits
    told_exits name pod exits is = subst (AreExitsOf script name 0) (sym is) (exits_are script told is_told scripted name 0 (length pod.plan.orders))

    kubelet_ends : (name exits : List ℕ) (outcome : Outcome) → MayEnd script number life history view moment told name exits outcome → EndsByScript script view name exits outcome
    kubelet_ends name exits outcomes.Lost may = tt
    kubelet_ends name exits outcomes.Cancelled may = told_exits name may.it exits may.has.exits_told
    kubelet_ends name exits outcomes.TimedOut may = told_exits name may.it exits may.has.exits_told
    kubelet_ends name exits _ may = (told_exits name may.it exits may.has.exits_told, record { it = may.it; is = may.is; has = may.has.ends.1 })

    kubelet_acts : (act : Act) → MayTry script number life history view moment told act → ActsByScript script view act
    kubelet_acts (acts.EndPod name exits outcome) may = kubelet_ends name exits outcome may
    kubelet_acts _ may = tt

  -- what a turn leaves

  answer_ends : (history : List Entry) (actor : Actor) (fronts : Fronts) (moment : ℕ) (act : Act) (after : List Entry) → AreEndsScripted script history → ActsByScript script (view_at fronts history) act → Answers history actor fronts moment act after → AreEndsScripted script after
  answer_ends history actor fronts moment act after ends acts_so answers = elim answers [
    | inl went ↦ subst (AreEndsScripted script) (sym went.1) (acts_so, ends)
    | inr refused ↦ subst (AreEndsScripted script) (sym refused.1) ends
  ]

  worker_leaves : (history : List Entry) (actor : Actor) (fronts : Fronts) (moment : ℕ) (after : List Entry) → IsNoKubelet actor → AreEndsScripted script history → WorkerTurn history actor fronts moment after → AreEndsScripted script after
  worker_leaves history actor fronts moment after not_kubelet ends turn = elim turn [
    | inl idle ↦ subst (AreEndsScripted script) (sym idle.1) ends
    | inr tried ↦ answer_ends history actor fronts moment tried.0 after ends (worker_acts (view_at fronts history) actor moment tried.0 not_kubelet tried.1.justified) tried.2
  ]

  kubelet_leaves : (number : ℕ) (k now : KubeletState) (moment : ℕ) (history after : List Entry) → IsTold now.told → IsScripted script now.told → AreEndsScripted script history → KubeletTurn script number k moment history after now → AreEndsScripted script after
  kubelet_leaves number k now moment history after told scripted ends turn = elim turn.tries [
    | inl idle ↦ subst (AreEndsScripted script) (sym idle.1) ends
    | inr tried ↦ answer_ends history (actors.Kubelet number k.life) k.fronts moment tried.0 after ends (kubelet_acts number k.life history (view_at k.fronts history) moment now.told told scripted tried.0 tried.1.may) tried.2
  ]

  ask_leaves : (history : List Entry) (moment : ℕ) (name : List ℕ) (status : Asked) (after : List Entry) → AreEndsScripted script history → AskTurn history moment name status after → AreEndsScripted script after
  ask_leaves history moment name status after ends turn = elim turn [
    | inl went ↦ subst (AreEndsScripted script) (sym went.1) (tt, ends)
    | inr refused ↦ subst (AreEndsScripted script) (sym refused.1) ends
  ]

  abbrev AreScriptedIn : World → Type 0
  AreScriptedIn w = AreEndsScripted script w.history

  step_ends : (w : World) (event : Event) (after : World) → IsSound script w → AreScriptedIn w → Step script w event after → AreScriptedIn after
  step_ends w (events.Turn (takers.Runs i)) after sound ends done =
      subst AreScriptedIn (sym done.leaves) (worker_leaves w.history (actors.Runs i) done.fronts w.clock done.history (λ number life is. cc) ends done.turn)
  step_ends w (events.Turn (takers.Tasks i)) after sound ends done =
      subst AreScriptedIn (sym done.leaves) (worker_leaves w.history (actors.Tasks i) done.fronts w.clock done.history (λ number life is. cc) ends done.turn)
  step_ends w (events.Turn (takers.Kubelet i)) after sound ends done =
      subst AreScriptedIn (sym done.leaves)
      (kubelet_leaves i done.k done.now w.clock w.history done.history (done.turn.kept (sound.kept i done.k done.at)).told (done.turn.scripted (sound.scripted i done.k done.at)) ends done.turn)
  step_ends w (events.Ask name status) after sound ends done = subst AreScriptedIn (sym done.2) (ask_leaves w.history w.clock name status done.0 ends done.1)
  step_ends w (events.Clock reading) after sound ends done = subst AreScriptedIn (sym done.1) ends
  step_ends w events.Round after sound ends done = absurd done
  step_ends w event after sound ends done = subst (AreEndsScripted script) (sym (quiet_step script w event after tt done).history) ends

  steps_end : (w : World) (played : List Event) (after : World) → IsSound script w → AreScriptedIn w → Steps script w played after → AreScriptedIn after
  steps_end w [] after sound ends done = subst AreScriptedIn (sym done) ends
  steps_end w (event ∷ later) after sound ends done = steps_end done.0 later after (sound_step script w event done.0 sound done.1) (step_ends w event done.0 sound ends done.1) done.2

pub runs_end_by_script : (script : Script) → RunsEndByScript script
runs_end_by_script script w after given sound ends run =
    let all = played_run script w given after run in
    steps_end script w all.played after sound ends all.steps
