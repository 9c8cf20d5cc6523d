-- A started input may be played, and what it is played to.
use Rattle.std.proofs.Common.{◌≡◌, ◌≤◌, ◌<◌, ◌+◌, ℕ, zero, suc, List, [], ◌∷◌, ◌++◌, length, replicate, refl, sym, ◌∙◌, ap, subst, arith}
use Rattle.std.proofs.lemmas.List.{length-map, length-replicate}
use Rattle.tk_types.specs.declared.scenario.Event.{Event}
use Rattle.tk_types.specs.declared.scenario.Event.TheVariants as events
use Rattle.tk_types.specs.declared.scenario.Scenario.{Scenario}
use Rattle.tk_journal.specs.declared.admitted.Admitted.{Admitted}
use Rattle.tk_journal.specs.declared.entry.Entry.{Entry}
use Rattle.tk_journal.specs.Weight.{weight}
use Rattle.tk_machine.specs.Fair.{IsPeopled, OpenRounds}
use Rattle.tk_machine.specs.Hosts.{Script}
use Rattle.tk_machine.specs.Machine.{Run}
use Rattle.tk_machine.specs.State.{World, new_kubelet, no_fronts, start}
use Rattle.tk_play.specs.Scripts.{script_of}
use Rattle.tk_scenario_laws.specs.Laws.{count_asks}
use Rattle.tk_script.specs.declared.pod_script.PodScript.{PodScript}
use Rattle.tk_world.specs.Goes.{MayTakeAll, Runs, TakesAll}
use Rattle.tk_world.specs.Nodes.{scripts_in, state_of}
use Rattle.tk_world.specs.Whole.{Whole, fronts_of, machine_of, scripts_of}
use Rattle.tk_simulate.specs.declared.starting.Started.{Started}
use Rattle.tk_simulate.specs.Played.{IsPlayed, IsTakenTo, MayBePlayed, entries_of}
use Rattle.tk_simulate.specs.Scripts.{scenario_in, script_in}
use Rattle.tk_simulate.specs.Started.{IsStarted, MayPlay, PlaysTo}
use Rattle.tk_world.proofs.Steps.{takes_on}
use Rattle.tk_simulate.proofs.Played.{is_played}
use Rattle.tk_simulate.proofs.Runs.{runs_ask_these}

-- events and then so many fair rounds are one run

rounds_behind : (script : Script) (w : World) (rounds : ℕ) (after : World) → OpenRounds script w rounds after → Run script w (replicate rounds events.Round) after
rounds_behind script w zero after done = done
rounds_behind script w (suc rounds) after done = (done.1.0, done.1.1, rounds_behind script done.1.0 rounds after done.1.2)

with_rounds : (script : Script) (w : World) (given : List Event) (rounds : ℕ) (between after : World) → Run script w given between → OpenRounds script between rounds after → Run script w (given ++ replicate rounds events.Round) after
with_rounds script w [] rounds between after run done = subst (λ (m : World). Run script m (replicate rounds events.Round) after) run (rounds_behind script between rounds after done)
with_rounds script w (event ∷ given) rounds between after run done = (run.0, run.1, with_rounds script run.0 given rounds between after run.2 done)

module _ (given : Admitted) (may : MayBePlayed given) (started : Started) (is : IsStarted given started) where
  abbrev scenario : Scenario
  scenario = scenario_in given.scenario

  controllers : length started.world.controllers ≡ scenario.controllers
  controllers = sym (length-map started.world.controllers fronts_of) ∙ (ap (λ (w : World). length w.controllers) is.begun.world ∙ length-replicate scenario.controllers no_fronts)

  kubelets : length started.world.nodes ≡ scenario.kubelets
  kubelets = sym (length-map started.world.nodes state_of) ∙ (ap (λ (w : World). length w.kubelets) is.begun.world ∙ length-replicate scenario.kubelets new_kubelet)

  comes : MayTakeAll started.world started.scenario.events
  comes =
      let clock = ap (λ (w : World). w.clock) is.begun.world in
      let events = ap (λ (s : Scenario). s.events) is.scenario in
      rw (controllers, kubelets, clock, events) may.playable.may

  peopled : IsPeopled (machine_of started.world)
  peopled = subst IsPeopled (sym is.begun.world) (record {
    controllers = subst (λ (n : ℕ). 0 < n) (sym (length-replicate scenario.controllers no_fronts)) may.playable.some_controllers;
    kubelets = subst (λ (n : ℕ). 0 < n) (sym (length-replicate scenario.kubelets new_kubelet)) may.playable.some_kubelets;
  })

  pub may_play : MayPlay started
  may_play = record {
    stands = is.begun.stands;
    may = comes;
    peopled = peopled;
    weighs =
        let first : weight started.world.store.history ≡ weight (entries_of given) = ap (λ (w : World). weight w.history) is.begun.world in
        let asks : count_asks started.scenario.events ≡ count_asks scenario.events = ap (λ (s : Scenario). count_asks s.events) is.scenario in
        let told = is.weight in
        let all = may.weighs in
        omega (arith, first, asks, told, all);
  }

  module _ (history : List Entry) (plays : PlaysTo started history) where
    run : Run (script_in scenario) (start scenario.controllers scenario.kubelets (entries_of given)) scenario.events (machine_of plays.between)
    run = subst (λ (pods : List PodScript). Run (script_of (scripts_in pods)) (start scenario.controllers scenario.kubelets (entries_of given)) scenario.events (machine_of plays.between)) is.begun.pods
        (subst (λ (w : World). Run (script_of (scripts_of started.world)) w scenario.events (machine_of plays.between)) is.begun.world
        (subst (λ (s : Scenario). Run (script_of (scripts_of started.world)) (machine_of started.world) s.events (machine_of plays.between)) is.scenario plays.events.run))

    rounds : OpenRounds (script_in scenario) (machine_of plays.between) plays.rounds.rounds (machine_of plays.after)
    rounds = subst (λ (pods : List PodScript). OpenRounds (script_of (scripts_in pods)) (machine_of plays.between) plays.rounds.rounds (machine_of plays.after)) (plays.events.stays.pods ∙ is.begun.pods) plays.rounds.opened

    taken : IsTakenTo given plays.rounds.rounds plays.after.store.history
    taken = record {
      begun = started.world;
      begins = is.begun;
      ended = plays.after;
      takes = takes_on scenario.events (replicate plays.rounds.rounds events.Round) started.world plays.between plays.after
          (subst (λ (s : Scenario). TakesAll s.events started.world plays.between) is.scenario plays.events.each) plays.rounds.each;
      end = refl;
    }

    pub plays_to : IsPlayed given history
    plays_to = subst (IsPlayed given) plays.end (is_played given may plays.after.store.history
        (record {
          rounds = plays.rounds.rounds;
          world = machine_of plays.after;
          run = with_rounds (script_in scenario) (start scenario.controllers scenario.kubelets (entries_of given)) scenario.events plays.rounds.rounds (machine_of plays.between) (machine_of plays.after) run rounds;
          end = refl;
        })
        (subst (λ (most : ℕ). plays.rounds.rounds ≤ most) is.weight plays.rounds.few) taken plays.rounds.closed)

-- an end's weight is within what was told
pub weighs_on : (started : Started) (between : Whole) → MayPlay started → Runs started.scenario.events started.world between → weight between.store.history ≤ started.weight
weighs_on started between may runs =
    let grown : weight between.store.history ≤ weight started.world.store.history + count_asks started.scenario.events =
    runs_ask_these (script_of (scripts_of started.world)) (machine_of started.world) (machine_of between) started.scenario.events runs.run in
    let told = may.weighs in
    omega (arith, grown, told)
