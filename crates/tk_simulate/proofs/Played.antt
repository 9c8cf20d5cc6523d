-- What a run over a Scenario's events and fair rounds comes to.
use Rattle.std.proofs.Common.{◌≡◌, ◌≤◌, ℕ, List, [], ◌∷◌, ◌++◌, replicate, true, refl, sym, subst, arith}
use Rattle.std.specs.Prelude.{All}
use Rattle.std.proofs.lemmas.List.Elements.{All-append, All-head, All-replicate, All-tail}
use Rattle.tk_types.specs.declared.scenario.Event.{Event}
use Rattle.tk_types.specs.declared.scenario.Event.TheVariants as events
use Rattle.tk_types.specs.declared.scenario.Scenario.{Scenario}
use Rattle.tk_journal.specs.declared.act.Act.{Act}
use Rattle.tk_journal.specs.declared.act.Act.TheVariants as acts
use Rattle.tk_journal.specs.declared.admitted.Admitted.{Admitted}
use Rattle.tk_journal.specs.declared.entry.Entry.{Entry}
use Rattle.tk_journal.specs.Legal.{is_admit}
use Rattle.tk_journal.specs.History.{View, view_at}
use Rattle.tk_journal.specs.Progress.{IsOpen}
use Rattle.tk_journal.proofs.Statements.{legal_is_right}
use Rattle.tk_held.specs.Laws.{AreAdmits}
use Rattle.tk_machine.specs.Hosts.{Script}
use Rattle.tk_machine.specs.Machine.{IsSimulated, IsSound}
use Rattle.tk_machine.specs.State.{World, start}
use Rattle.tk_machine.proofs.Soundness.{sound_run}
use Rattle.tk_machine.proofs.Start.{start_is_sound}
use Rattle.tk_scenario_laws.specs.Laws.{IsTimely}
use Rattle.tk_simulate.specs.Ends.{ActsByScript, AreEndsScripted}
use Rattle.tk_simulate.specs.Played.{IsPlayed, IsTakenTo, MayBePlayed, entries_of}
use Rattle.tk_simulate.specs.Scripts.{scenario_in, script_in}
use Rattle.tk_simulate.proofs.Ends.{runs_end_by_script}
use Rattle.tk_simulate.proofs.Runs.{runs_admit_nothing, runs_are_timely}

-- admission ends no pod
admits_by_script : (script : Script) (view : View) (act : Act) → is_admit act ≡ true → ActsByScript script view act
admits_by_script script view (acts.EndPod name exits outcome) admits = cc
admits_by_script script view _ admits = tt

none_ended : (script : Script) (history : List Entry) → AreAdmits history → AreEndsScripted script history
none_ended script [] admits = tt
none_ended script (e ∷ older) admits = (
  admits_by_script script (view_at e.fronts older) e.act (All-head (λ (x : Entry). is_admit x.act ≡ true) e older admits),
  none_ended script older (All-tail (λ (x : Entry). is_admit x.act ≡ true) e older admits),
)

rounds_timely : (given : List Event) (rounds : ℕ) → All IsTimely given → All IsTimely (given ++ replicate rounds events.Round)
rounds_timely given rounds timely = All-append IsTimely given (replicate rounds events.Round) timely (All-replicate IsTimely rounds events.Round tt)

module _ (given : Admitted) (may : MayBePlayed given) (history : List Entry) where
  abbrev scenario : Scenario
  scenario = scenario_in given.scenario

  abbrev script : Script
  script = script_in scenario

  abbrev first : World
  first = start scenario.controllers scenario.kubelets (entries_of given)

  sound : IsSound script first
  sound = start_is_sound script scenario.controllers scenario.kubelets (entries_of given) may.legal may.admits

  pub is_played : (simulated : IsSimulated script scenario.controllers scenario.kubelets (entries_of given) scenario.events history) → simulated.rounds ≤ given.weight
      → IsTakenTo given simulated.rounds history → (IsOpen history → ⊥) → IsPlayed given history
  is_played simulated few taken closed = subst (IsPlayed given) simulated.end (record {
    simulated = record { rounds = simulated.rounds; world = simulated.world; run = simulated.run; end = refl };
    few = few;
    taken = subst (IsTakenTo given simulated.rounds) (sym simulated.end) taken;
    closed = subst (λ (h : List Entry). IsOpen h → ⊥) (sym simulated.end) closed;
    legal = sound_after.legal;
    right = legal_is_right simulated.world.history sound_after.legal;
    admitted = runs_admit_nothing script first simulated.world whole simulated.run;
    ends = runs_end_by_script script first simulated.world whole sound (none_ended script (entries_of given) may.admits) simulated.run;
    timely = (runs_are_timely script first simulated.world whole (rounds_timely scenario.events simulated.rounds may.playable.timely) (omega arith) may.timely simulated.run).1;
  })
    where
      whole : List Event
      whole = scenario.events ++ replicate simulated.rounds events.Round

      sound_after : IsSound script simulated.world
      sound_after = sound_run script first simulated.world whole sound simulated.run
