-- What admission gives can be played.
use Rattle.std.proofs.Common.{◌≡◌, ◌≤◌, ℕ, List, [], ◌∷◌, None, Some, Option, map, true, refl, arith}
use Rattle.std.specs.Prelude.{sum_by}
use Rattle.std.specs.Option.{ForSome}
use Rattle.std.proofs.lemmas.List.Elements.{All-cons, All-nil}
use mathlib.Core.List.{reverse_aux}
use Rattle.tk_types.specs.declared.scenario.Scenario.{Scenario}
use Rattle.tk_manifest.specs.declared.kinds.KindSet.TheVariants.{WithScenario}
use Rattle.tk_manifest.specs.Input.{objects_of}
use Rattle.tk_admit.specs.declared.taken.Taken.{Taken}
use Rattle.tk_admit.specs.Admit.{input_fault}
use Rattle.tk_admit.specs.Taken.{entry_of, taken}
use Rattle.tk_admit.specs.Weight.{asks_of}
use Rattle.tk_journal.specs.declared.entry.Entry.{Entry}
use Rattle.tk_journal.specs.Legal.{is_admit}
use Rattle.tk_held.specs.Laws.{AreAdmits}
use Rattle.tk_scenario_laws.specs.Laws.{IsPlayable, IsTimely, count_asks}
use Rattle.tk_scenario_laws.proofs.Admitted.{admitted_is_playable, asks_are_weighed}
use Rattle.tk_sound.specs.Laws.{AdmittedIsLegal}
use Rattle.tk_sound.proofs.Told.{admitted_has_root, admitted_weighs}
use Rattle.tk_time.specs.Moment.{last_moment}
use Rattle.tk_simulate.specs.Played.{MayBePlayed, given_by, root}
use Rattle.tk_simulate.specs.Runs.{AreOnClock}
use Rattle.tk_simulate.specs.Scripts.{scenario_in}

-- entries that admit, the newest first

abbrev Admits : Entry → Type 0
Admits e = is_admit e.act ≡ true

abbrev IsOnClock : Entry → Type 0
IsOnClock e = e.moment ≤ last_moment

pub admits_onto : (folder : List ℕ) (runs : List Taken) (older : List Entry) → AreAdmits older → AreAdmits (reverse_aux (map (entry_of folder) runs) older)
admits_onto folder [] older admits = admits
admits_onto folder (run ∷ runs) older admits = admits_onto folder runs (entry_of folder run ∷ older) (All-cons Admits (entry_of folder run) older refl admits)

pub timely_onto : (folder : List ℕ) (runs : List Taken) (older : List Entry) → AreOnClock older → AreOnClock (reverse_aux (map (entry_of folder) runs) older)
timely_onto folder [] older timely = timely
timely_onto folder (run ∷ runs) older timely = timely_onto folder runs (entry_of folder run ∷ older) (All-cons IsOnClock (entry_of folder run) older (omega arith) timely)

-- a Scenario, or what stands in its place

plays : (scenario : Option Scenario) → ForSome scenario IsPlayable → IsPlayable (scenario_in scenario)
plays None playable = record {
  some_controllers = omega arith;
  few_controllers = omega arith;
  some_kubelets = omega arith;
  few_kubelets = omega arith;
  may = tt;
  timely = All-nil IsTimely;
}
plays (Some scenario) playable = playable scenario refl

asks : (scenario : Option Scenario) (n : ℕ) → ForSome scenario (λ (given : Scenario). count_asks given.events ≤ n) → count_asks (scenario_in scenario).events ≤ n
asks None n few = omega arith
asks (Some scenario) n few = few scenario refl

pub may_be_played : AdmittedIsLegal → (bytes : List ℕ) → input_fault WithScenario 0 bytes ≡ None → MayBePlayed (given_by bytes)
may_be_played legal bytes none = record {
  legal = legal WithScenario 0 root bytes none;
  admits = admits_onto root (taken (objects_of WithScenario bytes)) [] (All-nil Admits);
  rooted = admitted_has_root WithScenario 0 root bytes;
  playable = plays (given_by bytes).scenario (admitted_is_playable 0 root bytes none);
  weighs =
      let few = asks (given_by bytes).scenario (sum_by asks_of (objects_of WithScenario bytes)) (asks_are_weighed 0 root bytes none) in
      let all = admitted_weighs WithScenario 0 root bytes none in
      omega (arith, few, all);
  timely = timely_onto root (taken (objects_of WithScenario bytes)) [] (All-nil IsOnClock);
}
