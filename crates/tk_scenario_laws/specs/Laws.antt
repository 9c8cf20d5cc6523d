-- What a Scenario without a fault gives to the machine.
use Rattle.std.specs.Prelude.{◌≡◌, ◌<◌, ◌≤◌, ℕ, suc, List, [], ◌∷◌, None, All, sum_by}
use Rattle.std.specs.Option.{ForSome}
use Rattle.serde_json.specs.Data.{Data}
use Rattle.tk_types.specs.declared.scenario.Event.{Event}
use Rattle.tk_types.specs.declared.scenario.Event.TheVariants as events
use Rattle.tk_types.specs.declared.scenario.Scenario.{Scenario}
use Rattle.tk_types.specs.Place.{Place}
use Rattle.tk_scenario.specs.Event.{last_moment}
use Rattle.tk_scenario.specs.Scenario.{scenario, scenario_of}
use Rattle.tk_manifest.specs.declared.kinds.KindSet.TheVariants.{WithScenario}
use Rattle.tk_manifest.specs.Input.{objects_of}
use Rattle.tk_admit.specs.Admit.{admitted, input_fault}
use Rattle.tk_admit.specs.Weight.{asks_of}
use Rattle.tk_machine.specs.Events.{MayAllCome}

-- how many of these events are asks
abbrev pub count_asks : List Event → ℕ
count_asks [] = 0
count_asks (events.Ask name status ∷ later) = suc (count_asks later)
count_asks (_ ∷ later) = count_asks later

-- a reading of the clock is at most the last moment
abbrev pub IsTimely : Event → Type 0
IsTimely (events.Clock reading) = reading ≤ last_moment
IsTimely _ = Unit {0}

-- there are 1 to 8 controllers and as many kubelets, and each event may come to them at the reading that the clock has then
pub record IsPlayable (given : Scenario) : Type 0 where
  pub some_controllers : 0 < given.controllers
  pub few_controllers : given.controllers ≤ 8
  pub some_kubelets : 0 < given.kubelets
  pub few_kubelets : given.kubelets ≤ 8
  pub may : MayAllCome given.controllers given.kubelets 0 given.events
  pub timely : All IsTimely given.events

abbrev pub ScenarioIsPlayable : Type 0
ScenarioIsPlayable = (place : Place) (d : Data) → scenario place d ≡ None → IsPlayable (scenario_of d)

-- so is the Scenario of an input without a fault
abbrev pub AdmittedIsPlayable : Type 0
AdmittedIsPlayable =
    (asks : ℕ) (root bytes : List ℕ) → input_fault WithScenario asks bytes ≡ None → ForSome (admitted WithScenario asks root bytes).scenario IsPlayable

-- the weight counts its asks
abbrev pub AsksAreWeighed : Type 0
AsksAreWeighed =
    (asks : ℕ) (root bytes : List ℕ) → input_fault WithScenario asks bytes ≡ None
    → ForSome (admitted WithScenario asks root bytes).scenario (λ (given : Scenario). count_asks given.events ≤ sum_by asks_of (objects_of WithScenario bytes))
