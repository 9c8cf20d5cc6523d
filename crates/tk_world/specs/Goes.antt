-- What calls of a world come to.
use Rattle.std.specs.Prelude.{◌≡◌, ◌≤◌, ℕ, List, [], ◌∷◌, length, replicate}
use Rattle.tk_types.specs.declared.scenario.Event.{Event}
use Rattle.tk_types.specs.declared.scenario.Event.TheVariants as events
use Rattle.tk_journal.specs.Progress.{IsOpen}
use Rattle.tk_machine.specs.Events.{MayAllCome, MayCome}
use Rattle.tk_machine.specs.Machine.{Steps, Run, opened}
use Rattle.tk_machine.specs.Fair.{OpenRounds}
use Rattle.tk_play.specs.Scripts.{script_of}
use Rattle.tk_world.specs.declared.stepped.Stepped.{Stepped}
use Rattle.tk_world.specs.Stepped.{IsStepped}
use Rattle.tk_world.specs.Whole.{Whole, IsWorld, machine_of, scripts_of}

-- the event may come to it
abbrev pub MayTake : Whole → Event → Type 0
MayTake whole event = MayCome (length whole.controllers) (length whole.nodes) whole.clock event

-- these events may, one after the other
abbrev pub MayTakeAll : Whole → List Event → Type 0
MayTakeAll whole given = MayAllCome (length whole.controllers) (length whole.nodes) whole.clock given

-- the same scripts, as many controllers and as many kubelets; and all stands again
pub record Stays (old new : Whole) : Type 0 where
  pub pods : new.pods ≡ old.pods
  pub controllers : length new.controllers ≡ length old.controllers
  pub nodes : length new.nodes ≡ length old.nodes
  pub stands : IsWorld new

-- events of the machine, one after the other
pub record Goes (given : List Event) (old new : Whole) : Type 0 where
  pub steps : Steps (script_of (scripts_of old)) (machine_of old) given (machine_of new)
  pub stays : Stays old new

-- one event of the machine, and what it answered
pub record Does (event : Event) (old new : Whole) : Type 0 where
  pub goes : Goes (event ∷ []) old new
  pub answer : Stepped
  pub is : IsStepped event old new answer

-- such events, one after the other
abbrev pub DoesAll : List Event → Whole → Whole → Type 0
DoesAll [] old new = new ≡ old
DoesAll (event ∷ later) old new = (between : Whole) × Does event old between × DoesAll later between new

-- events of the machine one after the other, and what each answered
pub record Took (given : List Event) (old new : Whole) : Type 0 where
  pub goes : Goes given old new
  pub each : DoesAll given old new

-- one event of a scenario, in which a round is its turns
abbrev pub Takes : Event → Whole → Whole → Type 0
Takes event old new = Took (opened (script_of (scripts_of old)) (machine_of old) event) old new

-- the same, but for the cache that takes no part
pub record IsSame (old new : Whole) : Type 0 where
  pub store : new.store ≡ old.store
  pub clock : new.clock ≡ old.clock
  pub controllers : new.controllers ≡ old.controllers
  pub nodes : new.nodes ≡ old.nodes
  pub pods : new.pods ≡ old.pods

-- one event of a scenario behind a look whether something is open
pub record TakesBehind (event : Event) (old new : Whole) : Type 0 where
  pub looked : Whole
  pub same : IsSame old looked
  pub takes : Takes event looked new

-- such events, one after the other
abbrev pub TakesAll : List Event → Whole → Whole → Type 0
TakesAll [] old new = IsSame old new
TakesAll (event ∷ later) old new = (between : Whole) × TakesBehind event old between × TakesAll later between new

-- all events of a list
pub record Runs (given : List Event) (old new : Whole) : Type 0 where
  pub run : Run (script_of (scripts_of old)) (machine_of old) given (machine_of new)
  pub each : TakesAll given old new
  pub stays : Stays old new

-- fair rounds, each begun while something is open, until nothing is
pub record Finishes (most : ℕ) (old new : Whole) : Type 0 where
  pub rounds : ℕ
  pub few : rounds ≤ most
  pub opened : OpenRounds (script_of (scripts_of old)) (machine_of old) rounds (machine_of new)
  pub each : TakesAll (replicate rounds events.Round) old new
  pub closed : IsOpen new.store.history → ⊥
  pub stays : Stays old new
