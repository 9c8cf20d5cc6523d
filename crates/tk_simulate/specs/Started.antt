-- An input's runs in a world, before the first event.
use Rattle.std.specs.Prelude.{◌≡◌, ◌≤◌, ◌+◌, ℕ, List, None, Result, Ok, Err}
use Rattle.tk_types.specs.declared.rejected.Rejected.{Rejected}
use Rattle.tk_types.specs.Rejected.{IsRefusal}
use Rattle.tk_admit.specs.Admit.{input_fault}
use Rattle.tk_journal.specs.declared.admitted.Admitted.{Admitted}
use Rattle.tk_journal.specs.declared.entry.Entry.{Entry}
use Rattle.tk_journal.specs.Weight.{weight}
use Rattle.tk_machine.specs.Fair.{IsPeopled}
use Rattle.tk_manifest.specs.declared.kinds.KindSet.TheVariants.{WithScenario}
use Rattle.tk_simulate.specs.declared.starting.Started.{Started}
use Rattle.tk_simulate.specs.Played.{IsBegun, MayBePlayed, given_by}
use Rattle.tk_simulate.specs.Scripts.{scenario_in}
use Rattle.tk_scenario_laws.specs.Laws.{count_asks}
use Rattle.tk_world.specs.Goes.{Finishes, MayTakeAll, Runs}
use Rattle.tk_world.specs.Whole.{IsWorld, Whole, machine_of}

pub record IsStarted (given : Admitted) (started : Started) : Type 0 where
  pub scenario : started.scenario ≡ scenario_in given.scenario
  pub weight : started.weight ≡ given.weight
  pub begun : IsBegun given started.world

-- its events may come, and its weight bounds the fair rounds behind them
pub record MayPlay (started : Started) : Type 0 where
  pub stands : IsWorld started.world
  pub may : MayTakeAll started.world started.scenario.events
  pub peopled : IsPeopled (machine_of started.world)
  pub weighs : weight started.world.store.history + count_asks started.scenario.events ≤ started.weight

-- its events and then fair rounds lead to the history
pub record PlaysTo (started : Started) (history : List Entry) : Type 0 where
  pub between : Whole
  pub after : Whole
  pub events : Runs started.scenario.events started.world between
  pub rounds : Finishes started.weight between after
  pub end : after.store.history ≡ history

-- an input without a fault can be played
abbrev pub Starts : List ℕ → Result Started Rejected → Type 0
Starts bytes (Ok started) = (input_fault WithScenario 0 bytes ≡ None) × MayBePlayed (given_by bytes) × IsStarted (given_by bytes) started
Starts bytes (Err error) = IsRefusal (input_fault WithScenario 0 bytes) error
