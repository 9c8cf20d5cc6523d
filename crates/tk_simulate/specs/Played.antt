-- The journal that an input comes to.
use Rattle.std.specs.Prelude.{◌≡◌, ◌≤◌, ◌+◌, ℕ, List, ◌++◌, None, Result, Ok, Err, codes, replicate, reverse}
use Rattle.tk_types.specs.declared.rejected.Rejected.{Rejected}
use Rattle.tk_types.specs.declared.scenario.Event.TheVariants as events
use Rattle.tk_types.specs.Rejected.{IsRefusal}
use Rattle.tk_admit.specs.Admit.{admitted, input_fault}
use Rattle.tk_held.specs.Laws.{AreAdmits}
use Rattle.tk_journal.specs.declared.admitted.Admitted.{Admitted}
use Rattle.tk_journal.specs.declared.entry.Entry.{Entry}
use Rattle.tk_journal.specs.Folders.{HaveRoot}
use Rattle.tk_journal.specs.History.{past}
use Rattle.tk_journal.specs.Journal.{Log}
use Rattle.tk_journal.specs.Legal.{IsLegal}
use Rattle.tk_journal.specs.Progress.{IsOpen}
use Rattle.tk_journal.specs.Right.{IsRight}
use Rattle.tk_journal.specs.Weight.{weight}
use Rattle.tk_machine.specs.Machine.{IsSimulated}
use Rattle.tk_machine.specs.State.{start}
use Rattle.tk_manifest.specs.declared.kinds.KindSet.TheVariants.{WithScenario}
use Rattle.tk_scenario_laws.specs.Laws.{IsPlayable, count_asks}
use Rattle.tk_simulate.specs.Ends.{AreEndsScripted}
use Rattle.tk_simulate.specs.Runs.{AdmitsNoMore, AreOnClock}
use Rattle.tk_simulate.specs.Scripts.{scenario_in, script_in, scripts_by}
use Rattle.tk_world.specs.Goes.{TakesAll}
use Rattle.tk_world.specs.Whole.{AreNewNodes, IsWorld, Whole, machine_of}

-- the folder of all pods
abbrev pub root : List ℕ
root = codes "/work"

-- what is admitted of an input for `simulate`, the entries with the newest first, and its Scenario
abbrev pub given_by : List ℕ → Admitted
given_by bytes = admitted WithScenario 0 root bytes

abbrev pub entries_of : Admitted → List Entry
entries_of given = reverse given.entries

-- what admission gives can be played
pub record MayBePlayed (given : Admitted) : Type 0 where
  pub legal : IsLegal (entries_of given)
  pub admits : AreAdmits (entries_of given)
  pub rooted : HaveRoot root (entries_of given)
  pub playable : IsPlayable (scenario_in given.scenario)
  pub weighs : weight (entries_of given) + count_asks (scenario_in given.scenario).events ≤ given.weight
  pub timely : AreOnClock (entries_of given)

-- the whole system at the start: what was admitted stands in its journal, and no cache, kubelet or host has done anything
pub record IsBegun (given : Admitted) (begun : Whole) : Type 0 where
  pub world : machine_of begun ≡ start (scenario_in given.scenario).controllers (scenario_in given.scenario).kubelets (entries_of given)
  pub nodes : AreNewNodes begun.pods (scenario_in given.scenario).kubelets begun.nodes
  -- the hosts play the Scenario's outcomes
  pub pods : begun.pods ≡ scripts_by (scenario_in given.scenario).outcomes
  pub stands : IsWorld begun

-- from there on the Scenario's events and so many fair rounds lead to the history, each as the whole system takes it: so each
-- turn answered what its actor's cache and its host gave, and no other history comes of them
pub record IsTakenTo (given : Admitted) (rounds : ℕ) (history : List Entry) : Type 0 where
  pub begun : Whole
  pub begins : IsBegun given begun
  pub ended : Whole
  pub takes : TakesAll ((scenario_in given.scenario).events ++ replicate rounds events.Round) begun ended
  pub end : ended.store.history ≡ history

pub record IsPlayed (given : Admitted) (history : List Entry) : Type 0 where
  -- all events of the Scenario came to the machine, and then fair rounds
  pub simulated : IsSimulated (script_in (scenario_in given.scenario)) (scenario_in given.scenario).controllers (scenario_in given.scenario).kubelets
      (entries_of given) (scenario_in given.scenario).events history
  -- at most as many as the weight
  pub few : simulated.rounds ≤ given.weight
  -- each event, and each turn of a round, did what the whole system does
  pub taken : IsTakenTo given simulated.rounds history
  -- until no run that isn't pending was open
  pub closed : IsOpen history → ⊥
  -- it is legal, and right at each of its positions
  pub legal : IsLegal history
  pub right : (n : ℕ) → IsRight (past n history)
  -- it begins with what was admitted, and admits nothing more
  pub admitted : AdmitsNoMore (entries_of given) history
  -- each pod ended with the exits and the results of its script
  pub ends : AreEndsScripted (script_in (scenario_in given.scenario)) history
  -- each moment has a text
  pub timely : AreOnClock history

-- an input without a fault comes to such a journal
abbrev pub Plays : List ℕ → Result Log Rejected → Type 0
Plays bytes (Ok journal) = (input_fault WithScenario 0 bytes ≡ None) × IsPlayed (given_by bytes) journal.history
Plays bytes (Err error) = IsRefusal (input_fault WithScenario 0 bytes) error
