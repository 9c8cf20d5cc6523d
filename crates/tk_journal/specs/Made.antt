-- What an entry of a legal history does to the object that it names.
use Rattle.std.specs.Prelude.{◌≡◌, ℕ, suc, List, Option, Some, None, true, false, is_some}
use Rattle.tk_types.specs.declared.scenario.Kind.{Kind}
use Rattle.tk_types.specs.declared.scenario.Kind.TheVariants as kinds
use Rattle.tk_journal.specs.declared.entry.Entry.{Entry}
use Rattle.tk_journal.specs.Effects.{name_of, kind_of, run_made, task_run_made, pod_made}
use Rattle.tk_journal.specs.History.{past, run_of, task_run_of, pod_of, creates}
use Rattle.tk_journal.specs.Journal.{entry_at}
use Rattle.tk_journal.specs.Legal.{IsLegal}

-- it makes the object where that isn't there yet, and only changes it where it is
abbrev pub MakesOrChanges : {X : Type 0} → Kind → Entry → Option X → Option X → Type 0
MakesOrChanges kind e made None = (is_some made ≡ true) × (creates kind e.act ≡ true)
MakesOrChanges kind e made (Some before) = creates kind e.act ≡ false

-- the objects before an entry, by the kind that it writes; a TaskRun is made of what its run has there
pub record Writes (older : List Entry) (e : Entry) : Type 0 where
  pub runs : kind_of e.act ≡ kinds.Runs → MakesOrChanges kinds.Runs e (run_made e.act) (run_of older (name_of e.act))
  pub task_runs : kind_of e.act ≡ kinds.TaskRuns → MakesOrChanges kinds.TaskRuns e (task_run_made (run_of older) e.act) (task_run_of older (name_of e.act))
  pub pods : kind_of e.act ≡ kinds.Pods → MakesOrChanges kinds.Pods e (pod_made e.act) (pod_of older (name_of e.act))

abbrev pub EntriesWrite : Type 0
EntriesWrite = (history : List Entry) → IsLegal history → (place : ℕ) (e : Entry) → entry_at (suc place) history ≡ Some e → Writes (past place history) e
