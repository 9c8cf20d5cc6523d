-- What a user's ask comes to: the first refusal that holds at the journal's end, or an entry there.
use Rattle.std.specs.Prelude.{◌≡◌, ℕ, List, [], ◌∷◌, length, Option, Some, None, Bool, true, false, nat_lt, is_some, if◌then◌else◌}
use Rattle.tk_types.specs.declared.object.Asked.{Asked}
use Rattle.tk_types.specs.declared.object.Asked.TheVariants as asks
use Rattle.tk_types.specs.declared.scenario.Kind.TheVariants as kinds
use Rattle.tk_types.specs.Behaviour.{level_of}
use Rattle.tk_journal.specs.declared.act.Act.TheVariants as acts
use Rattle.tk_journal.specs.declared.entry.Actor.TheVariants as actors
use Rattle.tk_journal.specs.declared.entry.Entry.{Entry}
use Rattle.tk_journal.specs.declared.object.RunState.{RunState}
use Rattle.tk_journal.specs.declared.object.TaskRunState.{TaskRunState}
use Rattle.tk_journal.specs.History.{run_of, task_run_of, version_of}
use Rattle.tk_journal.specs.Stops.{asked_level}
use Rattle.tk_store.specs.Writes.{Stored, IsAdded}
use Rattle.tk_user.specs.declared.answer.AskAnswer.{AskAnswer}
use Rattle.tk_user.specs.declared.answer.AskAnswer.TheVariants as answers

-- the greatest of these levels, and of one more
abbrev pub greatest : {X : Type 0} → (X → ℕ) → ℕ → List X → ℕ
greatest level most [] = most
greatest level most (x ∷ xs) = greatest level (if nat_lt most (level x) then level x else most) xs

-- the greatest asked or recorded level
abbrev pub top_level : RunState → ℕ
top_level run = greatest level_of (greatest asked_level 0 run.asked) run.stops

-- the status is above all of that; a start, where the run is pending
abbrev pub is_higher : RunState → Asked → Bool
is_higher run asks.Start = run.pending
is_higher run status = nat_lt (top_level run) (asked_level status)

abbrev pub run_refusal : ℕ → Asked → Option RunState → Option AskAnswer
run_refusal version status None = Some answers.NoSuch
run_refusal version status (Some run) =
    if is_some run.closed then Some (answers.Finished version)
    else if is_higher run status then None
    else Some (answers.NotHigher (top_level run))

-- a child of a run isn't asked for; a mark has the level of what it asks
abbrev pub task_run_refusal : ℕ → Option TaskRunState → Option AskAnswer
task_run_refusal version None = Some answers.NoSuch
task_run_refusal version (Some task_run) =
    if is_some task_run.run then Some answers.NoSuch
    else if is_some task_run.closed then Some (answers.Finished version)
    else if task_run.marked then Some (answers.NotHigher 4)
    else None

-- the status is for a TaskRun
abbrev pub is_for_task_run : Asked → Bool
is_for_task_run asks.TaskRunCancelled = true
is_for_task_run _ = false

-- the refusal that is due, if any
abbrev pub refusal : List Entry → List ℕ → Asked → Option AskAnswer
refusal history name status =
    if is_for_task_run status
    then task_run_refusal (version_of kinds.TaskRuns name history) (task_run_of history name)
    else run_refusal (version_of kinds.Runs name history) status (run_of history name)

-- the entry stands at the journal's end
abbrev pub ask_entry : List Entry → List ℕ → Asked → ℕ → Entry
ask_entry history name status moment = record {
  actor = actors.User;
  fronts = record { runs = length history; task_runs = length history; pods = length history };
  moment = moment;
  act = acts.Ask name status;
}

-- the answer, and the store after it
abbrev pub Answered : Option AskAnswer → Entry → Stored → AskAnswer → Stored → Type 0
Answered due entry before (answers.Wrote version) after = (due ≡ None) × IsAdded before entry version after
Answered due entry before answer after = (due ≡ Some answer) × (after ≡ before)
