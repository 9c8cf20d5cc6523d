-- What a history comes to, counted by its entries.
use Rattle.std.specs.Prelude.{ℕ, Bool, true, false, not, if◌then◌else◌, List, ◌++◌, length, codes, decimal, count_by}
use Rattle.tk_journal.specs.declared.act.Act.{Act}
use Rattle.tk_journal.specs.declared.act.Act.TheVariants as acts
use Rattle.tk_journal.specs.declared.act.Admission.TheVariants as admissions
use Rattle.tk_journal.specs.declared.act.Closing.{Closing}
use Rattle.tk_journal.specs.declared.act.Closing.TheVariants as closings
use Rattle.tk_journal.specs.declared.entry.Entry.{Entry}
use Rattle.tk_summary.specs.declared.counting.Counted.{Counted}
use Rattle.tk_summary.specs.declared.counting.Counted.TheVariants as counted

-- a run closes, and its condition is as is said
abbrev pub holds : Closing → Bool → Bool
holds (closings.Run condition skipped results) true = condition.holds
holds (closings.Run condition skipped results) false = not condition.holds
holds _ _ = false

-- an act is one of those that are counted
abbrev pub is_counted : Counted → Act → Bool
is_counted counted.Runs (acts.Admit name (admissions.Run spec) pending asked root) = true
is_counted counted.TaskRuns (acts.Admit name (admissions.Task spec) pending asked root) = true
is_counted counted.TaskRuns (acts.MakeTaskRun name run task index mark) = true
is_counted counted.Attempts (acts.OpenAttempt name) = true
is_counted counted.True (acts.Close name closing) = holds closing true
is_counted counted.False (acts.Close name closing) = holds closing false
is_counted _ _ = false

-- how many entries do it
abbrev pub count_of : Counted → List Entry → ℕ
count_of what history = count_by (λ (e : Entry). is_counted what e.act) history

-- the line
abbrev pub summary_text : List Entry → List ℕ
summary_text history =
    codes "runs " ++ decimal (count_of counted.Runs history)
    ++ codes " true " ++ decimal (count_of counted.True history)
    ++ codes " false " ++ decimal (count_of counted.False history)
    ++ codes " taskruns " ++ decimal (count_of counted.TaskRuns history)
    ++ codes " attempts " ++ decimal (count_of counted.Attempts history)
    ++ codes " entries " ++ decimal (length history)
    ++ codes "\n"
