-- What a command prints for an input, and the status with which it ends.
use Rattle.std.specs.Prelude.{◌≡◌, ℕ, if◌then◌else◌, List, [], ◌++◌, Option, Some, None, codes, decimal, flat_map}
use Rattle.std.specs.List.{enumerate_from}
use Rattle.tk_types.specs.declared.fault.Fault.{Fault}
use Rattle.tk_types.specs.declared.rejected.Rejected.{Rejected}
use Rattle.tk_types.specs.declared.rejected.Rejected.TheVariants.{Memory, Fault as FaultFound}
use Rattle.tk_types.specs.declared.run.Facts.{Facts}
use Rattle.tk_types.specs.declared.task.PipelineTask.{PipelineTask}
use Rattle.tk_types.specs.declared.value.Param.{Param}
use Rattle.tk_types.specs.declared.verdict.Condition.{Condition}
use Rattle.tk_types.specs.declared.verdict.Verdict.{Verdict}
use Rattle.tk_types.specs.declared.verdict.Verdict.TheVariants.{Ran, Skipped, Runs, Ready, Waits, Wrong}
use Rattle.tk_types.specs.Fault.{fault_line}
use Rattle.tk_types.specs.First.{Finding}
use Rattle.tk_manifest.specs.declared.kinds.KindSet.{KindSet}
use Rattle.tk_manifest.specs.declared.kinds.KindSet.TheVariants.{Four, WithOutcomes}
use Rattle.tk_results.specs.Written.{json_text}
use Rattle.tk_verdict.specs.Condition.{condition_of, results_of}
use Rattle.tk_verdict.specs.Facts.{all_tasks}
use Rattle.tk_verdict.specs.Labels.{labels_of}
use Rattle.tk_verdict.specs.Texts.{skip_text}
use Rattle.tk_verdict.specs.Verdict.{label_at}
use Rattle.tk_journal.specs.declared.admitted.Admitted.{Admitted}
use Rattle.tk_admit.specs.Admit.{admitted, input_fault}
use Rattle.tk_commands.specs.declared.due.Due.{Due}

-- the line of a task: its label, its name, and why it is skipped
abbrev pub label_word : Verdict → List ℕ
label_word Ran = codes "ran"
label_word (Skipped reason) = codes "skipped"
label_word Runs = codes "runs"
label_word Ready = codes "ready"
label_word Waits = codes "waits"
label_word Wrong = codes "wrong"

abbrev pub label_reason : Verdict → List ℕ
label_reason (Skipped reason) = codes " " ++ skip_text reason
label_reason _ = []

abbrev pub label_line : List ℕ → Verdict → List ℕ
label_line name label = codes "  " ++ label_word label ++ codes " " ++ name ++ label_reason label ++ codes "\n"

-- the first line: the run, the status of its condition and the reason
abbrev pub condition_words : Option Condition → List ℕ
condition_words None = codes "Unknown Running"
condition_words (Some condition) = (if condition.holds then codes "True " else codes "False ") ++ condition.reason

abbrev pub run_line : List ℕ → Option Condition → List ℕ
run_line name condition = codes "pipelinerun " ++ name ++ codes " " ++ condition_words condition ++ codes "\n"

-- a line for each task with the label of its place, in order
abbrev pub task_line : List Verdict → ℕ × PipelineTask → List ℕ
task_line labels (place, task) = label_line task.name (label_at labels place)

-- a line for each result, once there is a condition
abbrev pub result_line : Param → List ℕ
result_line result = codes "  result " ++ result.name ++ codes " " ++ json_text result.value ++ codes "\n"

abbrev pub result_lines : List Param → Option Condition → List ℕ
result_lines results None = []
result_lines results (Some condition) = flat_map result_line results

abbrev pub decided_text : Facts → List Verdict → Option Condition → List ℕ
decided_text facts labels condition =
    run_line facts.spec.name condition ++ flat_map (task_line labels) (enumerate_from 0 (all_tasks facts)) ++ result_lines (results_of facts) condition

-- 0 where the condition is true, 1 where it is false, and 7 where there is none
abbrev pub status_of : Option Condition → ℕ
status_of None = 7
status_of (Some condition) = if condition.holds then 0 else 1

abbrev pub decided_by : Facts → List Verdict → Option Condition → Due
decided_by facts labels condition = record { status = status_of condition; text = decided_text facts labels condition }

abbrev pub decided : Facts → Due
decided facts = decided_by facts (labels_of facts) (condition_of facts (labels_of facts))

-- `decide` speaks of the facts of a run, which admission gives it
abbrev pub IsDecided : Option Facts → Due → Type 0
IsDecided None due = ⊥
IsDecided (Some facts) due = due ≡ decided facts

-- `check` tells the number of objects
abbrev pub checked : ℕ → Due
checked objects = record { status = 0; text = codes "ok " ++ decimal objects ++ codes "\n" }

-- a fault's line, with status 3
abbrev pub rejected : Fault → Due
rejected fault = record { status = 3; text = fault_line fault }

-- this is due where the input is refused; where memory ran out nothing is
abbrev pub IsRefusalDue : Rejected → Due → Type 0
IsRefusalDue Memory due = ⊥
IsRefusalDue (FaultFound fault) due = due ≡ rejected fault

-- the folder below which a run's files would stand; these commands start none
abbrev pub root : List ℕ
root = codes "/work"

-- what is due for an input: the line of its first fault, or what is due for what is admitted of it
abbrev pub IsAnswered : (Admitted → Due → Type 0) → Admitted → Finding → Due → Type 0
IsAnswered accepted found (Some fault) due = due ≡ rejected fault
IsAnswered accepted found None due = accepted found due

abbrev pub IsDueBy : (Admitted → Due → Type 0) → KindSet → List ℕ → Due → Type 0
IsDueBy accepted kinds bytes due = IsAnswered accepted (admitted kinds 0 root bytes) (input_fault kinds 0 bytes) due

-- what `check` and `decide` print for the bytes of an input
abbrev pub IsCheckDue : List ℕ → Due → Type 0
IsCheckDue bytes due = IsDueBy (λ (found : Admitted) (due : Due). due ≡ checked found.objects) Four bytes due

abbrev pub IsDecideDue : List ℕ → Due → Type 0
IsDecideDue bytes due = IsDueBy (λ (found : Admitted) (due : Due). IsDecided found.outcomes due) WithOutcomes bytes due
