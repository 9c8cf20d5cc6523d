-- The status of tasks by children that are given apart.
use Rattle.std.specs.Prelude.{ℕ, Bool, ◌||◌, not, List, [], ◌∷◌, ◌++◌, Option, option_map, unwrap_or, codes}
use Rattle.std.specs.List.{list_any, enumerate_from}
use Rattle.tk_types.specs.declared.value.Pair.{Pair}
use Rattle.tk_types.specs.declared.task.PipelineTask.{PipelineTask}
use Rattle.tk_types.specs.declared.run.Child.{Child}
use Rattle.tk_types.specs.declared.verdict.Verdict.{Verdict}
use Rattle.tk_types.specs.Lists.{first_row}
use Rattle.tk_verdict.specs.Facts.{children_at, has_ended, is_good}
use Rattle.tk_verdict.specs.Verdict.{is_broken_label, is_skipped, is_stopped_label, label_at}
use Rattle.tk_verdict.specs.Words.{task_status}

-- a child of the task ended and isn't good
abbrev pub has_bad_child_among : List Child → ℕ × PipelineTask → Bool
has_bad_child_among children (place, task) = list_any (has_ended (λ outcome. not (is_good task outcome))) (children_at children place)

-- the status of all of some tasks
abbrev pub run_status_among : List Child → List PipelineTask → List Verdict → List ℕ
run_status_among children tasks labels =
    unwrap_or
    (first_row
    ((list_any (has_bad_child_among children) (enumerate_from 0 tasks), codes "Failed")
    ∷ (list_any (λ label. is_broken_label label || is_stopped_label label) labels, codes "None")
    ∷ (list_any is_skipped labels, codes "Completed")
    ∷ []))
    (codes "Succeeded")

-- the status variable of a task with these children and this label
abbrev pub word_of : List Child → Verdict → PipelineTask → Option Pair
word_of children label task = option_map (λ status. record { key = codes "tasks." ++ task.name ++ codes ".status"; value = status }) (task_status children label)

abbrev pub word_among : List Child → List Verdict → ℕ × PipelineTask → Option Pair
word_among children labels (place, task) = word_of (children_at children place) (label_at labels place) task
