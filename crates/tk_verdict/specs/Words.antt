-- What the texts of a run's tasks and results see (Tekton, Pipelines, Variable Substitutions Supported by Tasks and Pipelines).
use Rattle.std.specs.Prelude.{ℕ, Bool, ◌||◌, not, List, [], ◌∷◌, ◌++◌, Option, filter_map, option_map, unwrap_or, codes}
use Rattle.std.specs.List.{list_any, enumerate_from}
use Rattle.tk_types.specs.declared.value.Pair.{Pair}
use Rattle.tk_types.specs.declared.task.PipelineTask.{PipelineTask}
use Rattle.tk_types.specs.declared.run.Facts.{Facts}
use Rattle.tk_types.specs.declared.run.Child.{Child}
use Rattle.tk_types.specs.declared.verdict.Verdict.{Verdict}
use Rattle.tk_types.specs.Lists.{first_row}
use Rattle.tk_bind.specs.declared.env.Env.{Env}
use Rattle.tk_early.specs.Words.{run_words, task_words}
use Rattle.tk_verdict.specs.Facts.{children_of, has_ended, all_ended, is_success, is_good}
use Rattle.tk_verdict.specs.Available.{available_results}
use Rattle.tk_verdict.specs.Verdict.{label_at, is_skipped, is_broken_label, is_stopped_label}

-- the status of a task, if it has one yet
abbrev pub task_status_rows : List Child → Verdict → List (Bool × List ℕ)
task_status_rows children label =
    (all_ended is_success children, codes "Succeeded")
    ∷ (list_any (has_ended (λ outcome. not (is_success outcome))) children, codes "Failed")
    ∷ (is_skipped label, codes "None")
    ∷ []

abbrev pub task_status : List Child → Verdict → Option (List ℕ)
task_status children label = first_row (task_status_rows children label)

abbrev pub status_word : Facts → List Verdict → ℕ × PipelineTask → Option Pair
status_word facts labels (place, task) =
    option_map (λ status. record { key = codes "tasks." ++ task.name ++ codes ".status"; value = status }) (task_status (children_of facts place) (label_at labels place))

-- a child of the task ended and isn't good
abbrev pub has_bad_child : Facts → ℕ × PipelineTask → Bool
has_bad_child facts (place, task) = list_any (has_ended (λ outcome. not (is_good task outcome))) (children_of facts place)

-- the status of all of `tasks`, with these labels
abbrev pub run_status_rows : Facts → List Verdict → List (Bool × List ℕ)
run_status_rows facts labels =
    (list_any (has_bad_child facts) (enumerate_from 0 facts.spec.tasks), codes "Failed")
    ∷ (list_any (λ label. is_broken_label label || is_stopped_label label) labels, codes "None")
    ∷ (list_any is_skipped labels, codes "Completed")
    ∷ []

abbrev pub run_status : Facts → List Verdict → List ℕ
run_status facts labels = unwrap_or (first_row (run_status_rows facts labels)) (codes "Succeeded")

-- the status variables that a task of `finally` sees
abbrev pub status_words : Facts → List Verdict → List Pair
status_words facts labels = record { key = codes "tasks.status"; value = run_status facts labels } ∷ filter_map (status_word facts labels) (enumerate_from 0 facts.spec.tasks)

-- what the texts of a task of `tasks`, of one of `finally` and of the pipeline's results see
abbrev pub env_with : Facts → List Pair → Env
env_with facts words = record { params = facts.spec.params; results = available_results facts; words = words }

abbrev pub task_env : Facts → PipelineTask → Env
task_env facts task = env_with facts (task_words facts.spec task)

abbrev pub finally_env : Facts → List Verdict → PipelineTask → Env
finally_env facts labels task = env_with facts (task_words facts.spec task ++ status_words facts labels)

abbrev pub results_env : Facts → Env
results_env facts = env_with facts (run_words facts.spec)
