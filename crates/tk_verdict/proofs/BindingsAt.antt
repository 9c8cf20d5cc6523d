-- The bindings at a place, by the task that was read there.
use Rattle.std.proofs.Common.{◌≡◌, ℕ, ◌-◌, ◌≤◌, List, length, take, sym, ap, ◌∙◌}
use Rattle.std.specs.Prelude.{Option, Some, None, option_and_then, slice_get}
use Rattle.std.proofs.lemmas.Option.{slice_get_past}
use Rattle.tk_types.specs.declared.task.PipelineTask.{PipelineTask}
use Rattle.tk_types.specs.declared.run.Facts.{Facts}
use Rattle.tk_types.specs.declared.verdict.Binding.{Binding}
use Rattle.tk_types.specs.declared.verdict.Verdict.{Verdict}
use Rattle.tk_verdict.specs.Labels.{bindings_at, bindings_in}
use Rattle.tk_verdict.specs.Words.{finally_env, task_env}

-- the same, by what was found in `tasks` and in `finally`
abbrev found_in : Facts → List Verdict → Option PipelineTask → Option PipelineTask → Option (List Binding)
found_in facts front first last =
    elim first [
      | Some task ↦ bindings_in (task_env facts task) task
      | None ↦ option_and_then (λ task. bindings_in (finally_env facts front task) task) last
    ]

pub of_task : (facts : Facts) (labels : List Verdict) (place : ℕ) (task : PipelineTask) → slice_get facts.spec.tasks place ≡ Some task
    → bindings_in (task_env facts task) task ≡ bindings_at facts labels place
of_task facts labels place task found =
    sym (ap (λ o. found_in facts (take (length facts.spec.tasks) labels) o (slice_get facts.spec.finally (place - length facts.spec.tasks))) found)

pub of_final : (facts : Facts) (labels front : List Verdict) (place : ℕ) (task : PipelineTask) → length facts.spec.tasks ≤ place
    → slice_get facts.spec.finally (place - length facts.spec.tasks) ≡ Some task → front ≡ take (length facts.spec.tasks) labels
    → bindings_in (finally_env facts front task) task ≡ bindings_at facts labels place
of_final facts labels front place task past found is =
    ap (λ ls. bindings_in (finally_env facts ls task) task) is
    ∙ sym ((λ i. found_in facts (take (length facts.spec.tasks) labels) (slice_get_past facts.spec.tasks place past i) (found i)))

pub of_none : (facts : Facts) (labels : List Verdict) (place : ℕ) → length facts.spec.tasks ≤ place
    → length facts.spec.finally ≤ place - length facts.spec.tasks → None ≡ bindings_at facts labels place
of_none facts labels place past late =
    sym (λ i. found_in facts (take (length facts.spec.tasks) labels) (slice_get_past facts.spec.tasks place past i) (slice_get_past facts.spec.finally (place - length facts.spec.tasks) late i))
