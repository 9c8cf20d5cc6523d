-- What the texts of a task see, by the environment that its place takes.
use Rattle.std.proofs.Common.{◌≡◌, ℕ, ◌<◌, ◌≤◌, List, [], length, map, sym, ap, ◌∙◌}
use Rattle.std.specs.Prelude.{Bool, if◌then◌else◌}
use Rattle.std.proofs.lemmas.Bool.{le-ltb, lt-ltb}
use Rattle.std.proofs.lemmas.List.{append-nil}
use Rattle.tk_types.specs.declared.run.Facts.{Facts}
use Rattle.tk_types.specs.declared.task.PipelineTask.{PipelineTask}
use Rattle.tk_types.specs.declared.task.When.{When}
use Rattle.tk_types.specs.declared.value.Pair.{Pair}
use Rattle.tk_bind.specs.declared.env.Env.{Env}
use Rattle.tk_early.specs.Words.{task_words}
use Rattle.tk_verdict.specs.Gives.{first_labels}
use Rattle.tk_verdict.specs.Words.{env_with, finally_env, status_words, task_env}
use Rattle.tk_report.specs.Guards.{guard_shown, guards_before, guards_shown}

abbrev by_place : Facts → PipelineTask → Bool → List When
by_place facts task first = map (guard_shown (if first then task_env facts task else finally_env facts (first_labels facts) task)) task.when

pub shown_first : (facts : Facts) (env : Env) (place : ℕ) (task : PipelineTask) → env ≡ env_with facts [] → place < length facts.spec.tasks
    → guards_before facts env task ≡ guards_shown facts place task
shown_first facts env place task is below =
    ap (λ (e : Env). guards_before facts e task) is
    ∙ ap (λ (words : List Pair). map (guard_shown (env_with facts words)) task.when) (append-nil (task_words facts.spec task))
    ∙ sym (ap (by_place facts task) (lt-ltb place (length facts.spec.tasks) below))

pub shown_last : (facts : Facts) (env : Env) (place : ℕ) (task : PipelineTask) → env ≡ env_with facts (status_words facts (first_labels facts)) → length facts.spec.tasks ≤ place
    → guards_before facts env task ≡ guards_shown facts place task
shown_last facts env place task is past =
    ap (λ (e : Env). guards_before facts e task) is
    ∙ sym (ap (by_place facts task) (le-ltb place (length facts.spec.tasks) past))
