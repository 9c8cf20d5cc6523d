-- What is gathered of a run before its tasks are judged.
use Rattle.std.specs.Prelude.{◌≡◌, ℕ, ◌+◌, Bool, if◌then◌else◌, List, [], length, map, All, Option, Some, slice_get}
use Rattle.std.specs.Option.{option_map_or}
use Rattle.tk_types.specs.declared.task.PipelineTask.{PipelineTask}
use Rattle.tk_types.specs.declared.task.TaskBody.{TaskBody}
use Rattle.tk_types.specs.declared.run.Facts.{Facts}
use Rattle.tk_types.specs.declared.run.Child.{Child}
use Rattle.tk_types.specs.declared.verdict.SkipReason.{SkipReason}
use Rattle.tk_types.specs.declared.verdict.SkipReason.TheVariants.{Missing}
use Rattle.tk_types.specs.declared.verdict.Verdict.{Verdict}
use Rattle.tk_types.specs.declared.verdict.Verdict.TheVariants.{Waits}
use Rattle.tk_bind.specs.declared.env.Env.{Env}
use Rattle.tk_verdict.specs.Facts.{task_total}
use Rattle.tk_verdict.specs.Good.{AreGood}
use Rattle.tk_verdict.specs.Labels.{finally_line}
use Rattle.tk_verdict.specs.Own.{own_in, row_by}
use Rattle.tk_verdict.specs.Readings.{ReadsBody, ReadsTask}
use Rattle.tk_verdict.specs.Rows.{lacks_any_result, lacks_result}
use Rattle.tk_verdict.specs.Verdict.{label_at}
use Rattle.tk_verdict.specs.Words.{env_with, status_words, task_env}

-- the texts of the tasks and of their bodies have readings, and there is one body a task
pub record IsReadable (facts : Facts) : Type 0 where
  pub tasks : All ReadsTask facts.spec.tasks
  pub finals : All ReadsTask facts.spec.finally
  pub bodies : All ReadsBody facts.spec.bodies
  pub one_body_each : length facts.spec.bodies ≡ task_total facts

-- the children, which tasks are good, and the parameters and results
pub record IsGathered (facts : Facts) (children : List Child) (good : List Bool) (env : Env) : Type 0 where
  pub all_children : children ≡ facts.children
  pub are_good : AreGood facts good
  pub env_is : env ≡ env_with facts []

-- the same for tasks of `finally`, with these labels of `tasks`
pub record IsGatheredFor (facts : Facts) (labels : List Verdict) (children : List Child) (env : Env) : Type 0 where
  pub all_children : children ≡ facts.children
  pub env_is : env ≡ env_with facts (status_words facts labels)

-- the label of the k-th task of `finally`, with these labels of `tasks`
abbrev pub final_line : Facts → List Verdict → ℕ → Verdict
final_line facts labels k = option_map_or (finally_line facts labels (length facts.spec.tasks + k)) (slice_get facts.spec.finally k) Waits

-- parents with their labels
abbrev pub labelled : List Verdict → List ℕ → List (ℕ × Verdict)
labelled labels places = map (λ p. (p, label_at labels p)) places

-- why a task whose parents are good is skipped
abbrev pub good_row : Facts → List (ℕ × Verdict) → PipelineTask → TaskBody → Option SkipReason
good_row facts parents task body = if lacks_result facts parents task then Some Missing else row_by body (own_in (task_env facts task) task)

-- why a task of `finally` is skipped in an environment, once all of `tasks` are done
abbrev pub final_row : Env → PipelineTask → TaskBody → Option SkipReason
final_row env task body = if lacks_any_result env task then Some Missing else row_by body (own_in env task)
