-- The `when` expressions of a task as a report shows them.
use Rattle.std.specs.Prelude.{ℕ, ◌++◌, nat_lt, if◌then◌else◌, List, length, map, unwrap_or}
use Rattle.std.specs.Result.{result_ok}
use Rattle.tk_types.specs.declared.run.Facts.{Facts}
use Rattle.tk_types.specs.declared.task.PipelineTask.{PipelineTask}
use Rattle.tk_types.specs.declared.task.When.{When}
use Rattle.tk_bind.specs.declared.env.Env.{Env}
use Rattle.tk_bind.specs.Substitute.{substituted, substituted_list}
use Rattle.tk_early.specs.Words.{task_words}
use Rattle.tk_verdict.specs.Gives.{first_labels}
use Rattle.tk_verdict.specs.Words.{task_env, finally_env}

-- what the task at a place sees
abbrev pub env_at : Facts → ℕ → PipelineTask → Env
env_at facts place task = if nat_lt place (length facts.spec.tasks) then task_env facts task else finally_env facts (first_labels facts) task

-- substituted, or as written where a reference has no value
abbrev pub text_shown : Env → List ℕ → List ℕ
text_shown env text = unwrap_or (result_ok (substituted env text)) text

abbrev pub texts_shown : Env → List (List ℕ) → List (List ℕ)
texts_shown env texts = unwrap_or (result_ok (substituted_list env texts)) texts

abbrev pub guard_shown : Env → When → When
guard_shown env guard = record { input = text_shown env guard.input; is_member = guard.is_member; values = texts_shown env guard.values }

-- of the task at a place
abbrev pub guards_shown : Facts → ℕ → PipelineTask → List When
guards_shown facts place task = map (guard_shown (env_at facts place task)) task.when

-- of a task whose own words stand before those of an environment
abbrev pub with_own_words : Facts → Env → PipelineTask → Env
with_own_words facts env task = record { params = env.params; results = env.results; words = task_words facts.spec task ++ env.words }

abbrev pub guards_before : Facts → Env → PipelineTask → List When
guards_before facts env task = map (guard_shown (with_own_words facts env task)) task.when
