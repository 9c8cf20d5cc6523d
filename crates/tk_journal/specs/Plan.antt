-- The steps of one attempt, as they are substituted (Tekton, Tasks, Using variable substitution; Workspaces, Using Workspaces in Tasks).
use Rattle.std.specs.Prelude.{◌≡◌, ℕ, ◌+◌, ◌-◌, ◌^◌, Bool, ◌==◌, if◌then◌else◌, List, [], ◌∷◌, ◌++◌, map, flat_map, length, take, drop, Option, Some, None, option_map, option_and_then, unwrap_or, is_some, codes, decimal, bytes_eq, sum_by}
use Rattle.std.specs.List.{enumerate_from, position}
use Rattle.std.specs.Option.{option_map_or}
use Rattle.std.specs.Result.{result_ok}
use Rattle.tk_types.specs.declared.task.Step.{Step}
use Rattle.tk_types.specs.declared.value.Pair.{Pair}
use Rattle.tk_types.specs.declared.value.Param.{Param}
use Rattle.tk_types.specs.declared.value.ResultSpec.{ResultSpec}
use Rattle.tk_types.specs.Lists.{all_ok, all_some}
use Rattle.tk_edge.specs.declared.order.Order.{Order}
use Rattle.tk_bind.specs.declared.env.Env.{Env}
use Rattle.tk_bind.specs.Bind.{bound_params}
use Rattle.tk_bind.specs.Fits.{step_env}
use Rattle.tk_bind.specs.Substitute.{substituted, substituted_list, substituted_pair}
use Rattle.tk_names.specs.Children.{pod_name}
use Rattle.tk_space.specs.Space.{below, folders_of, pod_folder, words_of_space}
use Rattle.tk_journal.specs.declared.object.Plan.{Plan}
use Rattle.tk_journal.specs.declared.object.TaskRunState.{TaskRunState}

abbrev pub word : List ℕ → List ℕ → Pair
word key value = record { key = key; value = value }

-- the words that the texts of an attempt's steps see

abbrev pub result_word : List ℕ → ResultSpec → Pair
result_word folder spec = word (codes "results." ++ spec.name ++ codes ".path") (below (below folder (codes "results")) spec.name)

-- of a TaskRun: its run's and pipeline's names, its declared retries, its name, its Task's name and how many attempts came before
abbrev pub context_words : TaskRunState → ℕ → List Pair
context_words task_run attempt =
    word (codes "context.pipelineRun.name") (unwrap_or task_run.run [])
    ∷ word (codes "context.pipeline.name") task_run.pipeline
    ∷ word (codes "context.pipelineTask.retries") (decimal task_run.spec.retries)
    ∷ word (codes "context.taskRun.name") task_run.spec.name
    ∷ word (codes "context.task.name") task_run.spec.body.task_name
    ∷ word (codes "context.task.retry-count") (decimal (attempt - 1))
    ∷ []

-- the folder of the attempt's pod
abbrev pub pod_of_attempt : TaskRunState → ℕ → List ℕ
pod_of_attempt task_run attempt = pod_name task_run.spec.name attempt

abbrev pub folder_of : TaskRunState → ℕ → List ℕ
folder_of task_run attempt = pod_folder task_run.root (pod_of_attempt task_run attempt)

abbrev pub plan_words : TaskRunState → ℕ → List Pair
plan_words task_run attempt =
    let body = task_run.spec.body in
    let folder = folder_of task_run attempt in
    context_words task_run attempt
    ++ map (result_word folder) body.spec.results
    ++ flat_map (words_of_space task_run.root (pod_of_attempt task_run attempt) body.bound) body.spec.spaces

-- its parameters as they are bound to its body, and these words
abbrev pub plan_env : TaskRunState → ℕ → List Param → Env
plan_env task_run attempt bound = record (step_env task_run.spec.body (bound ++ task_run.binding.params)) { words = plan_words task_run attempt }

-- scripts

-- the first line without its end
abbrev pub first_line : List ℕ → List ℕ
first_line text = take (unwrap_or (position (λ b. b == 10) text) (length text)) text

-- what follows `#!` in the first line: up to the first space, and all behind it where there is something
abbrev pub interpreter : List ℕ → Option (List (List ℕ))
interpreter text = by_start (take 2 text) (drop 2 (first_line text))
  where
    by_words : List ℕ → List ℕ → Option (List (List ℕ))
    by_words [] rest = None
    by_words (byte ∷ bytes) [] = Some ((byte ∷ bytes) ∷ [])
    by_words (byte ∷ bytes) (next ∷ rest) = Some ((byte ∷ bytes) ∷ (next ∷ rest) ∷ [])

    by_start : List ℕ → List ℕ → Option (List (List ℕ))
    by_start start line =
        let space = unwrap_or (position (λ b. b == 32) line) (length line) in
        if bytes_eq start (codes "#!") then by_words (take space line) (drop (space + 1) line) else None

-- the file as it is put, and the words that run it
abbrev pub script_file : List ℕ → List ℕ
script_file text = if is_some (interpreter text) then text else codes "#!/bin/sh\nset -e\n" ++ text

abbrev pub script_words : List ℕ → List (List ℕ)
script_words text = unwrap_or (interpreter text) (codes "/bin/sh" ∷ [])

-- steps

abbrev pub is_absolute : List ℕ → Bool
is_absolute path = bytes_eq (take 1 path) (codes "/")

abbrev pub dir_in : List ℕ → List ℕ → List ℕ
dir_in folder dir = if is_absolute dir then dir else below folder dir

-- an optional text with its references substituted
abbrev pub maybe_in : Env → Option (List ℕ) → Option (Option (List ℕ))
maybe_in env None = Some None
maybe_in env (Some text) = option_map Some (result_ok (substituted env text))

-- a step whose texts are substituted
pub record Filled : Type 0 where
  pub command : List (List ℕ)
  pub args : List (List ℕ)
  pub script : Option (List ℕ)
  pub env : List Pair
  pub dir : Option (List ℕ)

-- a step of these texts
abbrev pub filled_of : List (List ℕ) → List (List ℕ) → Option (List ℕ) → List Pair → Option (List ℕ) → Filled
filled_of command args script pairs dir = record { command = command; args = args; script = script; env = pairs; dir = dir }

-- the step with each reference substituted, where each has a value
abbrev pub filled : Env → Step → Option Filled
filled env step =
    option_and_then
    (λ (command : List (List ℕ)). option_and_then
    (λ (args : List (List ℕ)). option_and_then
    (λ (script : Option (List ℕ)). option_and_then
    (λ (pairs : List Pair). option_map (filled_of command args script pairs) (maybe_in env step.dir))
    (result_ok (all_ok (map (substituted_pair env) step.env))))
    (maybe_in env step.script))
    (result_ok (substituted_list env step.args)))
    (result_ok (substituted_list env step.command))

abbrev pub argv_of : List ℕ → ℕ → Filled → List (List ℕ)
argv_of folder place step =
    option_map_or (λ text. script_words text ++ below (below folder (codes "scripts")) (decimal place) ∷ []) step.script step.command ++ step.args

abbrev pub order_of : List ℕ → List ℕ → ℕ × Filled → Order
order_of pod folder (place, step) = record {
  pod = pod;
  step = place;
  argv = argv_of folder place step;
  env = step.env;
  dir = option_map_or (dir_in folder) step.dir folder;
}

-- the word whose bits are the steps that continue on error
abbrev pub keep_bit : ℕ × Step → ℕ
keep_bit (place, step) = if step.keep_going then 2 ^ place else 0

abbrev pub keep_of : List Step → ℕ
keep_of steps = sum_by keep_bit (enumerate_from 0 steps)

abbrev pub plan_with : TaskRunState → ℕ → List Filled → Plan
plan_with task_run attempt steps =
    let body = task_run.spec.body in
    let folder = folder_of task_run attempt in
    record {
      orders = map (order_of (pod_of_attempt task_run attempt) folder) (enumerate_from 0 steps);
      scripts = map (λ (step : Filled). option_map_or script_file step.script []) steps;
      keep = keep_of body.spec.steps;
      results = body.spec.results;
      folders = folders_of task_run.root (pod_of_attempt task_run attempt) body.spec.spaces body.bound;
    }

-- the plan of a TaskRun's attempt, counted from 1, where each text of its steps has a value
abbrev pub plan_of : TaskRunState → ℕ → Option Plan
plan_of task_run attempt =
    let body = task_run.spec.body in
    option_and_then
    (λ (bound : List Param). option_map (plan_with task_run attempt) (all_some (map (filled (plan_env task_run attempt bound)) body.spec.steps)))
    (result_ok (bound_params body.spec.params task_run.binding.params body.outer body.fallback))

abbrev pub IsPlan : TaskRunState → ℕ → Plan → Type 0
IsPlan task_run attempt plan = plan_of task_run attempt ≡ Some plan
