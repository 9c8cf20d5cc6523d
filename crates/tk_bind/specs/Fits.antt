-- Whether a task's body can run with the parameters of a binding.
use Rattle.std.specs.Prelude.{ℕ, Bool, false, ◌&&◌, List, [], ◌∷◌, ◌++◌, map, Ok, Err, is_ok, codes, flat_map, option_to_list}
use Rattle.std.specs.List.{list_all}
use Rattle.tk_types.specs.declared.value.Pair.{Pair}
use Rattle.tk_types.specs.declared.value.Param.{Param}
use Rattle.tk_types.specs.declared.value.ResultSpec.{ResultSpec}
use Rattle.tk_types.specs.declared.task.Step.{Step}
use Rattle.tk_types.specs.declared.task.SpaceSpec.{SpaceSpec}
use Rattle.tk_types.specs.declared.task.TaskBody.{TaskBody}
use Rattle.tk_bind.specs.declared.env.Env.{Env}
use Rattle.tk_bind.specs.Substitute.{substituted, substituted_list}
use Rattle.tk_bind.specs.Bind.{bound_params}

-- a word that has a value, whatever it is
abbrev pub some_word : List ℕ → Pair
some_word key = record { key = key; value = [] }

-- the words that the texts of a task see
abbrev pub context_words : List Pair
context_words =
    some_word (codes "context.pipelineRun.name")
    ∷ some_word (codes "context.pipeline.name")
    ∷ some_word (codes "context.pipelineTask.retries")
    ∷ some_word (codes "context.taskRun.name")
    ∷ some_word (codes "context.task.name")
    ∷ some_word (codes "context.task.retry-count")
    ∷ []

abbrev pub result_words : List ResultSpec → List Pair
result_words results = map (λ (r : ResultSpec). some_word (codes "results." ++ r.name ++ codes ".path")) results

abbrev pub words_of_space : List ℕ → List Pair
words_of_space name = map (λ field. some_word (codes "workspaces." ++ name ++ field)) (codes ".path" ∷ codes ".bound" ∷ codes ".claim" ∷ [])

abbrev pub space_words : List SpaceSpec → List Pair
space_words spaces = flat_map (λ (s : SpaceSpec). words_of_space s.name) spaces

-- what the texts of a body's steps see, with the bound and the given parameters; an inlined spec sees what it doesn't declare from outside
abbrev pub step_env : TaskBody → List Param → Env
step_env body params =
    record { params = params ++ body.outer ++ body.fallback; results = []; words = context_words ++ result_words body.spec.results ++ space_words body.spec.spaces }

-- the elements of a step's lists, its other texts, and all
abbrev pub step_elements : Step → List (List ℕ)
step_elements step = step.command ++ step.args

abbrev pub step_single_texts : Step → List (List ℕ)
step_single_texts step = option_to_list step.script ++ map (λ (p : Pair). p.value) step.env ++ option_to_list step.dir

abbrev pub step_texts : Step → List (List ℕ)
step_texts step = step_elements step ++ step_single_texts step

-- each text of a step has a value
abbrev pub step_has_values : Env → Step → Bool
step_has_values env step = is_ok (substituted_list env (step_elements step)) && list_all (λ text. is_ok (substituted env text)) (step_single_texts step)

-- each declared parameter has a value of its type, and each text of the steps has a value
abbrev pub fits : TaskBody → List Param → Bool
fits body given =
    elim (bound_params body.spec.params given body.outer body.fallback) [
      | Ok bound ↦ list_all (step_has_values (step_env body (bound ++ given))) body.spec.steps
      | Err error ↦ false
    ]
