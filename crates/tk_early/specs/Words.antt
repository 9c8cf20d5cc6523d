-- The words that the texts of a run and of its tasks see from the start (Tekton, Pipelines, Variable Substitutions Supported by Tasks and Pipelines).
use Rattle.std.specs.Prelude.{ℕ, List, [], ◌∷◌, ◌++◌, codes, decimal}
use Rattle.tk_types.specs.declared.value.Pair.{Pair}
use Rattle.tk_types.specs.declared.task.PipelineTask.{PipelineTask}
use Rattle.tk_types.specs.declared.run.RunSpec.{RunSpec}
use Rattle.tk_bind.specs.declared.env.Env.{Env}

-- of a run and a pipeline of these names
abbrev pub words_named : List ℕ → List ℕ → List Pair
words_named run pipeline =
    record { key = codes "context.pipelineRun.name"; value = run } ∷ record { key = codes "context.pipeline.name"; value = pipeline } ∷ []

-- of a task of so many retries in them
abbrev pub words_with : List ℕ → List ℕ → ℕ → List Pair
words_with run pipeline retries = words_named run pipeline ++ record { key = codes "context.pipelineTask.retries"; value = decimal retries } ∷ []

abbrev pub words_of : List ℕ → List ℕ → PipelineTask → List Pair
words_of run pipeline task = words_with run pipeline task.retries

-- of a resolved run, and of its tasks
abbrev pub run_words : RunSpec → List Pair
run_words spec = words_named spec.name spec.pipeline

abbrev pub task_words : RunSpec → PipelineTask → List Pair
task_words spec task = words_of spec.name spec.pipeline task

-- what the texts of a task see before any child ended
abbrev pub first_env : RunSpec → PipelineTask → Env
first_env spec task = record { params = spec.params; results = []; words = task_words spec task }
