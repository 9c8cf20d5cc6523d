-- The results that the texts of a task refer to (Tekton, Pipelines, Passing one Task's Results into the Parameters or when expressions
-- of another).
use Rattle.std.specs.Prelude.{ℕ, List, [], ◌∷◌, ◌++◌, map, Option, Some, None, filter_map, flat_map}
use Rattle.tk_types.specs.declared.value.Param.{Param}
use Rattle.tk_types.specs.declared.task.Matrix.{Matrix}
use Rattle.tk_types.specs.declared.task.PipelineTask.{PipelineTask}
use Rattle.tk_types.specs.declared.task.When.{When}
use Rattle.tk_types.specs.Value.{value_texts}
use Rattle.tk_vars.specs.declared.reference.Reference.{Reference}
use Rattle.tk_vars.specs.Offset.{bad_offset}
use Rattle.tk_vars.specs.Target.{Target, result, target_of, references_of}

-- the texts of parameters, of a matrix and of a `when` expression
abbrev pub params_texts : List Param → List (List ℕ)
params_texts params = flat_map (λ (p : Param). value_texts p.value) params

abbrev pub matrix_texts : Option Matrix → List (List ℕ)
matrix_texts None = []
matrix_texts (Some matrix) = params_texts matrix.params ++ flat_map params_texts matrix.include

abbrev pub when_texts : When → List (List ℕ)
when_texts guard = guard.input ∷ guard.values

abbrev pub guards_texts : List When → List (List ℕ)
guards_texts guards = flat_map when_texts guards

-- all texts of a task, in reading order
abbrev pub task_texts : PipelineTask → List (List ℕ)
task_texts task = params_texts task.params ++ matrix_texts task.matrix ++ guards_texts task.when

-- the task and the name of the result that a reference refers to
abbrev pub referenced_result : Target → Option (List ℕ × List ℕ)
referenced_result (result task name selector) = Some (task, name)
referenced_result target = None

-- the results that a text with a reading refers to, each as its task and its name; a text without one refers to nothing
abbrev pub results_read : List ℕ → List (List ℕ × List ℕ)
results_read text = filter_map (λ (r : Reference). referenced_result (target_of r.parts)) (references_of text)

unfoldable pub text_results : List ℕ → List (List ℕ × List ℕ)
text_results text = elim (bad_offset text) [ None ↦ results_read text | Some offset ↦ [] ]

-- the results that a task refers to
abbrev pub task_results : PipelineTask → List (List ℕ × List ℕ)
task_results task = flat_map text_results (task_texts task)

-- the tasks of these results, of a text and of some
abbrev pub text_tasks : List ℕ → List (List ℕ)
text_tasks text = map (λ (r : List ℕ × List ℕ). r.0) (text_results text)

abbrev pub result_tasks : List (List ℕ) → List (List ℕ)
result_tasks texts = flat_map text_tasks texts
