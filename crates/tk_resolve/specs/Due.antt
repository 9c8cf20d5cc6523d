-- What is due where a text stands (Tekton, Pipelines, Using the parameters of a Pipeline).
use Rattle.std.specs.Prelude.{ℕ, Bool, true, false, List, [], ◌∷◌, ◌++◌, map, flat_map, Option, None, Some, option_to_list}
use denote.Ref.{Bor}
use Rattle.tk_types.specs.declared.value.Pair.{Pair}
use Rattle.tk_types.specs.declared.value.Param.{Param}
use Rattle.tk_types.specs.declared.value.ParamType.{ParamType}
use Rattle.tk_types.specs.declared.value.ParamType.TheVariants.{Str as string, Arr as array}
use Rattle.tk_types.specs.declared.value.Value.{Value}
use Rattle.tk_types.specs.declared.value.Value.TheVariants.{Str, Arr, Obj}
use Rattle.tk_types.specs.declared.task.Matrix.{Matrix}
use Rattle.tk_types.specs.declared.task.PipelineTask.{PipelineTask}
use Rattle.tk_types.specs.declared.task.Step.{Step}
use Rattle.tk_types.specs.declared.task.When.{When}
use Rattle.tk_resolve.specs.declared.due.Due.{Due}
use Rattle.tk_resolve.specs.declared.due.Due.TheVariants.{OneText, Element, AnyValue}

-- a text with what is due there
abbrev pub DueText : Type 0
DueText = Due × List ℕ

-- the same of borrowed texts
abbrev pub seen : List (Due × Bor (List ℕ)) → List DueText
seen texts = map (λ (t : Due × Bor (List ℕ)). (t.0, t.1.now)) texts

-- texts of which the same is due
abbrev pub dues : Due → List (List ℕ) → List DueText
dues due texts = map (λ (t : List ℕ). (due, t)) texts

-- The texts of a task, in reading order.

-- the texts of a value, where this is due of the value itself
abbrev pub value_dues : Due → Value → List DueText
value_dues due (Str text) = (due, text) ∷ []
value_dues due (Arr texts) = dues Element texts
value_dues due (Obj pairs) = map (λ (p : Pair). (OneText, p.value)) pairs

abbrev pub params_dues : Due → List Param → List DueText
params_dues due params = flat_map (λ (p : Param). value_dues due p.value) params

-- a list is due of a matrix's own parameters, so that a text there stands as an element does
abbrev pub matrix_dues : Option Matrix → List DueText
matrix_dues None = []
matrix_dues (Some matrix) = params_dues Element matrix.params ++ flat_map (params_dues AnyValue) matrix.include

abbrev pub guard_dues : When → List DueText
guard_dues guard = (OneText, guard.input) ∷ dues Element guard.values

abbrev pub task_dues : PipelineTask → List DueText
task_dues task = params_dues AnyValue task.params ++ matrix_dues task.matrix ++ flat_map guard_dues task.when

-- of a step the elements of its lists, its other texts, and all
abbrev pub element_dues : Step → List DueText
element_dues step = dues Element step.command ++ dues Element step.args

abbrev pub single_dues : Step → List DueText
single_dues step = dues OneText (option_to_list step.script) ++ map (λ (p : Pair). (OneText, p.value)) step.env ++ dues OneText (option_to_list step.dir)

abbrev pub step_dues : Step → List DueText
step_dues step = element_dues step ++ single_dues step

-- What may stand there.

-- a value of this type, taken by a reference, is what is due
abbrev pub is_due : Due → ParamType → Bool
is_due due string = true
is_due Element array = true
is_due AnyValue kind = true
is_due due kind = false

-- each value that is due here is due where that is
abbrev pub is_as_strict : Due → Due → Bool
is_as_strict OneText other = true
is_as_strict Element OneText = false
is_as_strict Element other = true
is_as_strict AnyValue AnyValue = true
is_as_strict AnyValue other = false
