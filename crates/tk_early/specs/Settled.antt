-- What of a task's matrix is known before any child ended.
use Rattle.std.specs.Prelude.{ℕ, Bool, true, false, not, ◌||◌, List}
use Rattle.std.specs.List.{list_any}
use Rattle.std.specs.Option.{option_map_or}
use Rattle.tk_types.specs.declared.value.Pair.{Pair}
use Rattle.tk_types.specs.declared.value.Param.{Param}
use Rattle.tk_types.specs.declared.value.Value.{Value}
use Rattle.tk_types.specs.declared.value.Value.TheVariants.{Str, Arr, Obj}
use Rattle.tk_types.specs.declared.task.Matrix.{Matrix}
use Rattle.tk_types.specs.declared.task.PipelineTask.{PipelineTask}
use Rattle.tk_vars.specs.declared.reference.Reference.{Reference}
use Rattle.tk_vars.specs.Target.{Target, result, target_of, references_of}

-- the reference is to a result
abbrev pub is_result : Target → Bool
is_result (result task name selector) = true
is_result target = false

abbrev pub is_to_result : Reference → Bool
is_to_result r = is_result (target_of r.parts)

-- some reference of the text is to a result; of a value, of parameters, of a matrix some text's
abbrev pub text_awaits : List ℕ → Bool
text_awaits text = list_any is_to_result (references_of text)

abbrev pub value_awaits : Value → Bool
value_awaits (Str text) = text_awaits text
value_awaits (Arr texts) = list_any text_awaits texts
value_awaits (Obj pairs) = list_any (λ (p : Pair). text_awaits p.value) pairs

abbrev pub params_await : List Param → Bool
params_await params = list_any (λ (p : Param). value_awaits p.value) params

abbrev pub matrix_awaits : Matrix → Bool
matrix_awaits matrix = params_await matrix.params || list_any params_await matrix.include

-- no value of the task's matrix refers to a result
abbrev pub is_settled : PipelineTask → Bool
is_settled task = not (option_map_or matrix_awaits task.matrix false)
