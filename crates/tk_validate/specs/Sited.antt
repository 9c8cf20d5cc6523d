-- The texts in which references are substituted, in reading order (Tekton, Pipelines, Variable Substitutions Supported by Tasks and
-- Pipelines): a rule on texts as a rule on what holds them.
use Rattle.std.specs.Prelude.{ℕ, Bool, true, false, List, [], ◌∷◌, map, codes}
use Rattle.tk_types.specs.declared.value.Pair.{Pair}
use Rattle.tk_types.specs.declared.value.Param.{Param}
use Rattle.tk_types.specs.declared.value.Value.{Value}
use Rattle.tk_types.specs.declared.value.Value.TheVariants.{Str, Arr, Obj}
use Rattle.tk_types.specs.declared.task.Matrix.{Matrix}
use Rattle.tk_types.specs.declared.task.PipelineTask.{PipelineTask}
use Rattle.tk_types.specs.declared.task.Step.{Step}
use Rattle.tk_types.specs.declared.task.TaskSpec.{TaskSpec}
use Rattle.tk_types.specs.declared.task.When.{When}
use Rattle.tk_types.specs.Place.{◌▸◌}
use Rattle.tk_types.specs.First.{first_of, first_in, first_if_there}
use Rattle.tk_validate.specs.Parts.{RuleOn}

-- a rule on a text; it is told whether the text may be a `[*]` as a whole
abbrev pub TextRule : Type 0
TextRule = Bool → RuleOn (List ℕ)

-- the texts of a value: itself, its elements, or those at its keys
abbrev pub in_pair : TextRule → RuleOn Pair
in_pair rule at pair = rule true (at ▸ pair.key) pair.value

abbrev pub in_value : TextRule → RuleOn Value
in_value rule at (Str text) = rule true at text
in_value rule at (Arr texts) = first_in (rule true) at texts
in_value rule at (Obj pairs) = first_of (map (in_pair rule at) pairs)

abbrev pub in_param : TextRule → RuleOn Param
in_param rule at param = in_value rule (at ▸ codes "value") param.value

abbrev pub in_params : TextRule → RuleOn (List Param)
in_params rule at params = first_in (in_param rule) (at ▸ codes "params") params

abbrev pub in_matrix : TextRule → RuleOn Matrix
in_matrix rule at matrix = first_of (in_params rule at matrix.params ∷ first_in (in_params rule) (at ▸ codes "include") matrix.include ∷ [])

-- of a pipeline task: those of its parameters, of its matrix and of its guards
abbrev pub in_own_params : TextRule → RuleOn PipelineTask
in_own_params rule at task = in_params rule at task.params

abbrev pub in_own_matrix : TextRule → RuleOn PipelineTask
in_own_matrix rule at task = first_if_there (in_matrix rule (at ▸ codes "matrix")) task.matrix

abbrev pub in_guard : TextRule → RuleOn When
in_guard rule at guard = first_of (rule false (at ▸ codes "input") guard.input ∷ first_in (rule true) (at ▸ codes "values") guard.values ∷ [])

abbrev pub in_guards : TextRule → RuleOn PipelineTask
in_guards rule at task = first_in (in_guard rule) (at ▸ codes "when") task.when

-- of a pipeline's results
abbrev pub in_results : TextRule → RuleOn (List Param)
in_results rule at results = first_in (in_param rule) (at ▸ codes "results") results

-- of a Task's steps
abbrev pub in_variable : TextRule → RuleOn Pair
in_variable rule at variable = rule false (at ▸ codes "value") variable.value

abbrev pub in_step : TextRule → RuleOn Step
in_step rule at step =
    first_of
    (first_in (rule true) (at ▸ codes "command") step.command
    ∷ first_in (rule true) (at ▸ codes "args") step.args
    ∷ first_if_there (rule false (at ▸ codes "script")) step.script
    ∷ first_in (in_variable rule) (at ▸ codes "env") step.env
    ∷ first_if_there (rule false (at ▸ codes "workingDir")) step.dir
    ∷ [])

abbrev pub in_steps : TextRule → RuleOn TaskSpec
in_steps rule at spec = first_in (in_step rule) (at ▸ codes "steps") spec.steps
