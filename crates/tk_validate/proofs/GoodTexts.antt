-- A rule that passes only texts that have a reading passes only what has a reading in each of its texts.
use Rattle.std.proofs.Common.{◌≡◌, ℕ, Bool, true, false, List, [], ◌∷◌, None}
use Rattle.std.specs.Prelude.{All, codes}
use Rattle.std.specs.Option.{ForSome}
use Rattle.std.proofs.lemmas.List.Elements.{All-nil, All-cons, All-map}
use Rattle.tk_types.specs.declared.value.Pair.{Pair}
use Rattle.tk_types.specs.declared.value.Param.{Param}
use Rattle.tk_types.specs.declared.value.Value.{Value}
use Rattle.tk_types.specs.declared.value.Value.TheVariants.{Str, Arr, Obj}
use Rattle.tk_types.specs.declared.task.Matrix.{Matrix}
use Rattle.tk_types.specs.declared.task.PipelineTask.{PipelineTask}
use Rattle.tk_types.specs.declared.task.Step.{Step}
use Rattle.tk_types.specs.declared.task.TaskSpec.{TaskSpec}
use Rattle.tk_types.specs.declared.task.When.{When}
use Rattle.tk_types.specs.Place.{Place, ◌▸◌}
use Rattle.tk_types.specs.First.{first_in, first_if_there}
use Rattle.tk_vars.specs.Reading.{HasReading}
use Rattle.tk_bind.specs.Readings.{ReadsValue, ReadsParam, ReadsParams, ReadsMatrix, ReadsStep, ReadsGuard, ReadsTaskSpec}
use Rattle.tk_validate.specs.Sited.{TextRule, in_pair, in_value, in_param, in_params, in_matrix, in_guard, in_variable, in_step, in_steps, in_own_matrix, in_guards, in_results}
use Rattle.tk_validate.proofs.FirstNone.{all_none, each_none, mapped_none, there_none}

-- the rule passes only texts that have a reading
abbrev pub IsGood : TextRule → Type 0
IsGood rule = (whole : Bool) (at : Place) (text : List ℕ) → rule whole at text ≡ None → HasReading text

module _ (rule : TextRule) (good : IsGood rule) where
  pub reads_value : (at : Place) (value : Value) → in_value rule at value ≡ None → ReadsValue value
  reads_value at (Str text) e = All-cons HasReading text [] (good true at text e) (All-nil HasReading)
  reads_value at (Arr texts) e = each_none (rule true) HasReading (good true) at texts e
  reads_value at (Obj pairs) e =
      All-map HasReading (λ (p : Pair). p.value) pairs (mapped_none (in_pair rule at) (λ (p : Pair). HasReading p.value) (λ p. good true (at ▸ p.key) p.value) pairs e)

  reads_param : (at : Place) (param : Param) → in_param rule at param ≡ None → ReadsParam param
  reads_param at param e = reads_value (at ▸ codes "value") param.value e

  pub reads_params : (at : Place) (params : List Param) → in_params rule at params ≡ None → ReadsParams params
  reads_params at params e = each_none (in_param rule) ReadsParam reads_param (at ▸ codes "params") params e

  reads_matrix : (at : Place) (matrix : Matrix) → in_matrix rule at matrix ≡ None → ReadsMatrix matrix
  reads_matrix at matrix e =
      let found = all_none (in_params rule at matrix.params ∷ first_in (in_params rule) (at ▸ codes "include") matrix.include ∷ []) e in
      record {
        lists = reads_params at matrix.params found.0;
        entries = each_none (in_params rule) ReadsParams reads_params (at ▸ codes "include") matrix.include found.1.0;
      }

  reads_guard : (at : Place) (guard : When) → in_guard rule at guard ≡ None → ReadsGuard guard
  reads_guard at guard e =
      let found = all_none (rule false (at ▸ codes "input") guard.input ∷ first_in (rule true) (at ▸ codes "values") guard.values ∷ []) e in
      record {
        input = good false (at ▸ codes "input") guard.input found.0;
        values = each_none (rule true) HasReading (good true) (at ▸ codes "values") guard.values found.1.0;
      }

  reads_step : (at : Place) (step : Step) → in_step rule at step ≡ None → ReadsStep step
  reads_step at step e =
      let found =
      all_none
      (first_in (rule true) (at ▸ codes "command") step.command
      ∷ first_in (rule true) (at ▸ codes "args") step.args
      ∷ first_if_there (rule false (at ▸ codes "script")) step.script
      ∷ first_in (in_variable rule) (at ▸ codes "env") step.env
      ∷ first_if_there (rule false (at ▸ codes "workingDir")) step.dir
      ∷ [])
      e in
      record {
        command = each_none (rule true) HasReading (good true) (at ▸ codes "command") step.command found.0;
        args = each_none (rule true) HasReading (good true) (at ▸ codes "args") step.args found.1.0;
        script = there_none (rule false (at ▸ codes "script")) HasReading (good false (at ▸ codes "script")) step.script found.1.1.0;
        env =
            each_none (in_variable rule) (λ (p : Pair). HasReading p.value) (λ at p. good false (at ▸ codes "value") p.value) (at ▸ codes "env") step.env found.1.1.1.0;
        dir = there_none (rule false (at ▸ codes "workingDir")) HasReading (good false (at ▸ codes "workingDir")) step.dir found.1.1.1.1.0;
      }

  pub reads_steps : (at : Place) (spec : TaskSpec) → in_steps rule at spec ≡ None → ReadsTaskSpec spec
  reads_steps at spec e = each_none (in_step rule) ReadsStep reads_step (at ▸ codes "steps") spec.steps e

  pub reads_own_matrix : (at : Place) (task : PipelineTask) → in_own_matrix rule at task ≡ None → ForSome task.matrix ReadsMatrix
  reads_own_matrix at task e = there_none (in_matrix rule (at ▸ codes "matrix")) ReadsMatrix (reads_matrix (at ▸ codes "matrix")) task.matrix e

  pub reads_guards : (at : Place) (task : PipelineTask) → in_guards rule at task ≡ None → All ReadsGuard task.when
  reads_guards at task e = each_none (in_guard rule) ReadsGuard reads_guard (at ▸ codes "when") task.when e

  pub reads_results : (at : Place) (results : List Param) → in_results rule at results ≡ None → ReadsParams results
  reads_results at results e = each_none (in_param rule) ReadsParam reads_param (at ▸ codes "results") results e
