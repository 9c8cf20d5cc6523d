-- A rule that passes only texts that have a property passes only tasks whose texts have it.
use Rattle.std.proofs.Common.{◌≡◌, ℕ, Bool, true, false, List, [], ◌∷◌, Option, Some, None}
use Rattle.std.specs.Prelude.{All, codes, flat_map}
use Rattle.std.proofs.lemmas.List.Elements.{All-nil, All-cons, All-head, All-tail, All-append, All-map}
use Rattle.tk_types.specs.declared.value.Pair.{Pair}
use Rattle.tk_types.specs.declared.value.Param.{Param}
use Rattle.tk_types.specs.declared.value.Value.{Value}
use Rattle.tk_types.specs.declared.value.Value.TheVariants.{Str, Arr, Obj}
use Rattle.tk_types.specs.declared.task.Matrix.{Matrix}
use Rattle.tk_types.specs.declared.task.PipelineTask.{PipelineTask}
use Rattle.tk_types.specs.declared.task.When.{When}
use Rattle.tk_types.specs.First.{first_if_there, first_in}
use Rattle.tk_types.specs.Place.{Place, ◌▸◌}
use Rattle.tk_types.specs.Value.{value_texts}
use Rattle.tk_graph.specs.Results.{guards_texts, matrix_texts, params_texts, when_texts}
use Rattle.tk_validate.specs.Sited.{TextRule, in_pair, in_value, in_param, in_params, in_matrix, in_guard, in_own_params, in_own_matrix, in_guards}
use Rattle.tk_validate.proofs.FirstNone.{all_none, each_none, mapped_none}

-- the rule passes only texts that have the property
abbrev pub PassesOnly : TextRule → (List ℕ → Type 0) → Type 0
PassesOnly rule P = (whole : Bool) (at : Place) (text : List ℕ) → rule whole at text ≡ None → P text

-- what holds of each element of what a function gives of each
pub all_of : {X Y : Type 0} (P : Y → Type 0) (f : X → List Y) (xs : List X) → All (λ x. All P (f x)) xs → All P (flat_map f xs)
all_of P f [] each = All-nil P
all_of P f (x ∷ xs) each =
    All-append P (f x) (flat_map f xs) (All-head (λ y. All P (f y)) x xs each) (all_of P f xs (All-tail (λ y. All P (f y)) x xs each))

module _ (rule : TextRule) (P : List ℕ → Type 0) (only : PassesOnly rule P) where
  of_value : (at : Place) (value : Value) → in_value rule at value ≡ None → All P (value_texts value)
  of_value at (Str text) e = All-cons P text [] (only true at text e) (All-nil P)
  of_value at (Arr texts) e = each_none (rule true) P (only true) at texts e
  of_value at (Obj pairs) e =
      All-map P (λ (p : Pair). p.value) pairs (mapped_none (in_pair rule at) (λ (p : Pair). P p.value) (λ p. only true (at ▸ p.key) p.value) pairs e)

  of_param : (at : Place) (param : Param) → in_param rule at param ≡ None → All P (value_texts param.value)
  of_param at param e = of_value (at ▸ codes "value") param.value e

  of_params : (at : Place) (params : List Param) → in_params rule at params ≡ None → All P (params_texts params)
  of_params at params e =
      all_of P (λ (p : Param). value_texts p.value) params (each_none (in_param rule) (λ (p : Param). All P (value_texts p.value)) of_param (at ▸ codes "params") params e)

  of_matrix : (at : Place) (matrix : Option Matrix) → first_if_there (in_matrix rule at) matrix ≡ None → All P (matrix_texts matrix)
  of_matrix at None e = All-nil P
  of_matrix at (Some matrix) e =
      let found = all_none (in_params rule at matrix.params ∷ first_in (in_params rule) (at ▸ codes "include") matrix.include ∷ []) e in
      All-append P (params_texts matrix.params) (flat_map params_texts matrix.include)
      (of_params at matrix.params found.0)
      (all_of P params_texts matrix.include (each_none (in_params rule) (λ params. All P (params_texts params)) of_params (at ▸ codes "include") matrix.include found.1.0))

  of_guard : (at : Place) (guard : When) → in_guard rule at guard ≡ None → All P (when_texts guard)
  of_guard at guard e =
      let found = all_none (rule false (at ▸ codes "input") guard.input ∷ first_in (rule true) (at ▸ codes "values") guard.values ∷ []) e in
      All-cons P guard.input guard.values
      (only false (at ▸ codes "input") guard.input found.0)
      (each_none (rule true) P (only true) (at ▸ codes "values") guard.values found.1.0)

  pub of_own_params : (at : Place) (task : PipelineTask) → in_own_params rule at task ≡ None → All P (params_texts task.params)
  of_own_params at task e = of_params at task.params e

  pub of_own_matrix : (at : Place) (task : PipelineTask) → in_own_matrix rule at task ≡ None → All P (matrix_texts task.matrix)
  of_own_matrix at task e = of_matrix (at ▸ codes "matrix") task.matrix e

  pub of_guards : (at : Place) (task : PipelineTask) → in_guards rule at task ≡ None → All P (guards_texts task.when)
  of_guards at task e = all_of P when_texts task.when (each_none (in_guard rule) (λ guard. All P (when_texts guard)) of_guard (at ▸ codes "when") task.when e)
