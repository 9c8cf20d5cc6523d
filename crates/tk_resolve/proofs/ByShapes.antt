-- What texts lack, and what fits a body, hangs on shapes.
use Rattle.std.proofs.Common.{◌≡◌, ℕ, if◌then◌else◌, Bool, true, false, not, ◌&&◌, List, [], ◌∷◌, ◌++◌, Option, Some, None, Result, Ok, Err, refl, sym, ap, ap₂, ◌∙◌}
use Rattle.std.specs.Prelude.{filter, flat_map, option_map}
use Rattle.std.specs.List.{list_all, range_with_len}
use Rattle.std.specs.Option.{option_map_or}
use Rattle.std.proofs.lemmas.List.{append-nil, map-append}
use Rattle.tk_types.specs.Behaviour.{type_of}
use Rattle.tk_types.specs.Names.{is_in}
use Rattle.tk_types.specs.declared.value.Param.{Param}
use Rattle.tk_types.specs.declared.value.ParamSpec.{ParamSpec}
use Rattle.tk_types.specs.declared.value.ParamType.{ParamType}
use Rattle.tk_types.specs.declared.value.Value.{Value}
use Rattle.tk_types.specs.declared.task.Matrix.{Matrix}
use Rattle.tk_types.specs.declared.task.PipelineTask.{PipelineTask}
use Rattle.tk_types.specs.declared.task.TaskBody.{TaskBody}
use Rattle.tk_vars.specs.declared.reference.Reference.{Reference}
use Rattle.tk_vars.specs.Target.{Target, param, result, word, target_of}
use Rattle.tk_bind.specs.declared.env.Env.{Env}
use Rattle.tk_bind.specs.declared.refusal.BindError.{BindError}
use Rattle.tk_bind.specs.Bind.{bound_params}
use Rattle.tk_bind.specs.Fits.{step_env}
use Rattle.tk_bind.specs.Params.{params_in, matrix_in}
use Rattle.tk_bind.specs.Substitute.{on_ok, reference_value}
use Rattle.tk_matrix.specs.Combinations.{combination}
use Rattle.tk_matrix.specs.Task.{task_combination}
use Rattle.tk_early.specs.Settled.{is_settled}
use Rattle.tk_shape.specs.Bound.{bound_shapes}
use Rattle.tk_shape.specs.Fits.{step_shapes}
use Rattle.tk_shape.specs.Shape.{kind_of}
use Rattle.tk_shape.specs.ShapeEnv.{NamedShape, ShapeEnv, param_shape, reference_shape, shape_env, shapes_of, target_shape, without_results}
use Rattle.tk_shape.specs.Substituted.{param_shapes}
use Rattle.tk_shape.proofs.Binds as binds
use Rattle.tk_shape.proofs.Fitting.{env_same}
use Rattle.tk_shape.proofs.References.{type_same}
use Rattle.tk_shape.proofs.Texts as texts
use Rattle.tk_resolve.specs.declared.due.Due.{Due}
use Rattle.tk_resolve.specs.Asks.{AsksTheSame, HoldsStricter, ReadsDue}
use Rattle.tk_resolve.specs.Due.{DueText, is_as_strict, is_due, step_dues}
use Rattle.tk_resolve.specs.Misuse as values
use Rattle.tk_resolve.specs.Misuse.{any_use, is_judged}
use Rattle.tk_resolve.specs.Settled.{all_fit, early_params, fits_beside, judged_combinations, judged_count, late_names}
use Rattle.tk_resolve.specs.Shapes.{any_lacks, fit_beside, lacks, shapes_at}
use Rattle.tk_resolve.proofs.Asked.{undue}
use Rattle.tk_resolve.proofs.Judged.{all_judged}

by_type : (due : Due) (found : Option Value) → option_map_or (λ value. is_due due (type_of value)) found false ≡ option_map_or (is_due due) (option_map type_of found) false
by_type due None = refl
by_type due (Some value) = refl

lacks_same : (env : Env) (spared : List (List ℕ)) (due : Due) (r : Reference) → values.lacks env spared due r ≡ lacks (shape_env env) spared due r
lacks_same env spared due r =
    ap (λ b. is_judged spared (target_of r.parts) && not b) (by_type due (reference_value env r) ∙ ap (λ kind. option_map_or (is_due due) kind false) (type_same env r))

-- texts lack by the values what they lack by the shapes
pub any_lacks_same : (env : Env) (spared : List (List ℕ)) (texts : List DueText) → values.any_lacks env spared texts ≡ any_lacks (shape_env env) spared texts
any_lacks_same env spared texts = λ i. any_use (λ due r. lacks_same env spared due r i) texts

-- what texts lack of parameters depends on parameters alone
same_target : (params : List NamedShape) (words others : List (List ℕ)) (spared : List (List ℕ)) (due : Due) (target : Target)
    → (is_judged spared target && not (option_map_or (is_due due) (option_map kind_of (target_shape (without_results params words) target)) false))
    ≡ (is_judged spared target && not (option_map_or (is_due due) (option_map kind_of (target_shape (without_results params others) target)) false))
same_target params words others spared due (param name selector) = refl
same_target params words others spared due (result task name selector) = refl
same_target params words others spared due (word key) = refl

same_alone : (params : List NamedShape) (words others : List (List ℕ)) (spared : List (List ℕ)) (due : Due) (r : Reference)
    → lacks (without_results params words) spared due r ≡ lacks (without_results params others) spared due r
same_alone params words others spared due r = same_target params words others spared due (target_of r.parts)

pub lacks_alone : (params : List NamedShape) (words others : List (List ℕ)) (spared : List (List ℕ)) (texts : List DueText)
    → any_lacks (without_results params words) spared texts ≡ any_lacks (without_results params others) spared texts
lacks_alone params words others spared texts = λ i. any_use (λ due r. same_alone params words others spared due r i) texts

-- what isn't due where something is due isn't where something as strict is
undue_kind : (due other : Due) (found : Option ParamType) (judged : Bool) → is_as_strict due other ≡ true
    → (judged && not (option_map_or (is_due other) found false)) ≡ true → (judged && not (option_map_or (is_due due) found false)) ≡ true
undue_kind due other None judged strict lacking = lacking
undue_kind due other (Some kind) judged strict lacking = undue due other kind judged strict lacking

lacks_stricter : (env : ShapeEnv) (spared : List (List ℕ)) → HoldsStricter (lacks env spared)
lacks_stricter env spared due other r strict lacking = undue_kind due other (option_map kind_of (reference_shape env r)) (is_judged spared (target_of r.parts)) strict lacking

pub same_lacks : (all fewer : List DueText) → AsksTheSame all fewer → ReadsDue all → (env : ShapeEnv) (spared : List (List ℕ)) → any_lacks env spared fewer ≡ any_lacks env spared all
same_lacks all fewer same reads env spared = same.same reads (lacks env spared) (lacks_stricter env spared)

-- the answer for bound parameters, and for bound shapes
abbrev fits_with : List (List ℕ) → TaskBody → List Param → Result (List Param) BindError → Bool
fits_with late body given (Ok bound) = not (values.any_lacks (step_env body (bound ++ given)) late (flat_map step_dues body.spec.steps))
fits_with late body given (Err error) = false

abbrev pub fit_with : List (List ℕ) → TaskBody → List NamedShape → Result (List NamedShape) BindError → Bool
fit_with late body given (Ok bound) = not (any_lacks (step_shapes body (bound ++ given)) late (flat_map step_dues body.spec.steps))
fit_with late body given (Err error) = false

fits_by : (late : List (List ℕ)) (body : TaskBody) (given : List Param) (bound : Result (List Param) BindError) → fits_with late body given bound ≡ fit_with late body (shapes_of given) (on_ok shapes_of bound)
fits_by late body given (Err error) = refl
fits_by late body given (Ok params) =
    ap not
    (any_lacks_same (step_env body (params ++ given)) late (flat_map step_dues body.spec.steps)
    ∙ ap (λ env. any_lacks env late (flat_map step_dues body.spec.steps)) (env_same body params given))

fits_as : (late : List (List ℕ)) (body : TaskBody) (given : List Param) (bound : Result (List Param) BindError)
    → elim bound as (λ _. Bool) [ Ok params ↦ not (values.any_lacks (step_env body (params ++ given)) late (flat_map step_dues body.spec.steps)) | Err error ↦ false ] ≡ fits_with late body given bound
fits_as late body given (Ok bound) = refl
fits_as late body given (Err error) = refl

pub fit_as : (late : List (List ℕ)) (body : TaskBody) (given : List NamedShape) (bound : Result (List NamedShape) BindError)
    → elim bound as (λ _. Bool) [ Ok params ↦ not (any_lacks (step_shapes body (params ++ given)) late (flat_map step_dues body.spec.steps)) | Err error ↦ false ] ≡ fit_with late body given bound
fit_as late body given (Ok bound) = refl
fit_as late body given (Err error) = refl

-- given parameters and late ones fit a body exactly where the shapes do
fits_same : (late : List (List ℕ)) (body : TaskBody) (given : List Param) → fits_beside late body given ≡ fit_beside late body (shapes_of given)
fits_same late body given =
    let wanted = filter (λ (w : ParamSpec). not (is_in late w.name)) body.spec.params in
    fits_as late body given (bound_params wanted given body.outer body.fallback)
    ∙ (fits_by late body given (bound_params wanted given body.outer body.fallback)
    ∙ (ap (fit_with late body (shapes_of given)) (binds.params_same wanted given body.outer body.fallback)
    ∙ sym (fit_as late body (shapes_of given) (bound_shapes wanted (shapes_of given) (shapes_of body.outer) (shapes_of body.fallback)))))

combination_same : (early : List Param) (matrix : Option Matrix) (i : ℕ) → shapes_of (task_combination early matrix i) ≡ shapes_at (shapes_of early) matrix i
combination_same early None i = sym (append-nil (shapes_of early))
combination_same early (Some matrix) i = map-append param_shape early (combination matrix i)

all_same : {X : Type 0} (p q : X → Bool) → ((x : X) → p x ≡ q x) → (xs : List X) → list_all p xs ≡ list_all q xs
all_same p q same [] = refl
all_same p q same (x ∷ xs) = ap₂ (λ a b. a && b) (same x) (all_same p q same xs)

judged_by : (late : List (List ℕ)) (body : TaskBody) (early : List Param) (matrix : Option Matrix)
    → list_all (fits_beside late body) (judged_combinations early matrix) ≡ list_all (λ i. fit_beside late body (shapes_at (shapes_of early) matrix i)) (range_with_len 0 (judged_count matrix))
judged_by late body early matrix =
    all_judged (fits_beside late body) early matrix (judged_count matrix) refl
    ∙ all_same (λ i. fits_beside late body (task_combination early matrix i)) (λ i. fit_beside late body (shapes_at (shapes_of early) matrix i))
    (λ i. fits_same late body (task_combination early matrix i) ∙ ap (fit_beside late body) (combination_same early matrix i)) (range_with_len 0 (judged_count matrix))

-- what is known of a task, and whether its combinations fit, by the shapes of its early parameters
known_all : (late : List (List ℕ)) (body : TaskBody) (found : Option (List Param)) (shapes : List NamedShape) (matrix : Option Matrix) → option_map shapes_of found ≡ Some shapes
    → list_all (fits_beside late body) (option_map_or (λ early. judged_combinations early matrix) found [])
    ≡ list_all (λ i. fit_beside late body (shapes_at shapes matrix i)) (range_with_len 0 (judged_count matrix))
known_all late body None shapes matrix is = no_shapes is
  where
    no_shapes : {A : Type 0} → (let none : Option (List NamedShape) = None in none) ≡ Some shapes → A
    no_shapes e = cc
known_all late body (Some early) shapes matrix is =
    let same : shapes_of early ≡ shapes = cc in
    judged_by late body early matrix ∙ ap (λ ss. list_all (λ i. fit_beside late body (shapes_at ss matrix i)) (range_with_len 0 (judged_count matrix))) same

pub all_fit_known : (env : Env) (task : PipelineTask) (body : TaskBody) (shapes : List NamedShape) (matrix : Option Matrix)
    → is_settled task ≡ true → param_shapes (shape_env env) (early_params task) ≡ Some shapes → matrix_in env task.matrix ≡ Some matrix
    → all_fit env task body ≡ list_all (λ i. fit_beside (late_names task) body (shapes_at shapes matrix i)) (range_with_len 0 (judged_count matrix))
all_fit_known env task body shapes matrix settled early is =
    ap
    (λ b.
    list_all (fits_beside (late_names task) body) (if b then option_map_or (λ early. option_map_or (judged_combinations early) (matrix_in env task.matrix) []) (params_in env (early_params task)) [] else []))
    settled
    ∙ (ap (λ m. list_all (fits_beside (late_names task) body) (option_map_or (λ early. option_map_or (judged_combinations early) m []) (params_in env (early_params task)) [])) is
    ∙ known_all (late_names task) body (params_in env (early_params task)) shapes matrix (texts.params_same env (early_params task) ∙ early))

-- where something has no value none is known
pub none_early : (env : Env) (task : PipelineTask) (body : TaskBody) → param_shapes (shape_env env) (early_params task) ≡ None → all_fit env task body ≡ true
none_early env task body none = ap (list_all (fits_beside (late_names task) body)) (none_settled (is_settled task) ∙ refl)
  where
    no_early : (found : Option (List Param)) → option_map shapes_of found ≡ None → option_map_or (λ early. option_map_or (judged_combinations early) (matrix_in env task.matrix) []) found [] ≡ []
    no_early None e = refl
    no_early (Some early) e = some_none e
      where
        some_none : {A : Type 0} → Some (shapes_of early) ≡ None → A
        some_none e = cc

    none_settled : (b : Bool) → (if b then option_map_or (λ early. option_map_or (judged_combinations early) (matrix_in env task.matrix) []) (params_in env (early_params task)) [] else []) ≡ []
    none_settled true = no_early (params_in env (early_params task)) (texts.params_same env (early_params task) ∙ none)
    none_settled false = refl

pub none_listed : (env : Env) (task : PipelineTask) (body : TaskBody) → matrix_in env task.matrix ≡ None → all_fit env task body ≡ true
none_listed env task body none = ap (list_all (fits_beside (late_names task) body)) (none_settled (is_settled task))
  where
    no_matrix : (found : Option (List Param)) (m : Option (Option Matrix)) → m ≡ None → option_map_or (λ early. option_map_or (judged_combinations early) m []) found [] ≡ []
    no_matrix None m e = refl
    no_matrix (Some early) m e = ap (λ o. option_map_or (judged_combinations early) o []) e

    none_settled : (b : Bool) → (if b then option_map_or (λ early. option_map_or (judged_combinations early) (matrix_in env task.matrix) []) (params_in env (early_params task)) [] else []) ≡ []
    none_settled true = no_matrix (params_in env (early_params task)) (matrix_in env task.matrix) none
    none_settled false = refl
