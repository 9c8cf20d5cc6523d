-- A run that is given values of the same shapes and the same workspaces as one of its Pipeline that can start, can start too.
use Rattle.std.proofs.Common.{◌≡◌, ◌⊎◌, ℕ, Bool, true, false, not, ◌||◌, cond, List, [], ◌∷◌, ◌++◌, map, All, Option, Some, None, Result, Ok, Err, inl, inr, ⊎_elim, refl, sym, ap, ap₂, ◌∙◌, subst}
use Rattle.std.specs.Prelude.{IsTrue, bytes_eq, filter, find, flat_map, option_and_then, option_map}
use Rattle.std.specs.List.{AllZip, list_all, list_any, range_with_len, zip}
use Rattle.std.specs.Option.{option_map_or}
use Rattle.std.proofs.lemmas.List.Elements.{All-head, All-tail}
use Rattle.tk_types.specs.Lists.{all_some, first_row}
use Rattle.tk_types.specs.Names.{is_in}
use Rattle.tk_types.specs.declared.value.Pair.{Pair}
use Rattle.tk_types.specs.declared.value.Param.{Param}
use Rattle.tk_types.specs.declared.value.ParamSpec.{ParamSpec}
use Rattle.tk_types.specs.declared.value.ParamType.{ParamType}
use Rattle.tk_types.specs.declared.value.ResultSpec.{ResultSpec}
use Rattle.tk_types.specs.declared.task.Matrix.{Matrix}
use Rattle.tk_types.specs.declared.task.PipelineTask.{PipelineTask}
use Rattle.tk_types.specs.declared.task.Space.{Space}
use Rattle.tk_types.specs.declared.task.TaskBody.{TaskBody}
use Rattle.tk_types.specs.declared.task.TaskSource.{TaskSource}
use Rattle.tk_types.specs.declared.task.TaskSource.TheVariants.{Named, Inlined}
use Rattle.tk_types.specs.declared.task.TaskSpec.{TaskSpec}
use Rattle.tk_types.specs.declared.run.RunSpec.{RunSpec}
use Rattle.tk_types.specs.declared.object.Item.{Item}
use Rattle.tk_types.specs.declared.object.PipelineSource.TheVariants.{Named as NamedPipeline}
use Rattle.tk_types.specs.declared.object.PipelineSpec.{PipelineSpec}
use Rattle.tk_types.specs.declared.object.RunObject.{RunObject}
use Rattle.tk_vars.specs.declared.part.Part.{Part}
use Rattle.tk_vars.specs.Target.{Target, param, result, word, target_of}
use Rattle.tk_bind.specs.declared.env.Env.{Env}
use Rattle.tk_bind.specs.Fits.{context_words, result_words, space_words}
use Rattle.tk_bind.specs.Params.{matrix_in}
use Rattle.tk_early.specs.Settled.{is_settled}
use Rattle.tk_shape.specs.Bound.{bound_shapes}
use Rattle.tk_shape.specs.ShapeEnv.{NamedShape, ShapeEnv, shape_env, shapes_of, without_results}
use Rattle.tk_shape.specs.Shape.{keys_of}
use Rattle.tk_shape.specs.Substituted.{param_shapes}
use Rattle.tk_resolve.specs.declared.due.Due.{Due}
use Rattle.tk_resolve.specs.declared.due.Due.TheVariants.{AnyValue}
use Rattle.tk_resolve.specs.declared.known_run.KnownRun.{KnownRun}
use Rattle.tk_resolve.specs.declared.reason.Reason.TheVariants.{CouldntGetPipeline, CouldntGetTask, ParameterMissing, ParameterTypeMismatch, InvalidTaskResultReference, InvalidWorkspaceBindings}
use Rattle.tk_resolve.specs.Due.{DueText, is_due, params_dues, step_dues, task_dues}
use Rattle.tk_resolve.specs.Known.{AreGivenAlike, IsKnownRun, IsSingle, RunsTask, is_named}
use Rattle.tk_resolve.specs.Lookup.{pipeline_named, task_named}
use Rattle.tk_resolve.specs.Misuse as values
use Rattle.tk_resolve.specs.Misuse.{any_misuse, any_use, is_misused, seen_type, taken, task_and_body, type_by}
use Rattle.tk_resolve.specs.Run.{all_tasks, bodies_of, body_of, env_with, first_reason, lacks_parameter, lacks_workspace, misuses_result, pipeline_of, resolved_run, results_lack, run_with_bodies, run_with_pipeline, startable, task_lacks, task_words, unstartable}
use Rattle.tk_resolve.specs.Settled.{all_fit, early_params, judged_count, late_names}
use Rattle.tk_resolve.specs.Shapes.{any_lacks, fit_beside, shapes_at}
use Rattle.tk_resolve.specs.Spaces.{handed_spaces, has_unbound}
use Rattle.tk_resolve.specs.Values.{all_values, defaults, outer_values}
use Rattle.tk_resolve.proofs.ByShapes.{all_fit_known, any_lacks_same, none_early}
use Rattle.tk_resolve.proofs.GivenShapes.{mismatch_alike, missing_alike, outer_alike, values_alike}
use Rattle.tk_resolve.proofs.Started.{without_reason}

-- bodies
pub record AreAlike (x y : TaskBody) : Type 0 where
  pub spec : x.spec ≡ y.spec
  pub outer : shapes_of x.outer ≡ shapes_of y.outer
  pub fallback : x.fallback ≡ y.fallback
  pub bound : x.bound ≡ y.bound

same_alike : (x y : TaskBody) → x ≡ y → AreAlike x y
same_alike x y is =
    record {
      spec = ap (λ (b : TaskBody). b.spec) is;
      outer = ap (λ (b : TaskBody). shapes_of b.outer) is;
      fallback = ap (λ (b : TaskBody). b.fallback) is;
      bound = ap (λ (b : TaskBody). b.bound) is;
    }

abbrev named_body : List Item → List Space → PipelineTask → List ℕ → Option TaskBody
named_body earlier bindings task name =
    option_map (λ spec. record { spec = spec; task_name = name; outer = []; fallback = []; bound = handed_spaces bindings task.spaces spec.spaces }) (task_named earlier name)

abbrev inlined_body : PipelineSpec → List Space → List Param → PipelineTask → TaskSpec → TaskBody
inlined_body pipeline bindings params task spec =
    record { spec = spec; task_name = task.name; outer = outer_values pipeline.params params; fallback = defaults pipeline.params; bound = handed_spaces bindings task.spaces spec.spaces }

inlined_alike : (a b : RunObject) (pipeline : PipelineSpec) (task : PipelineTask) (spec : TaskSpec) → AreGivenAlike a b
    → AreAlike (inlined_body pipeline a.bindings a.params task spec) (inlined_body pipeline b.bindings b.params task spec)
inlined_alike a b pipeline task spec same =
    record {
      spec = refl;
      outer = outer_alike pipeline.params a.params b.params same.0;
      fallback = refl;
      bound = ap (λ (bindings : List Space). handed_spaces bindings task.spaces spec.spaces) same.1;
    }

body_alike : (earlier : List Item) (a b : RunObject) (pipeline : PipelineSpec) (task : PipelineTask) (source : TaskSource) (x y : TaskBody) → AreGivenAlike a b
    → body_of earlier a pipeline task source ≡ Some x → body_of earlier b pipeline task source ≡ Some y → AreAlike x y
body_alike earlier a b pipeline task (Named name) x y same is_x is_y =
    let both : Some x ≡ Some y = sym is_x ∙ (ap (λ (bindings : List Space). named_body earlier bindings task name) same.1 ∙ is_y) in
    same_alike x y (let e : x ≡ y = cc in e)
body_alike earlier a b pipeline task (Inlined spec) x y same is_x is_y =
    let first : inlined_body pipeline a.bindings a.params task spec ≡ x = cc in
    let second : inlined_body pipeline b.bindings b.params task spec ≡ y = cc in
    subst (λ (body : TaskBody). AreAlike body y) first
    (subst (λ (body : TaskBody). AreAlike (inlined_body pipeline a.bindings a.params task spec) body) second (inlined_alike a b pipeline task spec same))

abbrev joined : Option TaskBody → Option (List TaskBody) → Option (List TaskBody)
joined None rest = None
joined (Some x) rest = elim rest [ None ↦ None | Some xs ↦ Some (x ∷ xs) ]

cons_alike : (o p : Option TaskBody) (os ps : Option (List TaskBody)) (xs ys : List TaskBody) → ((x y : TaskBody) → o ≡ Some x → p ≡ Some y → AreAlike x y)
    → ((us vs : List TaskBody) → os ≡ Some us → ps ≡ Some vs → AllZip AreAlike us vs) → joined o os ≡ Some xs → joined p ps ≡ Some ys → AllZip AreAlike xs ys
cons_alike None p os ps xs ys here more is_x is_y = absurd (let f : ⊥ = cc in f)
cons_alike (Some x) None os ps xs ys here more is_x is_y = absurd (let f : ⊥ = cc in f)
cons_alike (Some x) (Some y) None ps xs ys here more is_x is_y = absurd (let f : ⊥ = cc in f)
cons_alike (Some x) (Some y) (Some us) None xs ys here more is_x is_y = absurd (let f : ⊥ = cc in f)
cons_alike (Some x) (Some y) (Some us) (Some vs) xs ys here more is_x is_y =
    let first : x ∷ us ≡ xs = cc in
    let second : y ∷ vs ≡ ys = cc in
    subst (λ (l : List TaskBody). AllZip AreAlike l ys) first
    (subst (λ (l : List TaskBody). AllZip AreAlike (x ∷ us) l) second (here x y refl refl, more us vs refl refl))

all_joined : (o : Option TaskBody) (os : List (Option TaskBody)) → all_some (o ∷ os) ≡ joined o (all_some os)
all_joined None os = refl
all_joined (Some x) os = refl

all_alike : (f g : PipelineTask → Option TaskBody) (tasks : List PipelineTask) (xs ys : List TaskBody) → ((t : PipelineTask) (x y : TaskBody) → f t ≡ Some x → g t ≡ Some y → AreAlike x y)
    → all_some (map f tasks) ≡ Some xs → all_some (map g tasks) ≡ Some ys → AllZip AreAlike xs ys
all_alike f g [] xs ys each is_x is_y =
    let first : [] ≡ xs = cc in
    let second : [] ≡ ys = cc in
    subst (λ (l : List TaskBody). AllZip AreAlike l ys) first (subst (λ (l : List TaskBody). AllZip AreAlike [] l) second tt)
all_alike f g (t ∷ ts) xs ys each is_x is_y =
    cons_alike (f t) (g t) (all_some (map f ts)) (all_some (map g ts)) xs ys (each t) (λ us vs. all_alike f g ts us vs each)
    (sym (all_joined (f t) (map f ts)) ∙ is_x) (sym (all_joined (g t) (map g ts)) ∙ is_y)

pub bodies_alike : (earlier : List Item) (a b : RunObject) (pipeline : PipelineSpec) (xs ys : List TaskBody) → AreGivenAlike a b
    → bodies_of earlier a pipeline ≡ Some xs → bodies_of earlier b pipeline ≡ Some ys → AllZip AreAlike xs ys
bodies_alike earlier a b pipeline xs ys same =
    all_alike (λ (t : PipelineTask). body_of earlier a pipeline t t.source) (λ (t : PipelineTask). body_of earlier b pipeline t t.source) (all_tasks pipeline) xs ys
    (λ t x y. body_alike earlier a b pipeline t t.source x y same)

-- bodies that are the same, since no task sees the values or the values are the same
alone_body : (earlier : List Item) (a b : RunObject) (pipeline : PipelineSpec) (task : PipelineTask) (source : TaskSource) → AreGivenAlike a b → IsTrue (is_named source)
    → body_of earlier a pipeline task source ≡ body_of earlier b pipeline task source
alone_body earlier a b pipeline task (Named name) same named = ap (λ (bindings : List Space). named_body earlier bindings task name) same.1
alone_body earlier a b pipeline task (Inlined spec) same named = absurd (let f : ⊥ = cc in f)

alone_bodies : (earlier : List Item) (a b : RunObject) (pipeline : PipelineSpec) (tasks : List PipelineTask) → AreGivenAlike a b → All RunsTask tasks
    → map (λ (t : PipelineTask). body_of earlier a pipeline t t.source) tasks ≡ map (λ (t : PipelineTask). body_of earlier b pipeline t t.source) tasks
alone_bodies earlier a b pipeline [] same alone = refl
alone_bodies earlier a b pipeline (t ∷ ts) same alone =
    ap₂ (λ (o : Option TaskBody) (os : List (Option TaskBody)). o ∷ os) (alone_body earlier a b pipeline t t.source same (All-head RunsTask t ts alone))
    (alone_bodies earlier a b pipeline ts same (All-tail RunsTask t ts alone))

abbrev body_by : List Item → PipelineSpec → PipelineTask → TaskSource → List Param → List Space → Option TaskBody
body_by earlier pipeline task (Named name) params bindings = named_body earlier bindings task name
body_by earlier pipeline task (Inlined spec) params bindings = Some (inlined_body pipeline bindings params task spec)

body_found : (earlier : List Item) (run : RunObject) (pipeline : PipelineSpec) (task : PipelineTask) (source : TaskSource)
    → body_of earlier run pipeline task source ≡ body_by earlier pipeline task source run.params run.bindings
body_found earlier run pipeline task (Named name) = refl
body_found earlier run pipeline task (Inlined spec) = refl

given_body : (earlier : List Item) (a b : RunObject) (pipeline : PipelineSpec) (task : PipelineTask) (source : TaskSource) → a.params ≡ b.params → a.bindings ≡ b.bindings
    → body_of earlier a pipeline task source ≡ body_of earlier b pipeline task source
given_body earlier a b pipeline task source params bindings =
    body_found earlier a pipeline task source ∙ (ap₂ (body_by earlier pipeline task source) params bindings ∙ sym (body_found earlier b pipeline task source))

pub same_bodies : (earlier : List Item) (a b : RunObject) (pipeline : PipelineSpec) → AreGivenAlike a b → All RunsTask (all_tasks pipeline) ⊎ (a.params ≡ b.params) → bodies_of earlier a pipeline ≡ bodies_of earlier b pipeline
same_bodies earlier a b pipeline same (inl alone) = ap all_some (alone_bodies earlier a b pipeline (all_tasks pipeline) same alone)
same_bodies earlier a b pipeline same (inr params) = λ i. all_some (map (λ (t : PipelineTask). given_body earlier a b pipeline t t.source params same.1 i) (all_tasks pipeline))

-- a body by the shapes of what it sees
abbrev fit_seen : List (List ℕ) → TaskSpec → List NamedShape → List NamedShape → List NamedShape → Bool
fit_seen late spec outer fallback given =
    elim (bound_shapes (filter (λ (w : ParamSpec). not (is_in late w.name)) spec.params) given outer fallback) [
      | Ok bound ↦
          not
          (any_lacks (without_results ((bound ++ given) ++ outer ++ fallback) (keys_of (context_words ++ result_words spec.results ++ space_words spec.spaces))) late (flat_map step_dues spec.steps))
      | Err error ↦ false
    ]

fit_alike : (late : List (List ℕ)) (x y : TaskBody) (given : List NamedShape) → AreAlike x y → fit_beside late x given ≡ fit_beside late y given
fit_alike late x y given alike = λ i. fit_seen late (alike.spec i) (alike.outer i) (shapes_of (alike.fallback i)) given

-- a task without a matrix, by shapes
abbrev fit_by : PipelineTask → TaskBody → Option (List NamedShape) → Bool
fit_by task body None = true
fit_by task body (Some shapes) = list_all (λ i. fit_beside (late_names task) body (shapes_at shapes None i)) (range_with_len 0 (judged_count None))

fit_found : (env : Env) (task : PipelineTask) (body : TaskBody) → IsSingle task → (found : Option (List NamedShape)) → param_shapes (shape_env env) (early_params task) ≡ found
    → all_fit env task body ≡ fit_by task body found
fit_found env task body single None is = none_early env task body is
fit_found env task body single (Some shapes) is =
    let settled : is_settled task ≡ true = settled_single task.matrix single in
    let listed : matrix_in env task.matrix ≡ Some None = ap (matrix_in env) single in
    all_fit_known env task body shapes None settled is listed
  where
    settled_single : (matrix : Option Matrix) → matrix ≡ None → is_settled (record task { matrix = matrix }) ≡ true
    settled_single matrix none = ap (λ (m : Option Matrix). is_settled (record task { matrix = m })) none

by_alike : (task : PipelineTask) (x y : TaskBody) (found : Option (List NamedShape)) → AreAlike x y → fit_by task x found ≡ fit_by task y found
by_alike task x y None alike = refl
by_alike task x y (Some shapes) alike = λ i. list_all (λ k. fit_alike (late_names task) x y (shapes_at shapes None k) alike i) (range_with_len 0 (judged_count None))

alike_fit : (env other : Env) (task : PipelineTask) (x y : TaskBody) → IsSingle task → shape_env env ≡ shape_env other → AreAlike x y → all_fit env task x ≡ all_fit other task y
alike_fit env other task x y single same alike =
    fit_found env task x single (param_shapes (shape_env env) (early_params task)) refl
    ∙ (ap (λ (shapes : ShapeEnv). fit_by task x (param_shapes shapes (early_params task))) same
    ∙ (by_alike task x y (param_shapes (shape_env other) (early_params task)) alike
    ∙ sym (fit_found other task y single (param_shapes (shape_env other) (early_params task)) refl)))

-- what a task lacks
abbrev EnvsAlike : Env → Env → Type 0
EnvsAlike env other = shape_env env ≡ shape_env other

envs_alike : (a b : RunObject) (pipeline : PipelineSpec) (words : RunObject → List Pair) → AreGivenAlike a b → keys_of (words a) ≡ keys_of (words b)
    → EnvsAlike (env_with a pipeline (words a)) (env_with b pipeline (words b))
envs_alike a b pipeline words same keys = ap₂ without_results (values_alike pipeline.params a.params b.params same.0) keys

lacks_alike : (env other : Env) (texts : List DueText) → EnvsAlike env other → values.any_lacks env [] texts ≡ values.any_lacks other [] texts
lacks_alike env other texts same =
    any_lacks_same env [] texts ∙ (ap (λ (s : ShapeEnv). any_lacks s [] texts) same ∙ sym (any_lacks_same other [] texts))

alike_task : (a b : RunObject) (pipeline : PipelineSpec) (task : PipelineTask) (x y : TaskBody) → IsSingle task → AreGivenAlike a b → AreAlike x y
    → task_lacks a pipeline (task, x) ≡ task_lacks b pipeline (task, y)
alike_task a b pipeline task x y single same alike =
    let env = env_with a pipeline (task_words a task) in
    let other = env_with b pipeline (task_words b task) in
    let envs : EnvsAlike env other = envs_alike a b pipeline (λ run. task_words run task) same refl in
    ap₂ (λ (lack fit : Bool). lack || not fit) (lacks_alike env other (task_dues task) envs) (alike_fit env other task x y single envs alike)

alike_tasks : (a b : RunObject) (pipeline : PipelineSpec) (tasks : List PipelineTask) (xs ys : List TaskBody) → All IsSingle tasks → AreGivenAlike a b → AllZip AreAlike xs ys
    → list_any (task_lacks a pipeline) (zip tasks xs) ≡ list_any (task_lacks b pipeline) (zip tasks ys)
alike_tasks a b pipeline [] xs ys single same alike = refl
alike_tasks a b pipeline (task ∷ tasks) [] [] single same alike = refl
alike_tasks a b pipeline (task ∷ tasks) [] (y ∷ ys) single same alike = absurd alike
alike_tasks a b pipeline (task ∷ tasks) (x ∷ xs) [] single same alike = absurd alike
alike_tasks a b pipeline (task ∷ tasks) (x ∷ xs) (y ∷ ys) single same alike =
    ap₂ (λ (p q : Bool). p || q) (alike_task a b pipeline task x y (All-head IsSingle task tasks single) same alike.0)
    (alike_tasks a b pipeline tasks xs ys (All-tail IsSingle task tasks single) same alike.1)

alike_results : (a b : RunObject) (pipeline : PipelineSpec) → AreGivenAlike a b → results_lack a pipeline ≡ results_lack b pipeline
alike_results a b pipeline same =
    lacks_alike (env_with a pipeline []) (env_with b pipeline []) (params_dues AnyValue pipeline.results) (envs_alike a b pipeline (λ run. []) same refl)

-- results and workspaces, by the specs of bodies
abbrev typed : List ℕ → List Part → Option (PipelineTask × TaskBody) → Option ParamType
typed name selector found = option_and_then (type_by name selector) found

typed_alike : (name : List ℕ) (selector : List Part) (task : PipelineTask) (x y : TaskBody) → AreAlike x y → type_by name selector (task, x) ≡ type_by name selector (task, y)
typed_alike name selector task x y alike =
    ap (λ (spec : TaskSpec). option_and_then (λ kind. taken kind selector) (option_and_then (seen_type task) (option_map (λ (r : ResultSpec). r.kind) (find (λ (r : ResultSpec). bytes_eq r.name name) spec.results))))
    alike.spec

typed_cond : (name : List ℕ) (selector : List Part) (is : Bool) (task : PipelineTask) (x y : TaskBody) (rest others : Option (PipelineTask × TaskBody)) → AreAlike x y
    → typed name selector rest ≡ typed name selector others
    → typed name selector (cond is (Some (task, x)) rest) ≡ typed name selector (cond is (Some (task, y)) others)
typed_cond name selector true task x y rest others alike more = typed_alike name selector task x y alike
typed_cond name selector false task x y rest others alike more = more

found_alike : (name : List ℕ) (selector : List Part) (tasks : List PipelineTask) (xs ys : List TaskBody) (of : List ℕ) → AllZip AreAlike xs ys
    → typed name selector (task_and_body (zip tasks xs) of) ≡ typed name selector (task_and_body (zip tasks ys) of)
found_alike name selector [] xs ys of alike = refl
found_alike name selector (task ∷ tasks) [] [] of alike = refl
found_alike name selector (task ∷ tasks) [] (y ∷ ys) of alike = absurd alike
found_alike name selector (task ∷ tasks) (x ∷ xs) [] of alike = absurd alike
found_alike name selector (task ∷ tasks) (x ∷ xs) (y ∷ ys) of alike =
    typed_cond name selector (bytes_eq task.name of) task x y (task_and_body (zip tasks xs) of) (task_and_body (zip tasks ys) of) alike.0 (found_alike name selector tasks xs ys of alike.1)

misused_alike : (tasks : List PipelineTask) (xs ys : List TaskBody) (due : Due) (target : Target) → AllZip AreAlike xs ys → is_misused (zip tasks xs) due target ≡ is_misused (zip tasks ys) due target
misused_alike tasks xs ys due (result task name selector) alike =
    ap (λ (kind : Option ParamType). not (option_map_or (is_due due) kind false)) (found_alike name selector tasks xs ys task alike)
misused_alike tasks xs ys due (param name selector) alike = refl
misused_alike tasks xs ys due (word key) alike = refl

misuse_alike : (tasks : List PipelineTask) (xs ys : List TaskBody) (texts : List DueText) → AllZip AreAlike xs ys → any_misuse (zip tasks xs) texts ≡ any_misuse (zip tasks ys) texts
misuse_alike tasks xs ys texts alike = λ i. any_use (λ due r. misused_alike tasks xs ys due (target_of r.parts) alike i) texts

unbound_alike : (xs ys : List TaskBody) → AllZip AreAlike xs ys
    → list_any (λ (body : TaskBody). has_unbound body.bound body.spec.spaces) xs ≡ list_any (λ (body : TaskBody). has_unbound body.bound body.spec.spaces) ys
unbound_alike [] [] alike = refl
unbound_alike [] (y ∷ ys) alike = absurd alike
unbound_alike (x ∷ xs) [] alike = absurd alike
unbound_alike (x ∷ xs) (y ∷ ys) alike =
    ap₂ (λ (p q : Bool). p || q) (ap₂ (λ (bound : List Space) (spec : TaskSpec). has_unbound bound spec.spaces) alike.0.bound alike.0.spec) (unbound_alike xs ys alike.1)

-- the reason
pub alike_reason : (a b : RunObject) (pipeline : PipelineSpec) (xs ys : List TaskBody) → All IsSingle (all_tasks pipeline) → AreGivenAlike a b → AllZip AreAlike xs ys
    → first_reason a pipeline xs ≡ first_reason b pipeline ys
alike_reason a b pipeline xs ys single same alike =
    let missing = missing_alike pipeline.params a.params b.params same.0 in
    let mismatch = mismatch_alike pipeline.params a.params b.params same.0 in
    let lacks : lacks_parameter a pipeline xs ≡ lacks_parameter b pipeline ys
    = ap₂ (λ (p q : Bool). p || q) (ap₂ (λ (p q : Bool). p || q) missing (alike_tasks a b pipeline (all_tasks pipeline) xs ys single same alike)) (alike_results a b pipeline same) in
    let misuses : misuses_result pipeline xs ≡ misuses_result pipeline ys
    = misuse_alike (all_tasks pipeline) xs ys (flat_map task_dues (all_tasks pipeline) ++ params_dues AnyValue pipeline.results) alike in
    let space : lacks_workspace a pipeline xs ≡ lacks_workspace b pipeline ys
    = ap₂ (λ (p q : Bool). p || q) (ap (λ (bindings : List Space). has_unbound bindings pipeline.spaces) same.1) (unbound_alike xs ys alike) in
    λ i.
    first_row ((lacks i, ParameterMissing) ∷ (mismatch i, ParameterTypeMismatch) ∷ (misuses i, InvalidTaskResultReference) ∷ (space i, InvalidWorkspaceBindings) ∷ [])

-- the run
abbrev by_pipeline : List Item → RunObject → Option PipelineSpec → RunSpec
by_pipeline earlier run found = elim found [ None ↦ unstartable run run.params CouldntGetPipeline | Some pipeline ↦ run_with_pipeline earlier run pipeline ]

abbrev by_bodies : RunObject → PipelineSpec → Option (List TaskBody) → RunSpec
by_bodies run pipeline found = elim found [ None ↦ unstartable run (all_values pipeline.params run.params) CouldntGetTask | Some bodies ↦ run_with_bodies run pipeline bodies ]

pub again : (earlier : List Item) (name : List ℕ) (known : KnownRun) (run : RunObject) (bodies : List TaskBody) (pipeline : PipelineSpec) → IsKnownRun earlier name known → pipeline_named earlier name ≡ Some pipeline
    → run.source ≡ NamedPipeline name → AreGivenAlike known.run.now run → bodies_of earlier run pipeline ≡ Some bodies → startable run pipeline (all_values pipeline.params run.params) bodies ≡ resolved_run earlier run
again earlier name known run bodies pipeline is_known named source same found =
    let is : is_known.pipeline ≡ pipeline = let both : Some is_known.pipeline ≡ Some pipeline = sym is_known.named ∙ named in cc in
    let single : All IsSingle (all_tasks pipeline) = subst (λ (p : PipelineSpec). All IsSingle (all_tasks p)) is is_known.single in
    let before : bodies_of earlier known.run.now pipeline ≡ Some known.bodies = subst (λ (p : PipelineSpec). bodies_of earlier known.run.now p ≡ Some known.bodies) is is_known.found in
    let started : first_reason known.run.now pipeline known.bodies ≡ None = subst (λ (p : PipelineSpec). first_reason known.run.now p known.bodies ≡ None) is is_known.starts in
    let starts : first_reason run pipeline bodies ≡ None
    = sym (alike_reason known.run.now run pipeline known.bodies bodies single same (bodies_alike earlier known.run.now run pipeline known.bodies bodies same before found)) ∙ started in
    let refers : pipeline_of earlier run.source ≡ Some pipeline = ap (pipeline_of earlier) source ∙ named in
    without_reason run pipeline bodies (all_values pipeline.params run.params) refl starts
    ∙ (sym (ap (by_bodies run pipeline) found) ∙ sym (ap (by_pipeline earlier run) refers))

-- the known bodies are its own, where no task sees values of its own
pub same_again : (earlier : List Item) (name : List ℕ) (known : KnownRun) (run : RunObject) (pipeline : PipelineSpec) → IsKnownRun earlier name known → pipeline_named earlier name ≡ Some pipeline
    → AreGivenAlike known.run.now run → IsTrue known.alone ⊎ (known.run.now.params ≡ run.params) → bodies_of earlier run pipeline ≡ Some known.bodies
same_again earlier name known run pipeline is_known named same alone =
    let is : is_known.pipeline ≡ pipeline = let both : Some is_known.pipeline ≡ Some pipeline = sym is_known.named ∙ named in cc in
    let before : bodies_of earlier known.run.now pipeline ≡ Some known.bodies = subst (λ (p : PipelineSpec). bodies_of earlier known.run.now p ≡ Some known.bodies) is is_known.found in
    let sees : All RunsTask (all_tasks pipeline) ⊎ (known.run.now.params ≡ run.params)
    = ⊎_elim (λ own. inl (subst (λ (p : PipelineSpec). All RunsTask (all_tasks p)) is (is_known.alone own))) (λ params. inr params) alone in
    sym (same_bodies earlier known.run.now run pipeline same sees) ∙ before
