-- What well-formed facts give.
use Rattle.std.proofs.Common.{◌≡◌, List, [], ◌∷◌, ◌++◌, map, get_or, subst}
use Rattle.std.specs.Prelude.{All, Option, Some, None, IsTrue, flat_map, option_to_list}
use Rattle.std.specs.List.{list_all}
use Rattle.std.specs.Option.{ForSome}
use Rattle.std.proofs.lemmas.List.Sums.{AllPass-from_list_all}
use Rattle.std.proofs.lemmas.List.Elements.{All-nil, All-cons, All-head, All-tail}
use Rattle.tk_types.specs.declared.value.Pair.{Pair}
use Rattle.tk_types.specs.declared.value.Param.{Param}
use Rattle.tk_types.specs.declared.task.Matrix.{Matrix}
use Rattle.tk_types.specs.declared.task.PipelineTask.{PipelineTask}
use Rattle.tk_types.specs.declared.task.Step.{Step}
use Rattle.tk_types.specs.declared.task.TaskBody.{TaskBody}
use Rattle.tk_types.specs.declared.task.When.{When}
use Rattle.tk_types.specs.declared.run.Facts.{Facts}
use Rattle.tk_types.specs.Value.{value_texts}
use Rattle.tk_vars.specs.Reading.{HasReading}
use Rattle.tk_graph.specs.Parents.{parent_names}
use Rattle.tk_graph.specs.Results.{guards_texts, matrix_texts, params_texts, task_texts, when_texts}
use Rattle.tk_graph.specs.Unknown.{is_known}
use Rattle.tk_bind.specs.Fits.{step_elements, step_single_texts, step_texts}
use Rattle.tk_bind.specs.Readings.{ReadsGuard, ReadsMatrix, ReadsParams, ReadsStep}
use Rattle.tk_verdict.specs.Facts.{all_tasks}
use Rattle.tk_verdict.specs.Gathered.{IsReadable}
use Rattle.tk_verdict.specs.Readings.{ReadsBody, ReadsTask}
use Rattle.tk_verdict.specs.WellFormed.{HasParents, IsWellFormed}

module _ {X : Type 0} (P : X → Type 0) where
  pub front : (xs ys : List X) → All P (xs ++ ys) → All P xs
  front [] ys all = All-nil P
  front (x ∷ xs) ys all = All-cons P x xs (All-head P x (xs ++ ys) all) (front xs ys (All-tail P x (xs ++ ys) all))

  pub back : (xs ys : List X) → All P (xs ++ ys) → All P ys
  back [] ys all = all
  back (x ∷ xs) ys all = back xs ys (All-tail P x (xs ++ ys) all)

  -- what holds of all that a function gives holds of what it gives of each
  pub of_each : {Y : Type 0} (f : Y → List X) (ys : List Y) → All P (flat_map f ys) → All (λ y. All P (f y)) ys
  of_each f [] all = All-nil (λ y. All P (f y))
  of_each f (y ∷ ys) all = All-cons (λ z. All P (f z)) y ys (front (f y) (flat_map f ys) all) (of_each f ys (back (f y) (flat_map f ys) all))

  pub of_mapped : {Y : Type 0} (f : Y → X) (ys : List Y) → All P (map f ys) → All (λ y. P (f y)) ys
  of_mapped f [] all = All-nil (λ y. P (f y))
  of_mapped f (y ∷ ys) all = All-cons (λ z. P (f z)) y ys (All-head P (f y) (map f ys) all) (of_mapped f ys (All-tail P (f y) (map f ys) all))

  pub of_optional : (o : Option X) → All P (option_to_list o) → ForSome o P
  of_optional None all = λ x e. absurd (let f : ⊥ = cc in f)
  of_optional (Some y) all = λ x e. let same : y ≡ x = cc in subst P same (All-head P y [] all)

-- all of the second kind are of the first
pub weaker : {X : Type 0} (P Q : X → Type 0) → ((x : X) → P x → Q x) → (xs : List X) → All P xs → All Q xs
weaker P Q step xs all = λ k d lt. step (get_or xs k d) (all k d lt)

reads_params : (params : List Param) → All HasReading (params_texts params) → ReadsParams params
reads_params params all = of_each HasReading (λ (p : Param). value_texts p.value) params all

reads_matrix : (matrix : Option Matrix) → All HasReading (matrix_texts matrix) → ForSome matrix ReadsMatrix
reads_matrix None all = λ m e. absurd (let f : ⊥ = cc in f)
reads_matrix (Some matrix) all = λ m e.
    let same : matrix ≡ m = cc in
    subst ReadsMatrix same
    (record {
      lists = reads_params matrix.params (front HasReading (params_texts matrix.params) (flat_map params_texts matrix.include) all);
      entries = weaker (λ entry. All HasReading (params_texts entry)) ReadsParams reads_params matrix.include (of_each HasReading params_texts matrix.include (back HasReading (params_texts matrix.params) (flat_map params_texts matrix.include) all));
    })

reads_guard : (guard : When) → All HasReading (when_texts guard) → ReadsGuard guard
reads_guard guard all = record { input = All-head HasReading guard.input guard.values all; values = All-tail HasReading guard.input guard.values all }

reads_task : (task : PipelineTask) → All HasReading (task_texts task) → ReadsTask task
reads_task task all =
    let params = params_texts task.params in
    let matrix = matrix_texts task.matrix in
    let guards = guards_texts task.when in
    record {
      params = reads_params task.params (front HasReading params matrix (front HasReading (params ++ matrix) guards all));
      matrix = reads_matrix task.matrix (back HasReading params matrix (front HasReading (params ++ matrix) guards all));
      guards = weaker (λ guard. All HasReading (when_texts guard)) ReadsGuard reads_guard task.when (of_each HasReading when_texts task.when (back HasReading (params ++ matrix) guards all));
      texts = all;
    }

reads_step : (step : Step) → All HasReading (step_texts step) → ReadsStep step
reads_step step all =
    let elements = front HasReading (step_elements step) (step_single_texts step) all in
    let singles = back HasReading (step_elements step) (step_single_texts step) all in
    let script = option_to_list step.script in
    let env = map (λ (p : Pair). p.value) step.env in
    let dir = option_to_list step.dir in
    record {
      command = front HasReading step.command step.args elements;
      args = back HasReading step.command step.args elements;
      script = of_optional HasReading step.script (front HasReading script env (front HasReading (script ++ env) dir singles));
      env = of_mapped HasReading (λ (p : Pair). p.value) step.env (back HasReading script env (front HasReading (script ++ env) dir singles));
      dir = of_optional HasReading step.dir (back HasReading (script ++ env) dir singles);
    }

reads_body : (body : TaskBody) → All HasReading (flat_map step_texts body.spec.steps) → ReadsBody body
reads_body body all = weaker (λ step. All HasReading (step_texts step)) ReadsStep reads_step body.spec.steps (of_each HasReading step_texts body.spec.steps all)

pub readable : (facts : Facts) → IsWellFormed facts → IsReadable facts
readable facts formed =
    let tasks = flat_map task_texts (all_tasks facts) in
    let bodies = flat_map (λ (body : TaskBody). flat_map step_texts body.spec.steps) facts.spec.bodies in
    let results = params_texts facts.spec.results in
    let both = front HasReading (tasks ++ bodies) results formed.readable in
    let each = weaker (λ task. All HasReading (task_texts task)) ReadsTask reads_task (all_tasks facts) (of_each HasReading task_texts (all_tasks facts) (front HasReading tasks bodies both)) in
    record {
      tasks = front ReadsTask facts.spec.tasks facts.spec.finally each;
      finals = back ReadsTask facts.spec.tasks facts.spec.finally each;
      bodies = weaker (λ (body : TaskBody). All HasReading (flat_map step_texts body.spec.steps)) ReadsBody reads_body facts.spec.bodies
          (of_each HasReading (λ (body : TaskBody). flat_map step_texts body.spec.steps) facts.spec.bodies (back HasReading tasks bodies both));
      one_body_each = formed.one_body_each;
    }

pub reads_results : (facts : Facts) → IsWellFormed facts → ReadsParams facts.spec.results
reads_results facts formed =
    let tasks = flat_map task_texts (all_tasks facts) in
    let bodies = flat_map (λ (body : TaskBody). flat_map step_texts body.spec.steps) facts.spec.bodies in
    reads_params facts.spec.results (back HasReading (tasks ++ bodies) (params_texts facts.spec.results) formed.readable)

-- each parent that a task of `tasks` names is known
pub parents_known : (facts : Facts) → HasParents facts → All (λ (task : PipelineTask). All (λ name. IsTrue (is_known facts.spec.tasks name)) (parent_names task)) facts.spec.tasks
parents_known facts all =
    weaker (λ (task : PipelineTask). IsTrue (list_all (is_known facts.spec.tasks) (parent_names task))) (λ (task : PipelineTask). All (λ name. IsTrue (is_known facts.spec.tasks name)) (parent_names task))
    (λ task pass. AllPass-from_list_all (is_known facts.spec.tasks) (parent_names task) pass) facts.spec.tasks
    (front (λ (task : PipelineTask). IsTrue (list_all (is_known facts.spec.tasks) (parent_names task))) facts.spec.tasks facts.spec.finally all)
