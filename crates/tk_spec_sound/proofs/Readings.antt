-- Texts with readings, by the parts in which they stand.
use Rattle.std.proofs.Common.{ℕ, List, [], ◌++◌, map, Option, Some, None, All, refl, subst}
use Rattle.std.specs.Prelude.{flat_map, option_to_list}
use Rattle.std.specs.Option.{ForSome}
use Rattle.std.proofs.lemmas.List.Elements.{All-append, All-cons, All-head, All-map, All-nil, All-weaker}
use Rattle.std.proofs.lemmas.Option.{none-some, same_Some}
use Rattle.tk_types.specs.Value.{value_texts}
use Rattle.tk_types.specs.declared.task.Matrix.{Matrix}
use Rattle.tk_types.specs.declared.task.PipelineTask.{PipelineTask}
use Rattle.tk_types.specs.declared.task.Step.{Step}
use Rattle.tk_types.specs.declared.value.Pair.{Pair}
use Rattle.tk_types.specs.declared.value.Param.{Param}
use Rattle.tk_vars.specs.Reading.{HasReading}
use Rattle.tk_graph.specs.Results.{guards_texts, matrix_texts, params_texts, task_texts}
use Rattle.tk_bind.specs.Fits.{step_elements, step_single_texts, step_texts}
use Rattle.tk_bind.specs.Readings.{ReadsMatrix, ReadsParams, ReadsStep}
use Rattle.tk_spec_sound.proofs.Every.{all_back, all_front, all_inside, all_mapped, all_outside}

-- a value that may be there
pub all_there : {X : Type 0} (P : X → Type 0) (o : Option X) → ForSome o P → All P (option_to_list o)
all_there P None holds = All-nil P
all_there P (Some x) holds = All-cons P x [] (holds x refl) (All-nil P)

pub there_all : {X : Type 0} (P : X → Type 0) (o : Option X) → All P (option_to_list o) → ForSome o P
there_all P None each = λ x is. absurd (none-some x is)
there_all P (Some x) each = λ y is. subst P (same_Some x y is) (All-head P x [] each)

-- parameters
abbrev texts_of_param : Param → List (List ℕ)
texts_of_param param = value_texts param.value

pub params_texts_read : (params : List Param) → ReadsParams params → All HasReading (params_texts params)
params_texts_read params reads = all_outside HasReading texts_of_param params reads

pub params_read : (params : List Param) → All HasReading (params_texts params) → ReadsParams params
params_read params each = all_inside HasReading texts_of_param params each

-- a matrix
matrix_of : (matrix : Option Matrix) → All HasReading (matrix_texts matrix) → ForSome matrix ReadsMatrix
matrix_of None each = λ m is. absurd (none-some m is)
matrix_of (Some matrix) each = λ m is.
    subst ReadsMatrix (same_Some matrix m is)
    (record {
      lists = params_read matrix.params (all_front HasReading (params_texts matrix.params) (flat_map params_texts matrix.include) each);
      entries =
          All-weaker (λ (params : List Param). All HasReading (params_texts params)) ReadsParams params_read matrix.include
          (all_inside HasReading params_texts matrix.include (all_back HasReading (params_texts matrix.params) (flat_map params_texts matrix.include) each));
    })

pub matrix_reads : (task : PipelineTask) → All HasReading (task_texts task) → ForSome task.matrix ReadsMatrix
matrix_reads task each =
    let params = params_texts task.params in
    let matrix = matrix_texts task.matrix in
    matrix_of task.matrix (all_back HasReading params matrix (all_front HasReading (params ++ matrix) (guards_texts task.when) each))

-- a step
abbrev pair_texts : Step → List (List ℕ)
pair_texts step = map (λ (p : Pair). p.value) step.env

pub step_texts_read : (step : Step) → ReadsStep step → All HasReading (step_texts step)
step_texts_read step reads =
    let script = option_to_list step.script in
    let dir = option_to_list step.dir in
    All-append HasReading (step_elements step) (step_single_texts step) (All-append HasReading step.command step.args reads.command reads.args)
    (All-append HasReading (script ++ pair_texts step) dir
    (All-append HasReading script (pair_texts step) (all_there HasReading step.script reads.script) (All-map HasReading (λ (p : Pair). p.value) step.env reads.env))
    (all_there HasReading step.dir reads.dir))

pub step_reads : (step : Step) → All HasReading (step_texts step) → ReadsStep step
step_reads step each =
    let script = option_to_list step.script in
    let dir = option_to_list step.dir in
    let lists = all_front HasReading (step_elements step) (step_single_texts step) each in
    let single = all_back HasReading (step_elements step) (step_single_texts step) each in
    let front = all_front HasReading (script ++ pair_texts step) dir single in
    record {
      command = all_front HasReading step.command step.args lists;
      args = all_back HasReading step.command step.args lists;
      script = there_all HasReading step.script (all_front HasReading script (pair_texts step) front);
      env = all_mapped HasReading (λ (p : Pair). p.value) step.env (all_back HasReading script (pair_texts step) front);
      dir = there_all HasReading step.dir (all_back HasReading (script ++ pair_texts step) dir single);
    }

-- steps
pub steps_texts_read : (steps : List Step) → All ReadsStep steps → All (λ (step : Step). All HasReading (step_texts step)) steps
steps_texts_read steps reads = All-weaker ReadsStep (λ (step : Step). All HasReading (step_texts step)) step_texts_read steps reads

pub steps_read : (steps : List Step) → All (λ (step : Step). All HasReading (step_texts step)) steps → All ReadsStep steps
steps_read steps each = All-weaker (λ (step : Step). All HasReading (step_texts step)) ReadsStep step_reads steps each
