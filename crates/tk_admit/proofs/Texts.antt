-- Each text of a run that reads has a reading.
use Rattle.std.proofs.Common.{List, [], ◌∷◌, ◌++◌, map, Option, Some, None, refl}
use Rattle.std.specs.Prelude.{All, flat_map, option_to_list}
use Rattle.std.specs.Option.{ForSome}
use Rattle.std.proofs.lemmas.List.Elements.{All-append, All-cons, All-head, All-map, All-nil, All-tail}
use Rattle.tk_types.specs.declared.value.Pair.{Pair}
use Rattle.tk_types.specs.declared.value.Param.{Param}
use Rattle.tk_types.specs.declared.task.Matrix.{Matrix}
use Rattle.tk_types.specs.declared.task.PipelineTask.{PipelineTask}
use Rattle.tk_types.specs.declared.task.Step.{Step}
use Rattle.tk_types.specs.declared.task.TaskBody.{TaskBody}
use Rattle.tk_types.specs.declared.task.When.{When}
use Rattle.tk_types.specs.declared.run.Facts.{Facts}
use Rattle.tk_types.specs.Value.{value_texts}
use Rattle.tk_vars.specs.Reading.{HasReading}
use Rattle.tk_graph.specs.Results.{guards_texts, matrix_texts, params_texts, task_texts, when_texts}
use Rattle.tk_bind.specs.Fits.{step_elements, step_single_texts, step_texts}
use Rattle.tk_bind.specs.Readings.{ReadsGuard, ReadsMatrix, ReadsParam, ReadsParams, ReadsPipelineTask, ReadsStep, ReadsTaskSpec}
use Rattle.tk_resolve.specs.Laws.{ReadsRunSpec}
use Rattle.tk_verdict.specs.Facts.{all_tasks}
use Rattle.tk_verdict.specs.WellFormed.{facts_texts}

-- what holds of all that a function gives of each holds of all that it gives
all_given : {X Y : Type 0} (P : X → Type 0) (Q : Y → Type 0) (f : Y → List X) → ((y : Y) → Q y → All P (f y)) → (ys : List Y) → All Q ys → All P (flat_map f ys)
all_given P Q f each [] all = All-nil P
all_given P Q f each (y ∷ ys) all =
    All-append P (f y) (flat_map f ys) (each y (All-head Q y ys all)) (all_given P Q f each ys (All-tail Q y ys all))

-- what holds of a value that may be there holds of each of none or one
all_there : {X : Type 0} (P : X → Type 0) (o : Option X) → ForSome o P → All P (option_to_list o)
all_there P None holds = All-nil P
all_there P (Some x) holds = All-cons P x [] (holds x refl) (All-nil P)

params_read : (params : List Param) → ReadsParams params → All HasReading (params_texts params)
params_read params reads = all_given HasReading ReadsParam (λ (p : Param). value_texts p.value) (λ p read. read) params reads

matrix_reads : (matrix : Option Matrix) → ForSome matrix ReadsMatrix → All HasReading (matrix_texts matrix)
matrix_reads None reads = All-nil HasReading
matrix_reads (Some matrix) reads =
    let read = reads matrix refl in
    All-append HasReading (params_texts matrix.params) (flat_map params_texts matrix.include) (params_read matrix.params read.lists)
    (all_given HasReading ReadsParams params_texts params_read matrix.include read.entries)

guard_reads : (guard : When) → ReadsGuard guard → All HasReading (when_texts guard)
guard_reads guard reads = All-cons HasReading guard.input guard.values reads.input reads.values

task_reads : (task : PipelineTask) → ReadsPipelineTask task → All HasReading (task_texts task)
task_reads task reads =
    let params = params_texts task.params in
    let matrix = matrix_texts task.matrix in
    All-append HasReading (params ++ matrix) (guards_texts task.when)
    (All-append HasReading params matrix (params_read task.params reads.params) (matrix_reads task.matrix reads.matrix))
    (all_given HasReading ReadsGuard when_texts guard_reads task.when reads.guards)

step_reads : (step : Step) → ReadsStep step → All HasReading (step_texts step)
step_reads step reads =
    let script = option_to_list step.script in
    let env = map (λ (p : Pair). p.value) step.env in
    let dir = option_to_list step.dir in
    All-append HasReading (step_elements step) (step_single_texts step) (All-append HasReading step.command step.args reads.command reads.args)
    (All-append HasReading (script ++ env) dir
    (All-append HasReading script env (all_there HasReading step.script reads.script) (All-map HasReading (λ (p : Pair). p.value) step.env reads.env))
    (all_there HasReading step.dir reads.dir))

body_reads : (body : TaskBody) → ReadsTaskSpec body.spec → All HasReading (flat_map step_texts body.spec.steps)
body_reads body reads = all_given HasReading ReadsStep step_texts step_reads body.spec.steps reads

pub all_read : (facts : Facts) → ReadsRunSpec facts.spec → All HasReading (facts_texts facts)
all_read facts reads =
    let tasks = flat_map task_texts (all_tasks facts) in
    let bodies = flat_map (λ (body : TaskBody). flat_map step_texts body.spec.steps) facts.spec.bodies in
    All-append HasReading (tasks ++ bodies) (params_texts facts.spec.results)
    (All-append HasReading tasks bodies
    (all_given HasReading ReadsPipelineTask task_texts task_reads (all_tasks facts) reads.tasks)
    (all_given HasReading (λ (body : TaskBody). ReadsTaskSpec body.spec) (λ (body : TaskBody). flat_map step_texts body.spec.steps) body_reads facts.spec.bodies reads.bodies))
    (params_read facts.spec.results reads.results)
