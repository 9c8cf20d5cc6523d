-- Texts that have a reading, with what is due there.
use Rattle.std.proofs.Common.{◌≡◌, ℕ, List, [], ◌∷◌, ◌++◌, map, All, Option, Some, None, refl, sym, subst}
use Rattle.std.specs.Prelude.{flat_map, option_to_list}
use Rattle.std.specs.Option.{ForSome}
use Rattle.std.proofs.lemmas.List.Elements.{All-append, All-cons, All-head, All-map, All-nil, All-tail}
use denote.Ref.{Bor}
use Rattle.tk_types.specs.declared.value.Pair.{Pair}
use Rattle.tk_types.specs.declared.value.Param.{Param}
use Rattle.tk_types.specs.declared.value.Value.{Value}
use Rattle.tk_types.specs.declared.value.Value.TheVariants.{Str, Arr, Obj}
use Rattle.tk_types.specs.declared.task.Matrix.{Matrix}
use Rattle.tk_types.specs.declared.task.PipelineTask.{PipelineTask}
use Rattle.tk_types.specs.declared.task.Step.{Step}
use Rattle.tk_types.specs.declared.task.When.{When}
use Rattle.tk_vars.specs.Reading.{HasReading}
use Rattle.tk_bind.specs.Readings.{ReadsGuard, ReadsMatrix, ReadsParam, ReadsParams, ReadsPipelineTask, ReadsStep, ReadsValue}
use Rattle.tk_bind.proofs.Readings.{All-under_map}
use Rattle.tk_resolve.specs.declared.due.Due.{Due}
use Rattle.tk_resolve.specs.declared.due.Due.TheVariants.{OneText, Element, AnyValue}
use Rattle.tk_resolve.specs.Due.{DueText, dues, element_dues, guard_dues, matrix_dues, params_dues, seen, single_dues, step_dues, task_dues, value_dues}

abbrev Reads : DueText → Type 0
Reads t = HasReading t.1

-- what holds of all that a function gives of each
all_flat : {X Y : Type 0} (P : Y → Type 0) (Q : X → Type 0) (f : X → List Y) (xs : List X) → ((x : X) → Q x → All P (f x)) → All Q xs → All P (flat_map f xs)
all_flat P Q f [] each all = All-nil P
all_flat P Q f (x ∷ xs) each all = All-append P (f x) (flat_map f xs) (each x (All-head Q x xs all)) (all_flat P Q f xs each (All-tail Q x xs all))

dues_read : (due : Due) (texts : List (List ℕ)) → All HasReading texts → All Reads (dues due texts)
dues_read due texts all = All-map Reads (λ (t : List ℕ). (due, t)) texts all

pairs_read : (pairs : List Pair) → All (λ (p : Pair). HasReading p.value) pairs → All Reads (map (λ (p : Pair). (OneText, p.value)) pairs)
pairs_read pairs all = All-map Reads (λ (p : Pair). (OneText, p.value)) pairs all

-- the texts of a value, of parameters, of a matrix and of a task
pub value_reads : (due : Due) (value : Value) → ReadsValue value → All Reads (value_dues due value)
value_reads due (Str text) all = All-cons Reads (due, text) [] (All-head HasReading text [] all) (All-nil Reads)
value_reads due (Arr texts) all = dues_read Element texts all
value_reads due (Obj pairs) all = pairs_read pairs (All-under_map HasReading (λ (p : Pair). p.value) pairs all)

pub params_read : (due : Due) (params : List Param) → ReadsParams params → All Reads (params_dues due params)
params_read due params all = all_flat Reads ReadsParam (λ (p : Param). value_dues due p.value) params (λ p. value_reads due p.value) all

pub matrix_reads : (matrix : Option Matrix) → ForSome matrix ReadsMatrix → All Reads (matrix_dues matrix)
matrix_reads None each = All-nil Reads
matrix_reads (Some m) each =
    let reads = each m refl in
    All-append Reads (params_dues Element m.params) (flat_map (params_dues AnyValue) m.include) (params_read Element m.params reads.lists) (all_flat Reads ReadsParams (params_dues AnyValue) m.include (params_read AnyValue) reads.entries)

guard_reads : (g : When) → ReadsGuard g → All Reads (guard_dues g)
guard_reads g reads = All-cons Reads (OneText, g.input) (dues Element g.values) reads.input (dues_read Element g.values reads.values)

pub task_reads : (t : PipelineTask) → ReadsPipelineTask t → All Reads (task_dues t)
task_reads t reads =
    All-append Reads (params_dues AnyValue t.params ++ matrix_dues t.matrix) (flat_map guard_dues t.when)
    (All-append Reads (params_dues AnyValue t.params) (matrix_dues t.matrix) (params_read AnyValue t.params reads.params) (matrix_reads t.matrix reads.matrix))
    (all_flat Reads ReadsGuard guard_dues t.when guard_reads reads.guards)

-- the texts of steps
optional_reads : (text : Option (List ℕ)) → ForSome text HasReading → All Reads (dues OneText (option_to_list text))
optional_reads None each = All-nil Reads
optional_reads (Some text) each = All-cons Reads (OneText, text) [] (each text refl) (All-nil Reads)

elements_read : (s : Step) → ReadsStep s → All Reads (element_dues s)
elements_read s reads = All-append Reads (dues Element s.command) (dues Element s.args) (dues_read Element s.command reads.command) (dues_read Element s.args reads.args)

singles_read : (s : Step) → ReadsStep s → All Reads (single_dues s)
singles_read s reads =
    let envs = map (λ (p : Pair). (OneText, p.value)) s.env in
    All-append Reads (dues OneText (option_to_list s.script) ++ envs) (dues OneText (option_to_list s.dir))
    (All-append Reads (dues OneText (option_to_list s.script)) envs (optional_reads s.script reads.script) (pairs_read s.env reads.env)) (optional_reads s.dir reads.dir)

step_reads : (s : Step) → ReadsStep s → All Reads (step_dues s)
step_reads s reads = All-append Reads (element_dues s) (single_dues s) (elements_read s reads) (singles_read s reads)

pub steps_read : (steps : List Step) → All ReadsStep steps → All Reads (flat_map step_dues steps)
steps_read steps all = all_flat Reads ReadsStep step_dues steps step_reads all

-- the same of borrowed texts
pub seen_read : (texts : List (Due × Bor (List ℕ))) (all : List DueText) → seen texts ≡ all → All Reads all → All (λ t. HasReading t.1.now) texts
seen_read texts all same reads = All-under_map Reads (λ (t : Due × Bor (List ℕ)). (t.0, t.1.now)) texts (subst (All Reads) (sym same) reads)
