-- What is wrong first with some objects.
use Rattle.std.proofs.Common.{◌≡◌, ℕ, List, [], ◌∷◌, ◌++◌, Option, Some, None, refl, false}
use Rattle.std.specs.Prelude.{⊤, codes}
use Rattle.std.specs.List.{repeat}
use Rattle.std.specs.Fmt.{digits}
use Rattle.tk_types.specs.declared.value.Param.{Param}
use Rattle.tk_types.specs.declared.value.ParamSpec.{ParamSpec}
use Rattle.tk_types.specs.declared.value.ParamType.{ParamType}
use Rattle.tk_types.specs.declared.value.ParamType.TheVariants.{Str as string, Arr as array, Obj as object}
use Rattle.tk_types.specs.declared.value.Value.{Value}
use Rattle.tk_types.specs.declared.value.Value.TheVariants.{Str, Arr}
use Rattle.tk_types.specs.declared.task.PipelineTask.{PipelineTask}
use Rattle.tk_types.specs.declared.task.Step.{Step}
use Rattle.tk_types.specs.declared.task.TaskSource.TheVariants.{Inlined}
use Rattle.tk_types.specs.declared.task.TaskSpec.{TaskSpec}
use Rattle.tk_types.specs.declared.object.Given3.{Given3}
use Rattle.tk_types.specs.declared.object.Item.{Item}
use Rattle.tk_types.specs.declared.object.ItemObject.TheVariants.{Task, PipelineRun}
use Rattle.tk_types.specs.declared.object.PipelineSource.TheVariants.{Inlined as InlinedPipeline}
use Rattle.tk_types.specs.declared.object.PipelineSpec.{PipelineSpec}
use Rattle.tk_types.specs.Fault.{bad_choice, bad_reference, cycle, duplicate, finally_rule, matrix_conflict, timeouts_overrun, too_large, unknown_task, unknown_variable, wrong_type}
use Rattle.tk_types.specs.Place.{Place, root, ◌▸◌, ◌#◌}
use Rattle.tk_types.specs.First.{Finding}
use Rattle.tk_graph.specs.Results.{text_results}
use Rattle.tk_graph.specs.Tasks.{part_task}
use Rattle.tk_bind.specs.Fits.{context_words}
use Rattle.tk_validate.specs.Conflicts.{pipeline_conflicts, takes_whole}
use Rattle.tk_validate.specs.Cycle.{acyclic}
use Rattle.tk_validate.specs.Finally.{names_no, pipeline_obeys}
use Rattle.tk_validate.specs.Named.{read_references, whole_read}
use Rattle.tk_validate.specs.Names.{differ_from, pipeline_names}
use Rattle.tk_validate.specs.Seen.{keys, pipeline_context, task_context}
use Rattle.tk_validate.specs.Sizes.{pipeline_within}
use Rattle.tk_validate.specs.Texts.{alone_texts, inlined_texts, pipeline_texts, step_texts, text_finding}
use Rattle.tk_validate.specs.Types.{pipeline_typed}
use Rattle.tk_validate.specs.Validate.{item_fault}
use Rattle.tk_validate.specs.Workspaces.{pipeline_hands_on, task_hands_on}

-- what an example unfolds
unfoldable all_rules : ⊤
unfolding acyclic alone_texts differ_from digits inlined_texts names_no part_task pipeline_conflicts pipeline_hands_on pipeline_names pipeline_obeys pipeline_texts pipeline_typed pipeline_within read_references step_texts takes_whole task_hands_on text_finding text_results whole_read
all_rules = tt

-- a step, a Task and a task that do nothing, and a pipeline of tasks
abbrev step : Step
step =
    record {
      name = None;
      command = codes "true" ∷ [];
      args = [];
      script = None;
      env = [];
      dir = None;
      keep_going = false;
    }

abbrev runs : List ℕ → Step
runs script = record step { command = []; script = Some script }

abbrev spec : TaskSpec
spec = record { params = []; steps = step ∷ []; results = []; spaces = [] }

abbrev running : List ℕ → TaskSpec
running script = record spec { steps = runs script ∷ [] }

abbrev task : List ℕ → PipelineTask
task name =
    record {
      name = name;
      source = Inlined spec;
      params = [];
      matrix = None;
      run_after = [];
      when = [];
      retries = 0;
      timeout = 0;
      ignore_failure = false;
      spaces = [];
    }

abbrev param : List ℕ → Value → Param
param name value = record { name = name; value = value }

abbrev given : List ℕ → List ℕ → List Param
given name text = param name (Str text) ∷ []

abbrev taking : List ℕ → List ℕ → PipelineTask
taking name text = record (task name) { params = given (codes "p") text }

abbrev over : List ℕ → List Param → List (List Param) → PipelineTask
over name params include = record (task name) { matrix = Some (record { params = params; include = include }) }

abbrev declares : List ℕ → ParamType → ParamSpec
declares name kind = record { name = name; kind = kind; default_value = None; properties = [] }

abbrev pipeline : List PipelineTask → List PipelineTask → PipelineSpec
pipeline tasks finally = record { params = []; tasks = tasks; finally = finally; results = []; spaces = [] }

-- a run of a pipeline
abbrev no_timeouts : Given3
no_timeouts = record { pipeline = None; tasks = None; finally = None }

abbrev run_of : List Param → Given3 → PipelineSpec → Item
run_of params limits p =
    record {
      place = root;
      object = PipelineRun (record {
        name = codes "r";
        source = InlinedPipeline p;
        params = params;
        status = None;
        pending = false;
        timeouts = limits;
        bindings = [];
      });
    }

abbrev found : PipelineSpec → Finding
found p = item_fault (run_of [] no_timeouts p)

abbrev found_in : List PipelineTask → List PipelineTask → Finding
found_in tasks finally = found (pipeline tasks finally)

abbrev of_task : TaskSpec → Finding
of_task s = item_fault (record { place = root; object = Task (codes "t") s })

-- places in it
abbrev in_spec : Place
in_spec = root ▸ codes "spec" ▸ codes "pipelineSpec"

abbrev first_task : Place
first_task = in_spec ▸ codes "tasks" # 0

abbrev last_task : Place
last_task = in_spec ▸ codes "finally" # 0

abbrev first_param : Place
first_param = first_task ▸ codes "params" # 0 ▸ codes "value"

abbrev script_of : Place → Place
script_of at = at ▸ codes "taskSpec" ▸ codes "steps" # 0 ▸ codes "script"

abbrev a : List ℕ
a = codes "a"

abbrev b : List ℕ
b = codes "b"

-- nothing

nothing : found_in (task a ∷ record (task b) { run_after = a ∷ [] } ∷ []) (taking (codes "f") (codes "$(tasks.a.status)") ∷ []) ≡ None
unfolding all_rules
nothing = refl

-- sizes

steps_33 : of_task (record spec { steps = repeat 33 (step ∷ []) }) ≡ Some (too_large (root ▸ codes "spec" ▸ codes "steps") 32 33)
unfolding all_rules
steps_33 = refl

retries_101 : found_in (record (task a) { retries = 101 } ∷ task a ∷ []) [] ≡ Some (too_large (first_task ▸ codes "retries") 100 101)
unfolding all_rules
retries_101 = refl

-- names

a_task_twice : found_in (task a ∷ []) (task a ∷ []) ≡ Some (duplicate last_task a)
unfolding all_rules
a_task_twice = refl

inside_before_later : found_in (record (task a) { params = given b [] ++ given b [] } ∷ task a ∷ []) [] ≡ Some (duplicate (first_task ▸ codes "params" # 1) b)
unfolding all_rules
inside_before_later = refl

unnamed_steps : of_task (record spec { steps = step ∷ step ∷ record step { name = Some a } ∷ step ∷ record step { name = Some a } ∷ [] }) ≡ Some (duplicate (root ▸ codes "spec" ▸ codes "steps" # 4) a)
unfolding all_rules
unnamed_steps = refl

-- types

default_of_other_type : of_task (record spec { params = record (declares a string) { default_value = Some (Arr []) } ∷ [] }) ≡ Some (wrong_type (root ▸ codes "spec" ▸ codes "params" # 0 ▸ codes "default"))
unfolding all_rules
default_of_other_type = refl

object_without_properties : of_task (record spec { params = declares a object ∷ [] }) ≡ Some (wrong_type (root ▸ codes "spec" ▸ codes "params" # 0))
unfolding all_rules
object_without_properties = refl

list_in_entry : found_in (over a [] ((param b (Arr []) ∷ []) ∷ []) ∷ []) [] ≡ Some (wrong_type (first_task ▸ codes "matrix" ▸ codes "include" # 0 ▸ codes "params" # 0 ▸ codes "value"))
unfolding all_rules
list_in_entry = refl

-- matrices

own_and_in_matrix : found_in (record (over a (param b (Arr []) ∷ []) []) { params = given b [] } ∷ []) [] ≡ Some (matrix_conflict (first_task ▸ codes "matrix" ▸ codes "params" # 0) b)
unfolding all_rules
own_and_in_matrix = refl

-- a `[*]` without a reading is no list
half_star : found_in (over a (given b (codes "$(params.x[*]")) [] ∷ []) [] ≡ Some (matrix_conflict (first_task ▸ codes "matrix" ▸ codes "params" # 0 ▸ codes "value") b)
unfolding all_rules
half_star = refl

taken_in_part : found_in (taking a (codes "$(tasks.b.results.r)") ∷ over b (param (codes "q") (Arr []) ∷ []) [] ∷ []) [] ≡ Some (matrix_conflict first_param b)
unfolding all_rules
taken_in_part = refl

taken_whole : found_in (taking a (codes "$(tasks.b.results.r[*])") ∷ over b (param (codes "q") (Arr []) ∷ []) [] ∷ []) [] ≡ None
unfolding all_rules
taken_whole = refl

-- what `finally` allows

status_in_tasks : found_in (taking a (codes "$(tasks.b.status)") ∷ []) [] ≡ Some (finally_rule first_param)
unfolding all_rules
status_in_tasks = refl

status_in_steps : of_task (running (codes "$(tasks.status)")) ≡ Some (finally_rule (root ▸ codes "spec" ▸ codes "steps" # 0 ▸ codes "script"))
unfolding all_rules
status_in_steps = refl

result_of_finally : found_in (taking a (codes "$(tasks.f.results.r)") ∷ []) (task (codes "f") ∷ []) ≡ Some (finally_rule first_param)
unfolding all_rules
result_of_finally = refl

after_in_finally : found_in (task a ∷ []) (record (task b) { run_after = a ∷ [] } ∷ []) ≡ Some (finally_rule (last_task ▸ codes "runAfter"))
unfolding all_rules
after_in_finally = refl

-- workspaces

undeclared_workspace : found_in (record (task a) { spaces = record { name = a; from = b; sub = [] } ∷ [] } ∷ []) [] ≡ Some (bad_choice (first_task ▸ codes "workspaces" # 0))
unfolding all_rules
undeclared_workspace = refl

-- texts

no_reading_before_unknown : found_in (taking a (codes "$(params.x)$(params.)") ∷ []) [] ≡ Some (bad_reference first_param 11)
unfolding all_rules
no_reading_before_unknown = refl

unknown_before_task : found_in (taking a (codes "$(tasks.c.results.r)$(params.x)") ∷ []) [] ≡ Some (unknown_variable first_param (codes "$(params.x)"))
unfolding all_rules
unknown_before_task = refl

task_before_type : found (record (pipeline (taking a (codes "$(params.x)$(tasks.c.results.r)") ∷ []) []) { params = declares (codes "x") array ∷ [] }) ≡ Some (unknown_task first_param (codes "c"))
unfolding all_rules
task_before_type = refl

used_against_type : found (record (pipeline (taking a (codes "$(params.x)") ∷ []) []) { params = declares (codes "x") array ∷ [] }) ≡ Some (wrong_type first_param)
unfolding all_rules
used_against_type = refl

after_one_of_finally : found_in (record (task a) { run_after = b ∷ [] } ∷ []) (task b ∷ []) ≡ Some (unknown_task (first_task ▸ codes "runAfter" # 0) b)
unfolding all_rules
after_one_of_finally = refl

star_in_script : of_task (record (running (codes "$(params.x[*])")) { params = declares (codes "x") array ∷ [] }) ≡ Some (wrong_type (root ▸ codes "spec" ▸ codes "steps" # 0 ▸ codes "script"))
unfolding all_rules
star_in_script = refl

-- an inlined spec sees what its task gives and both contexts; a Task that stands alone its own
inlined_sees : found_in (record (taking a []) { source = Inlined (running (codes "$(params.p)$(context.pipeline.name)$(context.task.name)")) } ∷ []) [] ≡ None
unfolding all_rules
inlined_sees = refl

alone_sees : of_task (running (codes "$(context.task.name)$(context.pipeline.name)")) ≡ Some (unknown_variable (root ▸ codes "spec" ▸ codes "steps" # 0 ▸ codes "script") (codes "$(context.pipeline.name)"))
unfolding all_rules
alone_sees = refl

-- what a run gives has its value's type; what entries of two types give has none that is known
given_to_the_run : item_fault (run_of (param (codes "x") (Arr []) ∷ []) no_timeouts (pipeline (record (task a) { source = Inlined (running (codes "$(params.x)")) } ∷ []) [])) ≡ Some (wrong_type (script_of first_task))
unfolding all_rules
given_to_the_run = refl

abbrev two_entries : List ℕ → PipelineSpec
two_entries second =
    record (pipeline (record (over a [] (given b [] ∷ given b second ∷ [])) { source = Inlined (running (codes "$(params.b[0])")) } ∷ []) []) {
      params = declares (codes "x") array ∷ [];
    }

entries_of_two_types : found (two_entries (codes "$(params.x[*])")) ≡ None
unfolding all_rules
entries_of_two_types = refl

entries_of_one_type : found (two_entries []) ≡ Some (wrong_type (script_of first_task))
unfolding all_rules
entries_of_one_type = refl

-- cycles and timeouts

abbrev two_in_a_circle : PipelineSpec
two_in_a_circle = pipeline (taking a (codes "$(tasks.b.results.r)") ∷ record (task b) { run_after = a ∷ [] } ∷ []) []

abbrev limits : Option ℕ → Option ℕ → Option ℕ → Given3
limits whole tasks finally = record { pipeline = whole; tasks = tasks; finally = finally }

abbrev too_long : Given3
too_long = limits (Some 10000) (Some 8000) (Some 3000)

circle_before_timeouts : item_fault (run_of [] too_long two_in_a_circle) ≡ Some (cycle (in_spec ▸ codes "tasks") (a ∷ b ∷ []))
unfolding all_rules
circle_before_timeouts = refl

abbrev found_with : Given3 → Finding
found_with given_limits = item_fault (run_of [] given_limits (pipeline (task a ∷ []) []))

parts_over_the_whole : found_with too_long ≡ Some (timeouts_overrun (root ▸ codes "spec" ▸ codes "timeouts"))
unfolding all_rules
parts_over_the_whole = refl

two_hours : found_with (limits None (Some 7200000) None) ≡ Some (timeouts_overrun (root ▸ codes "spec" ▸ codes "timeouts"))
unfolding all_rules
two_hours = refl

no_timeout : found_with (limits (Some 0) (Some 7200000) None) ≡ None
unfolding all_rules
no_timeout = refl

-- the context variables are those of which substitution knows
all_contexts : keys context_words ≡ pipeline_context ++ task_context
unfolding all_rules
all_contexts = refl
