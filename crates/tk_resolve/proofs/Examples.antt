-- Which runs can start, and what the resolved ones hold.
use Rattle.std.proofs.Common.{◌≡◌, ◌^◌, ℕ, List, [], ◌∷◌, ◌++◌, refl, true, false}
use Rattle.std.specs.Prelude.{codes, map, Option, Some, None}
use Rattle.std.specs.List.{range_with_len}
use Rattle.tk_types.specs.Place.{root}
use Rattle.tk_types.specs.declared.value.Param.{Param}
use Rattle.tk_types.specs.declared.value.ParamSpec.{ParamSpec}
use Rattle.tk_types.specs.declared.value.ParamType.{ParamType}
use Rattle.tk_types.specs.declared.value.ParamType.TheVariants.{Str as string, Arr as array, Obj as object}
use Rattle.tk_types.specs.declared.value.Value.{Value}
use Rattle.tk_types.specs.declared.value.Value.TheVariants.{Str, Arr, Obj}
use Rattle.tk_types.specs.declared.task.PipelineTask.{PipelineTask}
use Rattle.tk_types.specs.declared.task.Step.{Step}
use Rattle.tk_types.specs.declared.task.TaskBody.{TaskBody}
use Rattle.tk_types.specs.declared.task.TaskSource.{TaskSource}
use Rattle.tk_types.specs.declared.task.TaskSource.TheVariants.{Named, Inlined}
use Rattle.tk_types.specs.declared.task.TaskSpec.{TaskSpec}
use Rattle.tk_types.specs.declared.object.Given3.{Given3}
use Rattle.tk_types.specs.declared.object.Item.{Item}
use Rattle.tk_types.specs.declared.object.ItemObject.TheVariants.{Task, Pipeline}
use Rattle.tk_types.specs.declared.object.PipelineSource.{PipelineSource}
use Rattle.tk_types.specs.declared.object.PipelineSource.TheVariants.{Named as NamedPipeline, Inlined as InlinedPipeline}
use Rattle.tk_types.specs.declared.object.PipelineSpec.{PipelineSpec}
use Rattle.tk_types.specs.declared.object.RunObject.{RunObject}
use Rattle.tk_types.specs.declared.object.TaskRunObject.{TaskRunObject}
use Rattle.tk_types.specs.declared.run.RunSpec.{RunSpec}
use Rattle.tk_types.specs.declared.run.Start.{Start}
use Rattle.tk_types.specs.declared.run.Start.TheVariants.{Ready, Unstartable}
use Rattle.tk_resolve.specs.Lookup.{task_named}
use Rattle.tk_early.specs.Possible.{possible_children, told_count}
use Rattle.tk_resolve.specs.Run.{resolved_run}
use Rattle.tk_resolve.specs.TaskRun.{resolved_task_run}
use Rattle.tk_resolve.specs.Timeouts.{pipeline_ms, tasks_ms, finally_ms}

-- What the examples are made of.

abbrev text_param : List ℕ → List ℕ → Param
text_param name text = record { name = name; value = Str text }

abbrev wanted : List ℕ → ParamType → Option Value → ParamSpec
wanted name kind default_value = record { name = name; kind = kind; default_value = default_value; properties = [] }

-- a spec with these parameters and one step, with this text as its argument
abbrev spec : List ParamSpec → List ℕ → TaskSpec
spec params text =
    let step : Step = record { name = None; command = codes "echo" ∷ []; args = text ∷ []; script = None; env = []; dir = None; keep_going = false } in
    record { params = params; steps = step ∷ []; results = []; spaces = [] }

abbrev plain : TaskSpec
plain = spec [] (codes "true")

-- the spec with the text result `t` and the list result `l`, and with the workspace `w`
abbrev with_results : TaskSpec → TaskSpec
with_results s = record s { results = record { name = codes "t"; kind = string } ∷ record { name = codes "l"; kind = array } ∷ record { name = codes "o"; kind = object } ∷ [] }

abbrev with_space : TaskSpec → TaskSpec
with_space s = record s { spaces = record { name = codes "w"; optional = false } ∷ [] }

-- a task of this name and source, with these parameters
abbrev task : List ℕ → TaskSource → List Param → PipelineTask
task name source params =
    record { name = name; source = source; params = params; matrix = None; run_after = []; when = []; retries = 0; timeout = 0; ignore_failure = false; spaces = [] }

abbrev with_matrix : List Param → PipelineTask → PipelineTask
with_matrix params t = record t { matrix = Some (record { params = params; include = [] }) }

abbrev pipeline : List ParamSpec → List PipelineTask → PipelineSpec
pipeline params tasks = record { params = params; tasks = tasks; finally = []; results = []; spaces = [] }

abbrev with_result : List ℕ → PipelineSpec → PipelineSpec
with_result text p = record p { results = text_param (codes "out") text ∷ [] }

-- no timeout is written
abbrev no_timeouts : Given3
no_timeouts = record { pipeline = None; tasks = None; finally = None }

abbrev run_of : PipelineSource → List Param → RunObject
run_of source params = record { name = codes "r"; source = source; params = params; status = None; pending = false; timeouts = no_timeouts; bindings = [] }

abbrev run : PipelineSpec → List Param → RunObject
run p params = run_of (InlinedPipeline p) params

abbrev task_run : TaskSource → List Param → TaskRunObject
task_run source params = record { name = codes "r"; source = source; params = params; cancelled = false; retries = 1; timeout = 5; bindings = [] }

-- an earlier Task, and an earlier Pipeline
abbrev a_task : List ℕ → TaskSpec → Item
a_task name s = record { place = root; object = Task name s }

abbrev a_pipeline : List ℕ → PipelineSpec → Item
a_pipeline name p = record { place = root; object = Pipeline name p }

-- whether the run can start
abbrev start : List Item → RunObject → Start
start earlier r = let resolved : RunSpec = resolved_run earlier r in resolved.start

abbrev one_task : TaskSource → List Param → List PipelineTask
one_task source params = task (codes "a") source params ∷ []

-- a run with the declared parameters, and one task whose spec has no parameters and this text
abbrev run_with_text : List ParamSpec → List ℕ → List Param → RunObject
run_with_text params text given = run (pipeline params (one_task (Inlined (spec [] text)) [])) given

abbrev two : Value
two = Arr (codes "1" ∷ codes "2" ∷ [])

abbrev list_param : List ℕ → Param
list_param name = record { name = name; value = two }

-- Each reason alone.

starts : start [] (run (pipeline [] (one_task (Inlined plain) [])) []) ≡ Ready
starts = refl

no_pipeline : start [] (run_of (NamedPipeline (codes "p")) []) ≡ Unstartable (codes "CouldntGetPipeline")
no_pipeline = refl

task_of_the_name : start (a_task (codes "p") plain ∷ []) (run_of (NamedPipeline (codes "p")) []) ≡ Unstartable (codes "CouldntGetPipeline")
task_of_the_name = refl

pipeline_found : start (a_pipeline (codes "p") (pipeline [] (one_task (Inlined plain) [])) ∷ []) (run_of (NamedPipeline (codes "p")) []) ≡ Ready
pipeline_found = refl

no_task : start [] (run (pipeline [] (one_task (Named (codes "t")) [])) []) ≡ Unstartable (codes "CouldntGetTask")
no_task = refl

task_found : start (a_task (codes "t") plain ∷ []) (run (pipeline [] (one_task (Named (codes "t")) [])) []) ≡ Ready
task_found = refl

first_task_of_a_name : task_named (a_task (codes "t") plain ∷ a_task (codes "t") (with_space plain) ∷ []) (codes "t") ≡ Some plain
first_task_of_a_name = refl

-- a Task that wants `x` and gets none; and a run that declares it and gets none
abbrev wants_x : TaskSpec
wants_x = spec (wanted (codes "x") string None ∷ []) (codes "true")

task_lacks_parameter : start (a_task (codes "t") wants_x ∷ []) (run (pipeline [] (one_task (Named (codes "t")) [])) []) ≡ Unstartable (codes "ParameterMissing")
task_lacks_parameter = refl

run_lacks_parameter : start [] (run (pipeline (wanted (codes "x") string None ∷ []) (one_task (Inlined plain) [])) []) ≡ Unstartable (codes "ParameterMissing")
run_lacks_parameter = refl

lacks_declared_key :
    start [] (run (pipeline (record { name = codes "x"; kind = object; default_value = None; properties = codes "k" ∷ [] } ∷ []) (one_task (Inlined plain) []))
    (record { name = codes "x"; value = Obj [] } ∷ [])) ≡ Unstartable (codes "ParameterMissing")
lacks_declared_key = refl

-- a text takes an element that isn't there, in a task's parameter and in a pipeline result
index_past_the_end : start [] (run (pipeline (wanted (codes "x") array None ∷ []) (one_task (Inlined plain) (text_param (codes "p") (codes "$(params.x[2])") ∷ []))) (list_param (codes "x") ∷ []))
    ≡ Unstartable (codes "ParameterMissing")
index_past_the_end = refl

index_within : start [] (run (pipeline (wanted (codes "x") array None ∷ []) (one_task (Inlined plain) (text_param (codes "p") (codes "$(params.x[1])") ∷ []))) (list_param (codes "x") ∷ [])) ≡ Ready
index_within = refl

in_a_result : start [] (run (with_result (codes "$(params.x[2])") (pipeline (wanted (codes "x") array None ∷ []) (one_task (Inlined plain) []))) (list_param (codes "x") ∷ []))
    ≡ Unstartable (codes "ParameterMissing")
in_a_result = refl

-- `[*]` of a list is an element, and no text at an object's key
star_at_a_key :
    start [] (run (pipeline (wanted (codes "x") array None ∷ []) (one_task (Inlined plain)
    (record { name = codes "p"; value = Obj (record { key = codes "k"; value = codes "$(params.x[*])" } ∷ []) } ∷ []))) (list_param (codes "x") ∷ []))
    ≡ Unstartable (codes "ParameterMissing")
star_at_a_key = refl

star_as_an_element :
    start [] (run (pipeline (wanted (codes "x") array None ∷ []) (one_task (Inlined plain) (record { name = codes "p"; value = Arr (codes "$(params.x[*])" ∷ []) } ∷ []))) (list_param (codes "x") ∷ [])) ≡ Ready
star_as_an_element = refl

-- a run's own value of the wrong type; where a text uses it by its declared type, a parameter is missing
wrong_type : start [] (run_with_text (wanted (codes "x") string None ∷ []) (codes "true") (list_param (codes "x") ∷ [])) ≡ Unstartable (codes "ParameterTypeMismatch")
wrong_type = refl

wrong_type_in_a_text : start [] (run_with_text (wanted (codes "x") string None ∷ []) (codes "$(params.x)") (list_param (codes "x") ∷ [])) ≡ Unstartable (codes "ParameterMissing")
wrong_type_in_a_text = refl

-- the wrong type for a Task is a binding that doesn't fit
wrong_type_for_a_task : start (a_task (codes "t") wants_x ∷ []) (run (pipeline [] (one_task (Named (codes "t")) (list_param (codes "x") ∷ []))) []) ≡ Unstartable (codes "ParameterMissing")
wrong_type_for_a_task = refl

-- `a` with the results `t`, `l` and `o`, and `b` with this value of its parameter `p`
abbrev of_results : Value → RunObject
of_results value = run (pipeline [] (task (codes "a") (Inlined (with_results plain)) [] ∷ task (codes "b") (Inlined plain) (record { name = codes "p"; value = value } ∷ []) ∷ [])) []

declared_result : start [] (of_results (Str (codes "$(tasks.a.results.t)"))) ≡ Ready
declared_result = refl

undeclared_result : start [] (of_results (Str (codes "$(tasks.a.results.z)"))) ≡ Unstartable (codes "InvalidTaskResultReference")
undeclared_result = refl

result_without_a_name : start [] (of_results (Str (codes "$(tasks.a.results[0])"))) ≡ Unstartable (codes "InvalidTaskResultReference")
result_without_a_name = refl

list_as_a_text : start [] (of_results (Str (codes "$(tasks.a.results.l)"))) ≡ Unstartable (codes "InvalidTaskResultReference")
list_as_a_text = refl

object_as_a_value : start [] (of_results (Str (codes "$(tasks.a.results.o[*])"))) ≡ Ready
object_as_a_value = refl

object_as_an_element : start [] (of_results (Arr (codes "$(tasks.a.results.o[*])" ∷ []))) ≡ Unstartable (codes "InvalidTaskResultReference")
object_as_an_element = refl

list_at_a_key : start [] (of_results (Obj (record { key = codes "k"; value = codes "$(tasks.a.results.l[*])" } ∷ []))) ≡ Unstartable (codes "InvalidTaskResultReference")
list_at_a_key = refl

-- of a matrix the texts of a result are a list
abbrev of_matrix : List ℕ → RunObject
of_matrix text =
    run (pipeline [] (with_matrix (list_param (codes "m") ∷ []) (task (codes "a") (Inlined (with_results plain)) []) ∷ task (codes "b") (Inlined plain) (text_param (codes "p") text ∷ []) ∷ [])) []

texts_of_a_matrix : start [] (of_matrix (codes "$(tasks.a.results.t[*])")) ≡ Ready
texts_of_a_matrix = refl

lists_of_a_matrix : start [] (of_matrix (codes "$(tasks.a.results.l[*])")) ≡ Unstartable (codes "InvalidTaskResultReference")
lists_of_a_matrix = refl

-- a Task whose workspace nobody binds; an optional one; and one that the pipeline declares
unbound_workspace : start [] (run (pipeline [] (one_task (Inlined (with_space plain)) [])) []) ≡ Unstartable (codes "InvalidWorkspaceBindings")
unbound_workspace = refl

optional_workspace : start [] (run (pipeline [] (one_task (Inlined (record plain { spaces = record { name = codes "w"; optional = true } ∷ [] })) [])) []) ≡ Ready
optional_workspace = refl

unbound_in_the_pipeline : start [] (run (record (pipeline [] (one_task (Inlined plain) [])) { spaces = record { name = codes "w"; optional = false } ∷ [] }) []) ≡ Unstartable (codes "InvalidWorkspaceBindings")
unbound_in_the_pipeline = refl

-- Neighbours in their order.

task_before_missing : start [] (run (pipeline (wanted (codes "x") string None ∷ []) (one_task (Named (codes "t")) [])) []) ≡ Unstartable (codes "CouldntGetTask")
task_before_missing = refl

missing_before_mismatch :
    start [] (run (pipeline (wanted (codes "x") string None ∷ wanted (codes "y") string None ∷ []) (one_task (Inlined plain) [])) (list_param (codes "x") ∷ [])) ≡ Unstartable (codes "ParameterMissing")
missing_before_mismatch = refl

mismatch_before_result :
    start [] (run (pipeline (wanted (codes "x") string None ∷ []) (task (codes "a") (Inlined plain) [] ∷ task (codes "b") (Inlined plain) (text_param (codes "p") (codes "$(tasks.a.results.z)") ∷ []) ∷ []))
    (list_param (codes "x") ∷ [])) ≡ Unstartable (codes "ParameterTypeMismatch")
mismatch_before_result = refl

result_before_workspace :
    start [] (run (pipeline [] (task (codes "a") (Inlined (with_space plain)) [] ∷ task (codes "b") (Inlined plain) (text_param (codes "p") (codes "$(tasks.a.results.z)") ∷ []) ∷ [])) [])
    ≡ Unstartable (codes "InvalidTaskResultReference")
result_before_workspace = refl

-- a parameter is missing beside a misused result in one text
missing_beside_a_result :
    start [] (run (pipeline (wanted (codes "x") array None ∷ []) (task (codes "a") (Inlined plain) [] ∷ task (codes "b") (Inlined plain) (text_param (codes "p") (codes "$(tasks.a.results.z)$(params.x[2])") ∷ []) ∷ []))
    (list_param (codes "x") ∷ [])) ≡ Unstartable (codes "ParameterMissing")
missing_beside_a_result = refl

-- What is known only in the run.

-- a parameter that refers to a result counts as one that fits, with whatever a text takes of it; another one is judged
abbrev late : TaskSpec → List Param → RunObject
late s beside = run (pipeline [] (task (codes "a") (Inlined (with_results plain)) [] ∷ task (codes "b") (Inlined s) (text_param (codes "x") (codes "$(tasks.a.results.t)") ∷ beside) ∷ [])) []

late_parameter : start [] (late (spec (wanted (codes "x") object None ∷ []) (codes "$(params.x.k)")) []) ≡ Ready
late_parameter = refl

beside_a_late_one : start [] (late (spec (wanted (codes "y") string None ∷ []) (codes "$(params.x)")) []) ≡ Unstartable (codes "ParameterMissing")
beside_a_late_one = refl

given_beside_a_late_one : start [] (late (spec (wanted (codes "y") string None ∷ []) (codes "$(params.x)$(params.y)")) (text_param (codes "y") (codes "1") ∷ [])) ≡ Ready
given_beside_a_late_one = refl

-- a combination gives a text where a list is wanted; a matrix that refers to a result isn't judged
abbrev matrixed : Value → RunObject
matrixed value =
    run (pipeline [] (task (codes "a") (Inlined (with_results plain)) []
    ∷ with_matrix (record { name = codes "x"; value = value } ∷ []) (task (codes "b") (Inlined (spec (wanted (codes "x") array None ∷ []) (codes "true"))) []) ∷ [])) []

combination_misfits : start [] (matrixed two) ≡ Unstartable (codes "ParameterMissing")
combination_misfits = refl

no_combination : start [] (matrixed (Arr [])) ≡ Ready
no_combination = refl

unsettled : start [] (matrixed (Str (codes "$(tasks.a.results.l[*])"))) ≡ Ready
unsettled = refl

-- combinations over the limit aren't judged here, yet the Task is sought
abbrev many : ℕ → Value
many n = Arr (map (λ (i : ℕ). codes "1") (range_with_len 0 n))

too_many : start [] (matrixed (many 257)) ≡ Ready
too_many = refl

too_many_of_no_task : start [] (run (pipeline [] (with_matrix (record { name = codes "x"; value = many 257 } ∷ []) (task (codes "a") (Named (codes "t")) []) ∷ [])) []) ≡ Unstartable (codes "CouldntGetTask")
too_many_of_no_task = refl

-- What a run holds.

-- declared values stand in the order of their declarations, and what is given beside them behind
abbrev params_of : RunObject → List Param
params_of r = let resolved : RunSpec = resolved_run [] r in resolved.params

order_of_values :
    params_of (run_with_text (wanted (codes "x") string (Some (Str (codes "0"))) ∷ wanted (codes "y") string None ∷ []) (codes "true") (text_param (codes "z") (codes "3") ∷ text_param (codes "y") (codes "2") ∷ []))
    ≡ text_param (codes "x") (codes "0") ∷ text_param (codes "y") (codes "2") ∷ text_param (codes "z") (codes "3") ∷ []
order_of_values = refl

given_before_default : params_of (run_with_text (wanted (codes "x") string (Some (Str (codes "0"))) ∷ []) (codes "true") (text_param (codes "x") (codes "1") ∷ [])) ≡ text_param (codes "x") (codes "1") ∷ []
given_before_default = refl

-- a run that can't start keeps its values, and has no tasks
abbrev unfound : RunSpec
unfound = resolved_run [] (run (pipeline (wanted (codes "x") string (Some (Str (codes "0"))) ∷ []) (one_task (Named (codes "t")) [])) [])

keeps_its_values : unfound.params ≡ text_param (codes "x") (codes "0") ∷ []
keeps_its_values = refl

has_no_tasks : unfound.tasks ≡ []
has_no_tasks = refl

-- the body of the one task
abbrev bodies_of : RunObject → List TaskBody
bodies_of r = let resolved : RunSpec = resolved_run [] r in resolved.bodies

-- an inlined spec sees what is given to the run, and behind it the defaults that the pipeline declares
inlined_body :
    bodies_of (run_with_text (wanted (codes "x") string (Some (Str (codes "0"))) ∷ []) (codes "$(params.x)$(params.y)") (text_param (codes "y") (codes "2") ∷ []))
    ≡ record { spec = spec [] (codes "$(params.x)$(params.y)"); task_name = codes "a"; outer = text_param (codes "y") (codes "2") ∷ []; fallback = text_param (codes "x") (codes "0") ∷ []; bound = [] } ∷ []
inlined_body = refl

-- a claim for `c`, that the task hands to its Task as `w`
bound_workspace :
    let r = run (record (pipeline [] (record (task (codes "a") (Inlined (with_space plain)) []) { spaces = record { name = codes "w"; from = codes "c"; sub = codes "d" } ∷ [] } ∷ []))
    { spaces = record { name = codes "c"; optional = false } ∷ [] }) [] in
    map (λ (b : TaskBody). b.bound) (bodies_of (record r { bindings = record { name = codes "c"; claim = Some (codes "v"); sub = codes "s" } ∷ [] }))
    ≡ (record { name = codes "w"; claim = Some (codes "v"); sub = codes "s/d" } ∷ []) ∷ []
bound_workspace = refl

-- How many children a task may have.

-- each task of the run, and the `finally` tasks behind them
abbrev children : RunObject → List (Option ℕ)
children r = let resolved : RunSpec = resolved_run [] r in map (possible_children resolved) (resolved.tasks ++ resolved.finally)

-- a run whose one task has this matrix, with the list `x`
abbrev by_matrix : List Param → List (List Param) → RunObject
by_matrix params include =
    run (pipeline (wanted (codes "x") array None ∷ []) (record (task (codes "a") (Inlined plain) []) { matrix = Some (record { params = params; include = include }) } ∷ [])) (list_param (codes "x") ∷ [])

without_a_matrix : children (run (pipeline [] (one_task (Inlined plain) [])) []) ≡ None ∷ []
without_a_matrix = refl

by_its_lists : children (by_matrix (list_param (codes "m") ∷ list_param (codes "n") ∷ []) []) ≡ Some 4 ∷ []
by_its_lists = refl

by_an_empty_list : children (matrixed (Arr [])) ≡ None ∷ Some 0 ∷ []
by_an_empty_list = refl

-- one entry agrees with a combination, and one with none
by_entries : children (by_matrix (list_param (codes "m") ∷ []) ((text_param (codes "m") (codes "2") ∷ text_param (codes "k") (codes "v") ∷ []) ∷ (text_param (codes "m") (codes "3") ∷ []) ∷ [])) ≡ Some 3 ∷ []
by_entries = refl

-- a list of the run's, whole and as an element; and words
by_a_parameter : children (by_matrix (text_param (codes "m") (codes "$(params.x[*])") ∷ record { name = codes "n"; value = Arr (codes "0" ∷ codes "$(params.x[*])" ∷ []) } ∷ []) []) ≡ Some 6 ∷ []
by_a_parameter = refl

by_words : children (by_matrix (record { name = codes "m"; value = Arr (codes "$(context.pipelineRun.name)" ∷ codes "$(context.pipeline.name)" ∷ codes "$(context.pipelineTask.retries)" ∷ []) } ∷ []) []) ≡ Some 3 ∷ []
by_words = refl

-- an entry with the run's name agrees with a combination
by_a_name : children (by_matrix (record { name = codes "m"; value = Arr (codes "r" ∷ codes "1" ∷ []) } ∷ []) ((text_param (codes "m") (codes "$(context.pipelineRun.name)") ∷ []) ∷ [])) ≡ Some 2 ∷ []
by_a_name = refl

-- as many as are allowed, where a matrix depends on a result or on a status
by_a_result : children (matrixed (Str (codes "$(tasks.a.results.l[*])"))) ≡ None ∷ Some 256 ∷ []
by_a_result = refl

by_a_status :
    children (run (record (pipeline [] (one_task (Inlined plain) [])) { finally = with_matrix (record { name = codes "m"; value = Arr (codes "$(tasks.a.status)" ∷ []) } ∷ []) (task (codes "f") (Inlined plain) []) ∷ [] }) [])
    ≡ None ∷ Some 256 ∷ []
by_a_status = refl

-- more than are allowed, which is told
more_than_allowed : children (matrixed (many 257)) ≡ None ∷ Some 257 ∷ []
more_than_allowed = refl

of_a_run_that_stays : children (run (pipeline [] (with_matrix (list_param (codes "m") ∷ []) (task (codes "a") (Named (codes "t")) []) ∷ [])) []) ≡ []
of_a_run_that_stays = refl

told_as_it_is : told_count 257 ≡ 257
told_as_it_is = refl

told_as_the_greatest : told_count (2 ^ 70) ≡ 18446744073709551615
told_as_the_greatest = refl

-- Timeouts.

-- what is written, and the three timeouts that hold
abbrev written : Option ℕ → Option ℕ → Option ℕ → Given3
written whole tasks finally = record { pipeline = whole; tasks = tasks; finally = finally }

abbrev all_ms : Given3 → List ℕ
all_ms given = pipeline_ms given ∷ tasks_ms given ∷ finally_ms given ∷ []

left_for_finally : all_ms (written (Some 10000) (Some 8000) None) ≡ 10000 ∷ 8000 ∷ 2000 ∷ []
left_for_finally = refl

left_for_tasks : all_ms (written (Some 10000) None (Some 3000)) ≡ 10000 ∷ 7000 ∷ 3000 ∷ []
left_for_tasks = refl

nothing_left : all_ms (written (Some 10000) (Some 10000) None) ≡ 10000 ∷ 10000 ∷ 0 ∷ []
nothing_left = refl

all_left : all_ms (written (Some 10000) (Some 0) None) ≡ 10000 ∷ 0 ∷ 10000 ∷ []
all_left = refl

neither_part : all_ms (written (Some 10000) None None) ≡ 10000 ∷ 0 ∷ 0 ∷ []
neither_part = refl

pipeline_not_written : all_ms (written None (Some 8000) None) ≡ 3600000 ∷ 8000 ∷ 0 ∷ []
pipeline_not_written = refl

pipeline_without_end : all_ms (written (Some 0) (Some 8000) None) ≡ 0 ∷ 8000 ∷ 0 ∷ []
pipeline_without_end = refl

-- TaskRuns.

abbrev task_start : List Item → TaskRunObject → Start
task_start earlier r = (resolved_task_run earlier r).start

task_run_starts : task_start (a_task (codes "t") plain ∷ []) (task_run (Named (codes "t")) []) ≡ Ready
task_run_starts = refl

task_run_without_task : task_start [] (task_run (Named (codes "t")) []) ≡ Unstartable (codes "CouldntGetTask")
task_run_without_task = refl

task_run_lacks : task_start (a_task (codes "t") wants_x ∷ []) (task_run (Named (codes "t")) []) ≡ Unstartable (codes "ParameterMissing")
task_run_lacks = refl

task_run_mismatch : task_start [] (task_run (Inlined wants_x) (list_param (codes "x") ∷ [])) ≡ Unstartable (codes "ParameterTypeMismatch")
task_run_mismatch = refl

task_run_misused : task_start [] (task_run (Inlined (spec (wanted (codes "x") string None ∷ []) (codes "$(params.x)"))) (list_param (codes "x") ∷ [])) ≡ Unstartable (codes "ParameterMissing")
task_run_misused = refl

task_run_unbound : task_start [] (task_run (Inlined (with_space plain)) []) ≡ Unstartable (codes "InvalidWorkspaceBindings")
task_run_unbound = refl

mismatch_before_workspace : task_start [] (task_run (Inlined (with_space wants_x)) (list_param (codes "x") ∷ [])) ≡ Unstartable (codes "ParameterTypeMismatch")
mismatch_before_workspace = refl

-- its steps see what is given and not declared; it keeps its body, or an empty one
sees_what_is_given : task_start [] (task_run (Inlined (spec [] (codes "$(params.x)"))) (text_param (codes "x") (codes "1") ∷ [])) ≡ Ready
sees_what_is_given = refl

keeps_its_body : (resolved_task_run [] (task_run (Inlined (with_space plain)) [])).body ≡ record { spec = with_space plain; task_name = codes "r"; outer = []; fallback = []; bound = [] }
keeps_its_body = refl

empty_body : (resolved_task_run [] (task_run (Named (codes "t")) [])).body.task_name ≡ codes "t"
empty_body = refl
