-- No two entries of one list have one name.
use Rattle.std.specs.Prelude.{ℕ, List, [], ◌∷◌, ◌++◌, map, take, filter_map, Option, Some, None, codes}
use Rattle.std.specs.List.{enumerate_from}
use Rattle.tk_types.specs.declared.value.Pair.{Pair}
use Rattle.tk_types.specs.declared.value.Param.{Param}
use Rattle.tk_types.specs.declared.value.ParamSpec.{ParamSpec}
use Rattle.tk_types.specs.declared.value.ResultSpec.{ResultSpec}
use Rattle.tk_types.specs.declared.task.Matrix.{Matrix}
use Rattle.tk_types.specs.declared.task.PipelineTask.{PipelineTask}
use Rattle.tk_types.specs.declared.task.Space.{Space}
use Rattle.tk_types.specs.declared.task.SpaceSpec.{SpaceSpec}
use Rattle.tk_types.specs.declared.task.SpaceUse.{SpaceUse}
use Rattle.tk_types.specs.declared.task.Step.{Step}
use Rattle.tk_types.specs.declared.task.TaskSpec.{TaskSpec}
use Rattle.tk_types.specs.declared.object.ItemObject.{ItemObject}
use Rattle.tk_types.specs.declared.object.ItemObject.TheVariants.{TaskRun, PipelineRun}
use Rattle.tk_types.specs.declared.object.PipelineSpec.{PipelineSpec}
use Rattle.tk_types.specs.Fault.{duplicate}
use Rattle.tk_types.specs.Place.{◌▸◌, ◌#◌}
use Rattle.tk_types.specs.First.{first_of, first_in, first_if_there, refused_if}
use Rattle.tk_types.specs.Names.{is_in}
use Rattle.tk_validate.specs.Parts.{RuleOn, on_pipeline, on_task_spec, on_inlined}

-- the name is one of these
abbrev pub told_before : List (List ℕ) → RuleOn (List ℕ)
told_before names at name = refused_if (is_in names name) (duplicate at name)

-- the names that stand before an entry: some, and those of the entries before it
abbrev pub names_before : {X : Type 0} → List (List ℕ) → (X → Option (List ℕ)) → List X → ℕ → List (List ℕ)
names_before names name_of xs index = names ++ filter_map name_of (take index xs)

-- the first entry with a name that stands before it, or in which something is wrong
unfoldable pub differ_from : {X : Type 0} → List (List ℕ) → (X → Option (List ℕ)) → RuleOn X → RuleOn (List X)
differ_from {X} names name_of inside at xs =
    first_of (map (λ (e : ℕ × X). first_of (first_if_there (told_before (names_before names name_of xs e.0) (at # e.0)) (name_of e.1) ∷ inside (at # e.0) e.1 ∷ [])) (enumerate_from 0 xs))

-- entries that all have names, and in which nothing can be wrong
abbrev pub nothing_inside : {X : Type 0} → RuleOn X
nothing_inside at x = None

abbrev pub differ : {X : Type 0} → (X → List ℕ) → RuleOn (List X)
differ name_of at xs = differ_from [] (λ x. Some (name_of x)) nothing_inside at xs

abbrev pub params_differ : RuleOn (List Param)
params_differ at params = differ (λ (p : Param). p.name) (at ▸ codes "params") params

abbrev pub declared_differ : RuleOn (List ParamSpec)
declared_differ at params = differ (λ (p : ParamSpec). p.name) (at ▸ codes "params") params

abbrev pub spaces_differ : RuleOn (List SpaceSpec)
spaces_differ at spaces = differ (λ (s : SpaceSpec). s.name) (at ▸ codes "workspaces") spaces

abbrev pub uses_differ : RuleOn (List SpaceUse)
uses_differ at uses = differ (λ (s : SpaceUse). s.name) (at ▸ codes "workspaces") uses

abbrev pub bindings_differ : RuleOn (List Space)
bindings_differ at bindings = differ (λ (s : Space). s.name) (at ▸ codes "workspaces") bindings

-- the variables of a step
abbrev pub env_differs : RuleOn Step
env_differs at step = differ (λ (p : Pair). p.key) (at ▸ codes "env") step.env

abbrev pub steps_differ : RuleOn (List Step)
steps_differ at steps = differ_from [] (λ (s : Step). s.name) env_differs (at ▸ codes "steps") steps

abbrev pub results_differ : RuleOn (List ResultSpec)
results_differ at results = differ (λ (r : ResultSpec). r.name) (at ▸ codes "results") results

abbrev pub task_spec_names : RuleOn TaskSpec
task_spec_names at spec =
    first_of (declared_differ at spec.params ∷ steps_differ at spec.steps ∷ results_differ at spec.results ∷ spaces_differ at spec.spaces ∷ [])

abbrev pub matrix_names : RuleOn Matrix
matrix_names at matrix = first_of (params_differ at matrix.params ∷ first_in params_differ (at ▸ codes "include") matrix.include ∷ [])

abbrev pub task_names : RuleOn PipelineTask
task_names at task =
    first_of
    (on_inlined task_spec_names at task.source
    ∷ params_differ at task.params
    ∷ first_if_there (matrix_names (at ▸ codes "matrix")) task.matrix
    ∷ uses_differ at task.spaces
    ∷ [])

-- the tasks of `tasks` and of `finally` are one list
abbrev pub names_of : List PipelineTask → List (List ℕ)
names_of tasks = map (λ (t : PipelineTask). t.name) tasks

abbrev pub tasks_differ : List (List ℕ) → RuleOn (List PipelineTask)
tasks_differ names at tasks = differ_from names (λ (t : PipelineTask). Some t.name) task_names at tasks

unfoldable pub pipeline_names : RuleOn PipelineSpec
pipeline_names at pipeline =
    first_of
    (declared_differ at pipeline.params
    ∷ tasks_differ [] (at ▸ codes "tasks") pipeline.tasks
    ∷ tasks_differ (names_of pipeline.tasks) (at ▸ codes "finally") pipeline.finally
    ∷ differ (λ (p : Param). p.name) (at ▸ codes "results") pipeline.results
    ∷ spaces_differ at pipeline.spaces
    ∷ [])

-- what is given to a run
abbrev pub given_names : RuleOn ItemObject
given_names at (PipelineRun run) = first_of (params_differ at run.params ∷ bindings_differ at run.bindings ∷ [])
given_names at (TaskRun run) = first_of (params_differ at run.params ∷ bindings_differ at run.bindings ∷ [])
given_names at _ = None

abbrev pub duplicates : RuleOn ItemObject
duplicates at object = first_of (on_pipeline pipeline_names at object ∷ on_task_spec task_spec_names at object ∷ given_names at object ∷ [])
