-- The kinds of objects: their names, their versions, and the specs and objects of each.
use Rattle.std.specs.Prelude.{ℕ, if◌then◌else◌, List, Option, Some, None, codes, bytes_eq}
use Rattle.serde_json.specs.Data.{Data}
use Rattle.tk_types.specs.declared.object.ItemObject.{ItemObject}
use Rattle.tk_types.specs.declared.object.ItemObject.TheVariants.{Task as task_object, Pipeline as pipeline_object, TaskRun as task_run_object, PipelineRun as run_object, Outcomes as outcomes_object, Scenario as scenario_object}
use Rattle.tk_fields.specs.Check.{Check}
use Rattle.tk_scenario.specs.Scenario.{scenario, scenario_of}
use Rattle.tk_manifest.specs.declared.kinds.KindSet.{KindSet}
use Rattle.tk_manifest.specs.declared.kinds.KindSet.TheVariants.{Four, WithOutcomes, WithScenario}
use Rattle.tk_manifest.specs.declared.kinds.ObjectKind.{ObjectKind}
use Rattle.tk_manifest.specs.declared.kinds.ObjectKind.TheVariants.{Task, TaskRun, Pipeline, PipelineRun, Outcomes, Scenario}
use Rattle.tk_manifest.specs.Outcomes.{outcomes, outcomes_of}
use Rattle.tk_manifest.specs.Pipeline.{pipeline_spec, pipeline_spec_of}
use Rattle.tk_manifest.specs.Run.{run_spec, run_of, task_run_spec, task_run_of}
use Rattle.tk_manifest.specs.Task.{task_spec, task_spec_of}

-- the kinds of this program's own, of which an input may have one
abbrev pub own_kind : KindSet → List ℕ → Option ObjectKind
own_kind Four name = None
own_kind WithOutcomes name = if bytes_eq name (codes "Outcomes") then Some Outcomes else None
own_kind WithScenario name = if bytes_eq name (codes "Scenario") then Some Scenario else None

-- the kinds that an input may have, by their names
abbrev pub kind_named : KindSet → List ℕ → Option ObjectKind
kind_named kinds name =
    if bytes_eq name (codes "Task") then Some Task
    else if bytes_eq name (codes "TaskRun") then Some TaskRun
    else if bytes_eq name (codes "Pipeline") then Some Pipeline
    else if bytes_eq name (codes "PipelineRun") then Some PipelineRun
    else own_kind kinds name

-- the version of each kind
abbrev pub tekton : List ℕ
tekton = codes "tekton.dev/v1"

abbrev pub local : List ℕ
local = codes "tkn.local/v1"

abbrev pub version_of : ObjectKind → List ℕ
version_of Task = tekton
version_of TaskRun = tekton
version_of Pipeline = tekton
version_of PipelineRun = tekton
version_of Outcomes = local
version_of Scenario = local

-- the check of each kind's spec, and the object that a name and a spec make
unfoldable pub spec : ObjectKind → Check
spec Task = task_spec
spec TaskRun = task_run_spec
spec Pipeline = pipeline_spec
spec PipelineRun = run_spec
spec Outcomes = outcomes
spec Scenario = scenario

unfoldable pub object_made : ObjectKind → List ℕ → Data → ItemObject
object_made Task name d = task_object name (task_spec_of d)
object_made TaskRun name d = task_run_object (task_run_of name d)
object_made Pipeline name d = pipeline_object name (pipeline_spec_of d)
object_made PipelineRun name d = run_object (run_of name d)
object_made Outcomes name d = outcomes_object name (outcomes_of d)
object_made Scenario name d = scenario_object name (scenario_of d)
