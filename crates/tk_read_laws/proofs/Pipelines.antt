-- The tasks of a pipeline that is read have labels as names, matrices with an entry, and timeouts of at most a year.
use Rattle.std.proofs.Common.{◌≡◌, ℕ, ◌≤◌, true, List, Option, Some, None, refl}
use Rattle.std.specs.Prelude.{codes}
use Rattle.std.specs.Option.{ForSome}
use Rattle.std.proofs.lemmas.List.Elements.{All-append}
use Rattle.serde_json.specs.Data.{Data}
use Rattle.tk_types.specs.declared.object.PipelineSpec.{PipelineSpec}
use Rattle.tk_types.specs.Fault.{bad_name}
use Rattle.tk_types.specs.Place.{Place, ◌▸◌}
use Rattle.tk_names.specs.Rules.{is_dns_label}
use Rattle.tk_time.specs.Duration.{longest_duration}
use Rattle.tk_fields.specs.Check.{some_of}
use Rattle.tk_fields.specs.Get.{at, field, list_at, text_at, text_of}
use Rattle.tk_manifest.specs.Pipeline.{empty_matrix, matrix, matrix_of, millis_of, pipeline_spec, pipeline_spec_fields, pipeline_spec_of, pipeline_task, pipeline_task_keys, pipeline_task_of, task_front, task_inputs}
use Rattle.tk_manifest.specs.Task.{task_source_of}
use Rattle.tk_manifest.specs.Run.{named_or_inlined, pipeline_source, pipeline_source_of}
use Rattle.tk_read_laws.specs.Read.{IsReadMatrix, IsReadPipeline, IsReadPipelineSource, IsReadPipelineTask, IsReadSource}
use Rattle.tk_read_laws.proofs.Durations.{duration_is_short}
use Rattle.tk_read_laws.proofs.Fields.{Holds, each_of, named_at, optional_at, optional_list, required_at, some_each}
use Rattle.tk_read_laws.proofs.Nothing.{first_none, not_refused, rest_none}
use Rattle.tk_read_laws.proofs.Tasks.{task_source_read}

pub millis_short : (d : Data) → millis_of d ≤ longest_duration
unfolding millis_of
millis_short d = duration_is_short (text_of d)

matrix_read : Holds matrix matrix_of IsReadMatrix
unfolding matrix empty_matrix
matrix_read place d e = not_refused _ _ (first_none _ _ (rest_none _ _ (rest_none _ _ e)))

-- tasks
front_label : (place : Place) (d : Data) → task_front place d ≡ None → is_dns_label (text_at (codes "name") d) ≡ true
unfolding task_front
front_label place d e = named_at is_dns_label bad_name (codes "name") place d (first_none _ _ e)

front_source : Holds task_front task_source_of IsReadSource
unfolding task_front
front_source place d e = task_source_read place d (first_none _ _ (rest_none _ _ e))

inputs_matrix : (place : Place) (d : Data) → task_inputs place d ≡ None → ForSome (field matrix_of (codes "matrix") d) IsReadMatrix
unfolding task_inputs
inputs_matrix place d e = optional_at IsReadMatrix matrix_of (codes "matrix") matrix matrix_read place d (first_none _ _ (rest_none _ _ e))

pipeline_task_read : Holds pipeline_task pipeline_task_of IsReadPipelineTask
unfolding pipeline_task pipeline_task_of
pipeline_task_read place d e =
    let rest = rest_none (pipeline_task_keys place d) _ e in
    let front : task_front place d ≡ None = first_none _ _ rest in
    let inputs : task_inputs place d ≡ None = first_none _ _ (rest_none (task_front place d) _ rest) in
    record {
      label = front_label place d front;
      source = front_source place d front;
      matrix = inputs_matrix place d inputs;
      timeout = millis_short (at (codes "timeout") d);
    }

-- pipelines
pub pipeline_read : Holds pipeline_spec pipeline_spec_of IsReadPipeline
unfolding pipeline_spec pipeline_spec_fields pipeline_spec_of
pipeline_read place d e =
    let fields = first_none _ _ (rest_none _ _ e) in
    let tasks = required_at (codes "tasks") (some_of pipeline_task) place d (first_none _ _ (rest_none _ _ fields)) in
    All-append IsReadPipelineTask (list_at pipeline_task_of (codes "tasks") d) (list_at pipeline_task_of (codes "finally") d)
    (each_of IsReadPipelineTask pipeline_task_of pipeline_task pipeline_task_read (place ▸ codes "tasks") (at (codes "tasks") d)
    (some_each pipeline_task (place ▸ codes "tasks") (at (codes "tasks") d) tasks))
    (optional_list IsReadPipelineTask pipeline_task_of (codes "finally") pipeline_task pipeline_task_read place d (first_none _ _ (rest_none _ _ (rest_none _ _ fields))))

source_by : (name : List ℕ) (found : Option PipelineSpec) → ForSome found IsReadPipeline → IsReadPipelineSource (named_or_inlined name found)
source_by name None read = tt
source_by name (Some spec) read = read spec refl

pub pipeline_source_read : Holds pipeline_source pipeline_source_of IsReadPipelineSource
unfolding pipeline_source pipeline_source_of
pipeline_source_read place d e =
    source_by _ _ (optional_at IsReadPipeline pipeline_spec_of (codes "pipelineSpec") pipeline_spec pipeline_read place d (first_none _ _ (rest_none _ _ e)))
