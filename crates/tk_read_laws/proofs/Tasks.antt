-- A Task that is read has a step, and its parameters have names.
use Rattle.std.proofs.Common.{◌≡◌, ℕ, true, List, Option, Some, None, refl}
use Rattle.std.specs.Prelude.{codes}
use Rattle.std.specs.Option.{ForSome}
use Rattle.tk_types.specs.declared.task.TaskSpec.{TaskSpec}
use Rattle.tk_types.specs.declared.value.Param.{Param}
use Rattle.tk_types.specs.declared.value.ParamSpec.{ParamSpec}
use Rattle.tk_types.specs.Place.{◌▸◌}
use Rattle.tk_names.specs.Rules.{is_param_name}
use Rattle.tk_fields.specs.Check.{some_of}
use Rattle.tk_fields.specs.Get.{at}
use Rattle.tk_manifest.specs.Parameter.{named_value, param, param_of, param_spec, param_spec_of, typed_name}
use Rattle.tk_manifest.specs.Task.{named_or_inlined, step, step_of, task_source, task_source_of, task_spec, task_spec_fields, task_spec_of}
use Rattle.tk_read_laws.specs.Read.{IsReadSource, IsReadTask}
use Rattle.tk_read_laws.proofs.Fields.{Holds, named_at, optional_at, optional_list, required_at, some_there}
use Rattle.tk_read_laws.proofs.Nothing.{first_none, rest_none}

-- parameters
param_spec_named : Holds param_spec param_spec_of (λ (p : ParamSpec). is_param_name p.name ≡ true)
unfolding param_spec param_spec_of typed_name
param_spec_named place d e = named_at is_param_name _ (codes "name") place d (first_none _ _ (first_none _ _ (rest_none _ _ e)))

pub param_named : Holds param param_of (λ (p : Param). is_param_name p.name ≡ true)
unfolding param_of named_value
param_named place d e = named_at is_param_name _ (codes "name") place d (first_none _ _ (first_none _ _ (rest_none _ _ e)))

-- Tasks
pub task_spec_read : Holds task_spec task_spec_of IsReadTask
unfolding task_spec task_spec_fields task_spec_of
task_spec_read place d e =
    let fields = first_none _ _ (rest_none _ _ e) in
    record {
      steps =
          some_there step_of step (place ▸ codes "steps") (at (codes "steps") d)
          (required_at (codes "steps") (some_of step) place d (first_none _ _ (rest_none _ _ fields)));
      params =
          optional_list (λ (p : ParamSpec). is_param_name p.name ≡ true) param_spec_of (codes "params") param_spec param_spec_named place d (first_none _ _ fields);
    }

source_by : (name : List ℕ) (found : Option TaskSpec) → ForSome found IsReadTask → IsReadSource (named_or_inlined name found)
source_by name None read = tt
source_by name (Some spec) read = read spec refl

pub task_source_read : Holds task_source task_source_of IsReadSource
unfolding task_source task_source_of
task_source_read place d e =
    source_by _ _ (optional_at IsReadTask task_spec_of (codes "taskSpec") task_spec task_spec_read place d (first_none _ _ (rest_none _ _ e)))
