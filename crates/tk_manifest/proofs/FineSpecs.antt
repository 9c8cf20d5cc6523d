-- The specs of Tasks, Pipelines and runs have faults of reading alone.
use Rattle.std.proofs.Common.{ℕ, Bool, refl, List, [], ◌∷◌}
use Rattle.std.specs.Prelude.{codes}
use Rattle.serde_json.specs.Data.{Data, null, boolean, number, string, array, object}
use Rattle.tk_names.specs.Rules.{is_dns_label, is_env_name, is_object_name, is_param_name, is_pipeline_result_name, is_sub_path, is_task_result_name}
use Rattle.tk_types.specs.declared.task.Matrix.{Matrix}
use Rattle.tk_types.specs.Fault.{bad_choice, missing_field, unsupported}
use Rattle.tk_types.specs.Place.{Place, ◌▸◌}
use Rattle.tk_fields.specs.Get.{number_at}
use Rattle.tk_fields.specs.Shape.{optional}
use Rattle.tk_manifest.specs.Parameter.{default_field, dotted, named, named_value, object_name_without_dot, param, param_keys, param_spec, param_spec_keys, pipeline_result, pipeline_result_keys, properties, property, task_result, task_result_keys, type_name, type_words, typed_name, value}
use Rattle.tk_manifest.specs.Pipeline.{duration, empty_matrix, ignored_with_retries, include_entry, include_keys, include_params, matrix, matrix_fields, matrix_keys, matrix_of, operator_words, pipeline_spec, pipeline_spec_fields, pipeline_spec_keys, pipeline_task, pipeline_task_keys, task_front, task_inputs, task_limits, task_name, task_options, task_rules, task_spaces, when, when_fields, when_keys}
use Rattle.tk_manifest.specs.Run.{bindings, cancelled_words, given_params, pipeline_ref, pipeline_ref_keys, pipeline_ref_name, pipeline_source, run_keys, run_options, run_spec, run_status, run_timeouts, status_words, task_run_keys, task_run_limits, task_run_options, task_run_spec, timeouts, timeouts_fields, timeouts_keys}
use Rattle.tk_manifest.specs.Task.{continues, env, env_fields, env_keys, on_error, on_error_words, runs_something, script_or_command, step, step_command, step_keys, step_surroundings, task_ref, task_ref_fields, task_ref_keys, task_source, task_spec, task_spec_fields, task_spec_keys}
use Rattle.tk_manifest.specs.Workspace.{binding, binding_keys, claim, claim_keys, claim_name, folder_and_claim, folder_or_claim, pipeline_space, pipeline_space_keys, space_fields, space_name, space_use, space_use_keys, space_use_names, sub_path, task_space, task_space_keys}
use Rattle.tk_manifest.proofs.Fine.{Fine, OnlyFine, fine-two, fine-if, fine-or, only-each, only-each_member, only-field, only-just_one, only-no_object, only-number_below, only-object_by, only-one_of, only-some_of, only-text, only-text_that, only-truth, only-used_fields}

pub only-named : (rule : List ℕ → Bool) → OnlyFine (named rule)
only-named rule = only-text_that _ _ (λ place. (refl, refl))

-- values and parameters
pub only-value : OnlyFine value
unfolding value
only-value place null = (refl, refl)
only-value place (boolean b) = (refl, refl)
only-value place (number n) = (refl, refl)
only-value place (string s) = only-text place (string s)
only-value place (array ds) = only-each _ only-text place (array ds)
only-value place (object ms) = only-each_member _ only-text place (object ms)

only-named_value : (rule : List ℕ → Bool) → OnlyFine (named_value rule 8)
unfolding named_value
only-named_value rule place d = fine-or _ _ (only-field _ (only-named rule) place d) (fine-or _ _ (only-field _ only-value place d) tt)

only-type_name : OnlyFine type_name
only-type_name = only-one_of type_words

only-param_keys : OnlyFine param_keys
unfolding param_keys
only-param_keys = only-object_by _

only-param : OnlyFine param
only-param place d = fine-or _ _ (only-param_keys place d) (fine-or _ _ (only-named_value is_param_name place d) tt)

only-property : OnlyFine property
unfolding property
only-property place d = fine-or _ _ (only-object_by _ place d) (fine-or _ _ (only-used_fields (optional (codes "type") type_name ∷ []) (only-type_name, tt) place d) tt)

only-properties : OnlyFine properties
unfolding properties
only-properties = only-field _ (only-each_member _ only-property)

only-typed_name : (rule : List ℕ → Bool) → OnlyFine (typed_name rule 8)
unfolding typed_name
only-typed_name rule place d = fine-or _ _ (only-field _ (only-named rule) place d) (fine-or _ _ (only-field _ only-type_name place d) tt)

only-object_name_without_dot : OnlyFine object_name_without_dot
unfolding dotted
only-object_name_without_dot place d = fine-if _ _ (refl, refl)

only-param_spec_keys : OnlyFine param_spec_keys
unfolding param_spec_keys
only-param_spec_keys = only-object_by _

only-default_field : OnlyFine default_field
only-default_field = only-field _ only-value

only-param_spec : OnlyFine param_spec
unfolding param_spec
only-param_spec place d = fine-or _ _ (only-param_spec_keys place d) (fine-or _ _ (only-typed_name is_param_name place d) (fine-or _ _ (only-default_field place d) (fine-or _ _ (only-properties place d) (fine-or _ _ (only-object_name_without_dot place d) tt))))

only-task_result_keys : OnlyFine task_result_keys
unfolding task_result_keys
only-task_result_keys = only-object_by _

only-task_result : OnlyFine task_result
unfolding task_result
only-task_result place d = fine-or _ _ (only-task_result_keys place d) (fine-or _ _ (only-typed_name is_task_result_name place d) (fine-or _ _ (only-properties place d) tt))

only-pipeline_result_keys : OnlyFine pipeline_result_keys
unfolding pipeline_result_keys
only-pipeline_result_keys = only-object_by _

only-pipeline_result : OnlyFine pipeline_result
only-pipeline_result place d = fine-or _ _ (only-pipeline_result_keys place d) (fine-or _ _ (only-named_value is_pipeline_result_name place d) tt)

-- workspaces
only-task_space_keys : OnlyFine task_space_keys
unfolding task_space_keys
only-task_space_keys = only-object_by _

only-pipeline_space_keys : OnlyFine pipeline_space_keys
unfolding pipeline_space_keys
only-pipeline_space_keys = only-object_by _

only-space_fields : OnlyFine space_fields
unfolding space_fields
only-space_fields place d = fine-or _ _ (only-field _ (only-named is_dns_label) place d) (fine-or _ _ (only-field _ only-truth place d) tt)

only-task_space : OnlyFine task_space
unfolding task_space
only-task_space place d = fine-or _ _ (only-task_space_keys place d) (fine-or _ _ (only-space_fields place d) tt)

only-pipeline_space : OnlyFine pipeline_space
unfolding pipeline_space
only-pipeline_space place d = fine-or _ _ (only-pipeline_space_keys place d) (fine-or _ _ (only-space_fields place d) tt)

only-sub_path : OnlyFine sub_path
unfolding sub_path
only-sub_path = only-field _ (only-text_that _ _ (λ place. (refl, refl)))

only-space_use_keys : OnlyFine space_use_keys
unfolding space_use_keys
only-space_use_keys = only-object_by _

only-space_use_names : OnlyFine space_use_names
unfolding space_use_names
only-space_use_names place d = fine-or _ _ (only-field _ (only-named is_dns_label) place d) (fine-or _ _ (only-field _ only-text place d) tt)

only-space_use : OnlyFine space_use
unfolding space_use
only-space_use place d = fine-or _ _ (only-space_use_keys place d) (fine-or _ _ (only-space_use_names place d) (fine-or _ _ (only-sub_path place d) tt))

only-claim_keys : OnlyFine claim_keys
unfolding claim_keys
only-claim_keys = only-object_by _

only-claim_name : OnlyFine claim_name
unfolding claim_name
only-claim_name = only-field _ (only-named is_object_name)

only-claim : OnlyFine claim
unfolding claim
only-claim place d = fine-or _ _ (only-claim_keys place d) (fine-or _ _ (only-claim_name place d) tt)

only-folder_and_claim : OnlyFine folder_and_claim
unfolding folder_and_claim
only-folder_and_claim place d = fine-or _ _ (only-field _ only-no_object place d) (fine-or _ _ (only-field _ only-claim place d) tt)

only-folder_or_claim : OnlyFine folder_or_claim
unfolding folder_or_claim
only-folder_or_claim place d = fine-two _ _ (missing_field (place ▸ codes "emptyDir")) (bad_choice (place ▸ codes "persistentVolumeClaim")) (refl, refl) (refl, refl)

only-binding_keys : OnlyFine binding_keys
unfolding binding_keys
only-binding_keys = only-object_by _

only-space_name : OnlyFine space_name
only-space_name = only-field _ (only-named is_dns_label)

only-binding : OnlyFine binding
unfolding binding
only-binding place d = fine-or _ _ (only-binding_keys place d) (fine-or _ _ (only-space_name place d) (fine-or _ _ (only-sub_path place d) (fine-or _ _ (only-folder_and_claim place d) (fine-or _ _ (only-folder_or_claim place d) tt))))

-- steps and Tasks
only-env_keys : OnlyFine env_keys
unfolding env_keys
only-env_keys = only-object_by _

only-env_fields : OnlyFine env_fields
unfolding env_fields
only-env_fields place d = fine-or _ _ (only-field _ (only-text_that _ _ (λ place. (refl, refl))) place d) (fine-or _ _ (only-field _ only-text place d) tt)

only-env : OnlyFine env
unfolding env
only-env place d = fine-or _ _ (only-env_keys place d) (fine-or _ _ (only-env_fields place d) tt)

only-on_error : OnlyFine on_error
unfolding on_error
only-on_error = only-field _ (only-one_of on_error_words)

only-runs_something : OnlyFine runs_something
unfolding script_or_command
only-runs_something place d = fine-two _ _ (bad_choice (place ▸ codes "script")) (unsupported place) (refl, refl) (refl, refl)

only-step_keys : OnlyFine step_keys
unfolding step_keys
only-step_keys = only-object_by _

only-step_command : OnlyFine step_command
unfolding step_command
only-step_command place d = fine-or _ _ (only-field _ (only-named is_dns_label) place d) (fine-or _ _ (only-field _ (only-each _ only-text) place d) (fine-or _ _ (only-field _ (only-each _ only-text) place d) (fine-or _ _ (only-field _ only-text place d) tt)))

only-step_surroundings : OnlyFine step_surroundings
unfolding step_surroundings
only-step_surroundings place d = fine-or _ _ (only-field _ (only-each _ only-env) place d) (fine-or _ _ (only-field _ only-text place d) tt)

only-step : OnlyFine step
unfolding step
only-step place d = fine-or _ _ (only-step_keys place d) (fine-or _ _ (only-step_command place d) (fine-or _ _ (only-step_surroundings place d) (fine-or _ _ (only-on_error place d) (fine-or _ _ (only-runs_something place d) tt))))

only-task_spec_keys : OnlyFine task_spec_keys
unfolding task_spec_keys
only-task_spec_keys = only-object_by _

only-task_spec_fields : OnlyFine task_spec_fields
unfolding task_spec_fields
only-task_spec_fields place d = fine-or _ _ (only-field _ (only-each _ only-param_spec) place d) (fine-or _ _ (only-field _ (only-some_of _ only-step) place d) (fine-or _ _ (only-field _ (only-each _ only-task_result) place d) (fine-or _ _ (only-field _ (only-each _ only-task_space) place d) tt)))

pub only-task_spec : OnlyFine task_spec
unfolding task_spec
only-task_spec place d = fine-or _ _ (only-task_spec_keys place d) (fine-or _ _ (only-task_spec_fields place d) tt)

only-task_ref_keys : OnlyFine task_ref_keys
unfolding task_ref_keys
only-task_ref_keys = only-object_by _

only-task_ref_fields : OnlyFine task_ref_fields
unfolding task_ref_fields
only-task_ref_fields place d = fine-or _ _ (only-field _ only-text place d) (fine-or _ _ (only-field _ (only-text_that _ _ (λ place. (refl, refl))) place d) (fine-or _ _ (only-field _ (only-text_that _ _ (λ place. (refl, refl))) place d) tt))

only-task_ref : OnlyFine task_ref
unfolding task_ref
only-task_ref place d = fine-or _ _ (only-task_ref_keys place d) (fine-or _ _ (only-task_ref_fields place d) tt)

only-task_source : OnlyFine task_source
unfolding task_source
only-task_source place d = fine-or _ _ (only-field _ only-task_ref place d) (fine-or _ _ (only-field _ only-task_spec place d) tt)

-- pipelines
only-duration : OnlyFine duration
unfolding duration
only-duration = only-text_that _ _ (λ place. (refl, refl))

only-when_keys : OnlyFine when_keys
unfolding when_keys
only-when_keys = only-object_by _

only-when_fields : OnlyFine when_fields
unfolding when_fields
only-when_fields place d = fine-or _ _ (only-field _ only-text place d) (fine-or _ _ (only-field _ (only-one_of operator_words) place d) (fine-or _ _ (only-field _ (only-each _ only-text) place d) tt))

only-when : OnlyFine when
unfolding when
only-when place d = fine-or _ _ (only-when_keys place d) (fine-or _ _ (only-when_fields place d) tt)

only-include_keys : OnlyFine include_keys
unfolding include_keys
only-include_keys = only-object_by _

only-include_params : OnlyFine include_params
unfolding include_params
only-include_params = only-field _ (only-each _ only-param)

only-include_entry : OnlyFine include_entry
unfolding include_entry
only-include_entry place d = fine-or _ _ (only-include_keys place d) (fine-or _ _ (only-include_params place d) tt)

only-matrix_keys : OnlyFine matrix_keys
unfolding matrix_keys
only-matrix_keys = only-object_by _

only-matrix_fields : OnlyFine matrix_fields
unfolding matrix_fields
only-matrix_fields place d = fine-or _ _ (only-field _ (only-each _ only-param) place d) (fine-or _ _ (only-field _ (only-each _ only-include_entry) place d) tt)

fine-empty_matrix : (m : Matrix) (place : Place) → Fine (empty_matrix m place)
unfolding empty_matrix
fine-empty_matrix m place = fine-if _ _ (refl, refl)

only-matrix : OnlyFine matrix
unfolding matrix
only-matrix place d = fine-or _ _ (only-matrix_keys place d) (fine-or _ _ (only-matrix_fields place d) (fine-or _ _ (fine-empty_matrix (matrix_of d) place) tt))

only-pipeline_task_keys : OnlyFine pipeline_task_keys
unfolding pipeline_task_keys
only-pipeline_task_keys = only-object_by _

only-task_name : OnlyFine task_name
only-task_name = only-field _ (only-named is_dns_label)

only-task_front : OnlyFine task_front
unfolding task_front
only-task_front place d = fine-or _ _ (only-task_name place d) (fine-or _ _ (only-task_source place d) tt)

only-task_inputs : OnlyFine task_inputs
unfolding task_inputs
only-task_inputs place d = fine-or _ _ (only-field _ (only-each _ only-param) place d) (fine-or _ _ (only-field _ only-matrix place d) (fine-or _ _ (only-field _ (only-each _ only-text) place d) (fine-or _ _ (only-field _ (only-each _ only-when) place d) tt)))

only-task_limits : OnlyFine task_limits
unfolding task_limits
only-task_limits place d = fine-or _ _ (only-field _ (only-number_below _) place d) (fine-or _ _ (only-field _ only-duration place d) tt)

only-task_spaces : OnlyFine task_spaces
unfolding task_spaces
only-task_spaces = only-field _ (only-each _ only-space_use)

only-task_options : OnlyFine task_options
unfolding task_options
only-task_options place d = fine-or _ _ (only-task_limits place d) (fine-or _ _ (only-on_error place d) (fine-or _ _ (only-task_spaces place d) tt))

fine-ignored : (ignore_failure : Bool) (retries : ℕ) (place : Place) → Fine (ignored_with_retries ignore_failure retries place)
unfolding ignored_with_retries
fine-ignored ignore_failure retries place = fine-if _ _ (refl, refl)

only-task_rules : OnlyFine task_rules
unfolding task_rules
only-task_rules place d = fine-or _ _ (only-just_one _ _ place d) (fine-or _ _ (fine-ignored (continues d) (number_at (codes "retries") d) place) tt)

only-pipeline_task : OnlyFine pipeline_task
unfolding pipeline_task
only-pipeline_task place d = fine-or _ _ (only-pipeline_task_keys place d) (fine-or _ _ (only-task_front place d) (fine-or _ _ (only-task_inputs place d) (fine-or _ _ (only-task_options place d) (fine-or _ _ (only-task_rules place d) tt))))

only-pipeline_spec_keys : OnlyFine pipeline_spec_keys
unfolding pipeline_spec_keys
only-pipeline_spec_keys = only-object_by _

only-pipeline_spec_fields : OnlyFine pipeline_spec_fields
unfolding pipeline_spec_fields
only-pipeline_spec_fields place d = fine-or _ _ (only-field _ (only-each _ only-param_spec) place d) (fine-or _ _ (only-field _ (only-some_of _ only-pipeline_task) place d) (fine-or _ _ (only-field _ (only-each _ only-pipeline_task) place d) (fine-or _ _ (only-field _ (only-each _ only-pipeline_result) place d) (fine-or _ _ (only-field _ (only-each _ only-pipeline_space) place d) tt))))

pub only-pipeline_spec : OnlyFine pipeline_spec
unfolding pipeline_spec
only-pipeline_spec place d = fine-or _ _ (only-pipeline_spec_keys place d) (fine-or _ _ (only-pipeline_spec_fields place d) tt)

-- runs
only-pipeline_ref_keys : OnlyFine pipeline_ref_keys
unfolding pipeline_ref_keys
only-pipeline_ref_keys = only-object_by _

only-pipeline_ref_name : OnlyFine pipeline_ref_name
unfolding pipeline_ref_name
only-pipeline_ref_name = only-field _ only-text

only-pipeline_ref : OnlyFine pipeline_ref
unfolding pipeline_ref
only-pipeline_ref place d = fine-or _ _ (only-pipeline_ref_keys place d) (fine-or _ _ (only-pipeline_ref_name place d) tt)

only-pipeline_source : OnlyFine pipeline_source
unfolding pipeline_source
only-pipeline_source place d = fine-or _ _ (only-field _ only-pipeline_ref place d) (fine-or _ _ (only-field _ only-pipeline_spec place d) tt)

only-run_status : OnlyFine run_status
unfolding run_status
only-run_status = only-field _ (only-one_of status_words)

only-timeouts_keys : OnlyFine timeouts_keys
unfolding timeouts_keys
only-timeouts_keys = only-object_by _

only-timeouts_fields : OnlyFine timeouts_fields
unfolding timeouts_fields
only-timeouts_fields place d = fine-or _ _ (only-field _ only-duration place d) (fine-or _ _ (only-field _ only-duration place d) (fine-or _ _ (only-field _ only-duration place d) tt))

only-timeouts : OnlyFine timeouts
unfolding timeouts
only-timeouts place d = fine-or _ _ (only-timeouts_keys place d) (fine-or _ _ (only-timeouts_fields place d) tt)

only-run_timeouts : OnlyFine run_timeouts
unfolding run_timeouts
only-run_timeouts = only-field _ only-timeouts

only-bindings : OnlyFine bindings
unfolding bindings
only-bindings = only-field _ (only-each _ only-binding)

only-given_params : OnlyFine given_params
unfolding given_params
only-given_params = only-field _ (only-each _ only-param)

only-run_keys : OnlyFine run_keys
unfolding run_keys
only-run_keys = only-object_by _

only-run_options : OnlyFine run_options
unfolding run_options
only-run_options place d = fine-or _ _ (only-run_status place d) (fine-or _ _ (only-run_timeouts place d) (fine-or _ _ (only-bindings place d) tt))

pub only-run_spec : OnlyFine run_spec
unfolding run_spec
only-run_spec place d = fine-or _ _ (only-run_keys place d) (fine-or _ _ (only-pipeline_source place d) (fine-or _ _ (only-given_params place d) (fine-or _ _ (only-run_options place d) (fine-or _ _ (only-just_one _ _ place d) tt))))

only-task_run_keys : OnlyFine task_run_keys
unfolding task_run_keys
only-task_run_keys = only-object_by _

only-task_run_limits : OnlyFine task_run_limits
unfolding task_run_limits
only-task_run_limits place d = fine-or _ _ (only-field _ (only-one_of cancelled_words) place d) (fine-or _ _ (only-field _ only-duration place d) (fine-or _ _ (only-field _ (only-number_below _) place d) tt))

only-task_run_options : OnlyFine task_run_options
unfolding task_run_options
only-task_run_options place d = fine-or _ _ (only-task_run_limits place d) (fine-or _ _ (only-bindings place d) tt)

pub only-task_run_spec : OnlyFine task_run_spec
unfolding task_run_spec
only-task_run_spec place d = fine-or _ _ (only-task_run_keys place d) (fine-or _ _ (only-task_source place d) (fine-or _ _ (only-given_params place d) (fine-or _ _ (only-task_run_options place d) (fine-or _ _ (only-just_one _ _ place d) tt))))
