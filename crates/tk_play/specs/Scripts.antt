-- What a host's scripts are to the machine.
use Rattle.std.specs.Prelude.{ℕ, List, map, take, option_map, bytes_eq, Option}
use Rattle.std.specs.Map.{lookup}
use Rattle.tk_types.specs.declared.value.Param.{Param}
use Rattle.tk_types.specs.declared.value.ResultSpec.{ResultSpec}
use Rattle.tk_results.specs.declared.files.Fetched.{Fetched}
use Rattle.tk_script.specs.ScriptHost.{Scripts, play_of, results_for}
use Rattle.tk_steps.specs.Paths.{result_path}
use Rattle.tk_outcome.specs.Walked.{once_each, gathering}
use Rattle.tk_machine.specs.Hosts.{Script}

-- the scripted file of a pod's result, as far as it is fetched
abbrev pub scripted_file : Scripts → List ℕ → ResultSpec → Fetched
scripted_file scripts pod spec = record {
  name = spec.name;
  bytes = option_map (take 4097) (lookup (bytes_eq (result_path scripts.root pod spec.name)) (results_for scripts pod));
}

-- what the scripted files come to for these declared results, or None where they are refused
abbrev pub scripted_results : Scripts → List ℕ → List ResultSpec → Option (List Param)
scripted_results scripts pod declared = gathering (once_each declared) (map (scripted_file scripts pod) (once_each declared))

abbrev pub script_of : Scripts → Script
script_of scripts = record { exit = (play_of scripts).exit; gathered = scripted_results scripts }
