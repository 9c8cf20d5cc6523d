-- What holds of runs and TaskRuns that are read.
use Rattle.std.proofs.Common.{◌≡◌, ℕ, ◌≤◌, Bool, true, false, List, Option, Some, None, option_map, refl, subst, arith}
use Rattle.std.specs.Prelude.{codes, bytes_eq, if◌then◌else◌}
use Rattle.std.specs.Option.{ForSome, option_map_or}
use Rattle.std.proofs.lemmas.Option.{none-some, same_Some}
use Rattle.serde_json.specs.Data.{Data}
use Rattle.serde_json.specs.Find.{get}
use Rattle.tk_types.specs.declared.object.Asked.{Asked}
use Rattle.tk_types.specs.declared.object.Asked.TheVariants.{StoppedRunFinally, CancelledRunFinally, Cancelled}
use Rattle.tk_types.specs.declared.value.Param.{Param}
use Rattle.tk_types.specs.Place.{Place}
use Rattle.tk_names.specs.Rules.{is_object_name, is_param_name}
use Rattle.tk_time.specs.Duration.{longest_duration}
use Rattle.tk_fields.specs.Get.{field, text_at}
use Rattle.tk_manifest.specs.Parameter.{param, param_of}
use Rattle.tk_manifest.specs.Pipeline.{millis_of}
use Rattle.tk_manifest.specs.Run.{asked_named, given_params, one_hour, run_of, run_spec, run_status_of, task_run_of, task_run_spec, timeouts_of}
use Rattle.tk_read_laws.specs.Read.{AreShort, IsReadRun, IsReadTaskRun, IsShort, is_stop}
use Rattle.tk_read_laws.proofs.Fields.{optional_list}
use Rattle.tk_read_laws.proofs.Nothing.{first_none, rest_none}
use Rattle.tk_read_laws.proofs.Pipelines.{millis_short, pipeline_source_read}
use Rattle.tk_read_laws.proofs.Tasks.{param_named, task_source_read}

abbrev Stops : Asked → Type 0
Stops status = is_stop status ≡ true

-- a run is asked for a stop
stops_by : (first second third : Bool) → ForSome (if first then Some StoppedRunFinally else if second then Some CancelledRunFinally else if third then Some Cancelled else None) Stops
stops_by true second third = λ status is. subst Stops (same_Some StoppedRunFinally status is) refl
stops_by false true third = λ status is. subst Stops (same_Some CancelledRunFinally status is) refl
stops_by false false true = λ status is. subst Stops (same_Some Cancelled status is) refl
stops_by false false false = λ status is. absurd (none-some status is)

asked_stops : (word : List ℕ) → ForSome (asked_named word) Stops
asked_stops word = stops_by (bytes_eq word (codes "StoppedRunFinally")) (bytes_eq word (codes "CancelledRunFinally")) (bytes_eq word (codes "Cancelled"))

-- timeouts
short_by : (found : Option Data) → ForSome (option_map millis_of found) IsShort
short_by None = λ millis is. absurd (none-some millis is)
short_by (Some d) = λ millis is. subst IsShort (same_Some (millis_of d) millis is) (millis_short d)

short_at : (key : List ℕ) (d : Data) → ForSome (field millis_of key d) IsShort
short_at key d = short_by (get key d)

timeouts_short : (d : Data) → AreShort (timeouts_of d)
unfolding timeouts_of
timeouts_short d = record { pipeline = short_at (codes "pipeline") d; tasks = short_at (codes "tasks") d; finally = short_at (codes "finally") d }

timeout_by : (found : Option Data) → option_map_or millis_of found one_hour ≤ longest_duration
timeout_by None = omega arith
timeout_by (Some d) = millis_short d

-- runs
pub run_read : (name : List ℕ) → is_object_name name ≡ true → (place : Place) (d : Data) → run_spec place d ≡ None → IsReadRun (run_of name d)
unfolding run_spec run_of run_status_of
run_read name named place d e =
    record {
      name = named;
      source = pipeline_source_read place d (first_none _ _ (rest_none _ _ e));
      asked = asked_stops (text_at (codes "status") d);
      timeouts = timeouts_short _;
    }

pub task_run_read : (name : List ℕ) → is_object_name name ≡ true → (place : Place) (d : Data) → task_run_spec place d ≡ None → IsReadTaskRun (task_run_of name d)
unfolding task_run_spec task_run_of given_params
task_run_read name named place d e =
    let rest = rest_none _ _ e in
    record {
      name = named;
      source = task_source_read place d (first_none _ _ rest);
      params = optional_list (λ (p : Param). is_param_name p.name ≡ true) param_of (codes "params") param param_named place d (first_none _ _ (rest_none _ _ rest));
      timeout = timeout_by (get (codes "timeout") d);
    }
