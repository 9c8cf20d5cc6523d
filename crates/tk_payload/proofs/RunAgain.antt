-- What is written of a part of an entry is read again: Start, RunSpec, TaskRunSpec, Outcome, Stop, Asked.
use Rattle.std.proofs.Common.{◌≡◌, List, [], ◌∷◌, Some, codes, refl}
use Rattle.json.specs.Token.{Token}
use Rattle.json.specs.Json.{string}
use Rattle.tk_payload.specs.Forms.{count, optional, listed, fields, param_json, start_json, run_spec_json, task_run_spec_json, outcome_json, stop_json, asked_json}
use Rattle.tk_payload.specs.Fits.{Plain, RunSpecFits, TaskRunSpecFits, OutcomeFits}
use Rattle.tk_payload.specs.Steps.{word_at}
use Rattle.tk_payload.specs.Reading.{start_at, run_spec_at, task_run_spec_at, outcome_at, stop_at, asked_at, start_under, outcome_under, outcome_failed_at}
use Rattle.tk_payload.proofs.Again.{Again, IsNeverNull, field, key_known, before, is_plain, all_plain, text_again, count_again_8, count_again_32, count_again_64, optional_again, listed_again, count_is_some}
use Rattle.tk_payload.proofs.ValueAgain.{param_again}
use Rattle.tk_payload.proofs.TaskAgain.{pipeline_task_again, task_body_again}
use Rattle.tk_types.specs.declared.run.Start.{Start}
use Rattle.tk_types.specs.declared.run.Start.TheVariants as starts
use Rattle.tk_types.specs.declared.run.RunSpec.{RunSpec}
use Rattle.tk_types.specs.declared.object.TaskRunSpec.{TaskRunSpec}
use Rattle.tk_types.specs.declared.run.Outcome.{Outcome}
use Rattle.tk_types.specs.declared.run.Outcome.TheVariants as outcomes
use Rattle.tk_types.specs.declared.run.Stop.{Stop}
use Rattle.tk_types.specs.declared.run.Stop.TheVariants as stops_of
use Rattle.tk_types.specs.declared.object.Asked.{Asked}
use Rattle.tk_types.specs.declared.object.Asked.TheVariants as asks

start_read : (x : Start) (rest : List Token) → Plain x → start_at (before (start_json x) rest) ≡ Some (x, rest)
unfolding start_at word_at start_under
start_read starts.Ready rest fits = refl
start_read (starts.Unstartable x) rest fits = rw (key_known (codes "Unstartable") (string x) _, text_again.again x _ tt, start_at, start_under) refl

pub start_again : Again Plain start_json start_at
start_again = record { again = start_read }

run_spec_read : (x : RunSpec) (rest : List Token) → RunSpecFits x → run_spec_at (before (run_spec_json x) rest) ≡ Some (x, rest)
unfolding run_spec_at
run_spec_read x rest fits =
    rw (
      field (listed_again task_body_again) (codes "bodies") x.bodies _ (all_plain is_plain x.bodies),
      field (listed_again pipeline_task_again) (codes "finally") x.finally _ fits.1,
      field count_again_64 (codes "finally_ms") x.finally_ms _ fits.4,
      field text_again (codes "name") x.name _ tt,
      field (listed_again param_again) (codes "params") x.params _ (all_plain is_plain x.params),
      field text_again (codes "pipeline") x.pipeline _ tt,
      field count_again_64 (codes "pipeline_ms") x.pipeline_ms _ fits.2,
      field (listed_again param_again) (codes "results") x.results _ (all_plain is_plain x.results),
      field start_again (codes "start") x.start _ tt,
      field (listed_again pipeline_task_again) (codes "tasks") x.tasks _ fits.0,
      field count_again_64 (codes "tasks_ms") x.tasks_ms _ fits.3,
      run_spec_at,
    ) refl

pub run_spec_again : Again RunSpecFits run_spec_json run_spec_at
run_spec_again = record { again = run_spec_read }

task_run_spec_read : (x : TaskRunSpec) (rest : List Token) → TaskRunSpecFits x → task_run_spec_at (before (task_run_spec_json x) rest) ≡ Some (x, rest)
unfolding task_run_spec_at
task_run_spec_read x rest fits =
    rw (
      field task_body_again (codes "body") x.body _ tt,
      field text_again (codes "name") x.name _ tt,
      field (listed_again param_again) (codes "params") x.params _ (all_plain is_plain x.params),
      field count_again_32 (codes "retries") x.retries _ fits.0,
      field start_again (codes "start") x.start _ tt,
      field count_again_64 (codes "timeout") x.timeout _ fits.1,
      task_run_spec_at,
    ) refl

pub task_run_spec_again : Again TaskRunSpecFits task_run_spec_json task_run_spec_at
task_run_spec_again = record { again = task_run_spec_read }

outcome_read : (x : Outcome) (rest : List Token) → OutcomeFits x → outcome_at (before (outcome_json x) rest) ≡ Some (x, rest)
unfolding outcome_at word_at outcome_under outcome_failed_at
outcome_read (outcomes.Succeeded x) rest fits = rw (key_known (codes "Succeeded") (listed param_json x) _, (listed_again param_again).again x _ (all_plain is_plain x), outcome_at, outcome_under) refl
outcome_read (outcomes.Failed exit results) rest fits =
    rw (
      key_known (codes "Failed") (fields ((codes "exit", optional count exit) ∷ (codes "results", listed param_json results) ∷ [])) _,
      field (optional_again count_again_8 count_is_some) (codes "exit") exit _ fits,
      field (listed_again param_again) (codes "results") results _ (all_plain is_plain results),
      outcome_at,
      outcome_under,
      outcome_failed_at,
    ) refl
outcome_read outcomes.TimedOut rest fits = refl
outcome_read outcomes.Cancelled rest fits = refl
outcome_read outcomes.Lost rest fits = refl

pub outcome_again : Again OutcomeFits outcome_json outcome_at
outcome_again = record { again = outcome_read }

stop_read : (x : Stop) (rest : List Token) → Plain x → stop_at (before (stop_json x) rest) ≡ Some (x, rest)
unfolding stop_at word_at
stop_read stops_of.Failure rest fits = refl
stop_read stops_of.StoppedRunFinally rest fits = refl
stop_read stops_of.CancelledRunFinally rest fits = refl
stop_read stops_of.TasksTimeout rest fits = refl
stop_read stops_of.FinallyTimeout rest fits = refl
stop_read stops_of.Cancelled rest fits = refl
stop_read stops_of.PipelineTimeout rest fits = refl

pub stop_again : Again Plain stop_json stop_at
stop_again = record { again = stop_read }

asked_read : (x : Asked) (rest : List Token) → Plain x → asked_at (before (asked_json x) rest) ≡ Some (x, rest)
unfolding asked_at word_at
asked_read asks.Start rest fits = refl
asked_read asks.StoppedRunFinally rest fits = refl
asked_read asks.CancelledRunFinally rest fits = refl
asked_read asks.Cancelled rest fits = refl
asked_read asks.TaskRunCancelled rest fits = refl

pub asked_again : Again Plain asked_json asked_at
asked_again = record { again = asked_read }

pub asked_is_some : IsNeverNull asked_json
asked_is_some x = refl
