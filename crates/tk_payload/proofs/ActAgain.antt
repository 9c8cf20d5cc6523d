-- What is written of a part of an entry is read again: Skip, Admission, Closing, Act.
use Rattle.std.proofs.Common.{◌≡◌, List, [], ◌∷◌, Some, codes, refl}
use Rattle.json.specs.Token.{Token}
use Rattle.json.specs.Json.{string, boolean}
use Rattle.tk_payload.specs.Forms.{count, optional, listed, fields, param_json, run_spec_json, task_run_spec_json, outcome_json, stop_json, asked_json, condition_json, binding_json, plan_json, skip_json, admission_json, closing_json, act_json}
use Rattle.tk_payload.specs.Fits.{SkipFits, AdmissionFits, ClosingFits, ActFits}
use Rattle.tk_payload.specs.Steps.{word_at}
use Rattle.tk_payload.specs.Reading.{skip_at, admission_at, closing_at, act_at, admission_under, closing_under, act_under, closing_run_at, act_admit_at, act_ask_at, act_start_at, act_schedule_at, act_make_task_run_at, act_halt_at, act_cancel_task_run_at, act_open_attempt_at, act_make_pod_at, act_claim_pod_at, act_end_pod_at, act_close_at}
use Rattle.tk_payload.proofs.Again.{Again, field, key_known, before, is_plain, optional_plain, all_plain, text_again, boolean_again, count_again_8, count_again_32, optional_again, listed_again}
use Rattle.tk_payload.proofs.ValueAgain.{param_again}
use Rattle.tk_payload.proofs.RunAgain.{run_spec_again, task_run_spec_again, outcome_again, stop_again, asked_again, asked_is_some}
use Rattle.tk_payload.proofs.VerdictAgain.{skip_reason_again, condition_again, binding_again}
use Rattle.tk_payload.proofs.PlanAgain.{plan_again}
use Rattle.tk_journal.specs.declared.act.Skip.{Skip}
use Rattle.tk_journal.specs.declared.act.Admission.{Admission}
use Rattle.tk_journal.specs.declared.act.Admission.TheVariants as admissions
use Rattle.tk_journal.specs.declared.act.Closing.{Closing}
use Rattle.tk_journal.specs.declared.act.Closing.TheVariants as closings
use Rattle.tk_journal.specs.declared.act.Act.{Act}
use Rattle.tk_journal.specs.declared.act.Act.TheVariants as acts

skip_read : (x : Skip) (rest : List Token) → SkipFits x → skip_at (before (skip_json x) rest) ≡ Some (x, rest)
unfolding skip_at
skip_read x rest fits =
    rw (
      field skip_reason_again (codes "reason") x.reason _ tt,
      field count_again_32 (codes "task") x.task _ fits,
      skip_at,
    ) refl

pub skip_again : Again SkipFits skip_json skip_at
skip_again = record { again = skip_read }

admission_read : (x : Admission) (rest : List Token) → AdmissionFits x → admission_at (before (admission_json x) rest) ≡ Some (x, rest)
unfolding admission_at admission_under
admission_read (admissions.Run x) rest fits = rw (key_known (codes "Run") (run_spec_json x) _, run_spec_again.again x _ fits, admission_at, admission_under) refl
admission_read (admissions.Task x) rest fits = rw (key_known (codes "Task") (task_run_spec_json x) _, task_run_spec_again.again x _ fits, admission_at, admission_under) refl

pub admission_again : Again AdmissionFits admission_json admission_at
admission_again = record { again = admission_read }

closing_read : (x : Closing) (rest : List Token) → ClosingFits x → closing_at (before (closing_json x) rest) ≡ Some (x, rest)
unfolding closing_at word_at closing_under closing_run_at
closing_read (closings.Attempt x) rest fits = rw (key_known (codes "Attempt") (outcome_json x) _, outcome_again.again x _ fits, closing_at, closing_under) refl
closing_read closings.TaskRun rest fits = refl
closing_read (closings.Run condition skipped results) rest fits =
    rw (
      key_known (codes "Run") (fields ((codes "condition", condition_json condition) ∷ (codes "results", listed param_json results) ∷ (codes "skipped", listed skip_json skipped) ∷ [])) _,
      field condition_again (codes "condition") condition _ tt,
      field (listed_again param_again) (codes "results") results _ (all_plain is_plain results),
      field (listed_again skip_again) (codes "skipped") skipped _ fits,
      closing_at,
      closing_under,
      closing_run_at,
    ) refl

pub closing_again : Again ClosingFits closing_json closing_at
closing_again = record { again = closing_read }

act_read : (x : Act) (rest : List Token) → ActFits x → act_at (before (act_json x) rest) ≡ Some (x, rest)
unfolding act_at act_under act_admit_at act_ask_at act_start_at act_schedule_at act_make_task_run_at act_halt_at act_cancel_task_run_at act_open_attempt_at act_make_pod_at act_claim_pod_at act_end_pod_at act_close_at
act_read (acts.Admit name spec pending asked root) rest fits =
    rw (
      key_known (codes "Admit") (fields ((codes "asked", optional asked_json asked) ∷ (codes "name", string name) ∷ (codes "pending", boolean pending) ∷ (codes "root", string root) ∷ (codes "spec", admission_json spec) ∷ [])) _,
      field (optional_again asked_again asked_is_some) (codes "asked") asked _ (optional_plain is_plain asked),
      field text_again (codes "name") name _ tt,
      field boolean_again (codes "pending") pending _ tt,
      field text_again (codes "root") root _ tt,
      field admission_again (codes "spec") spec _ fits,
      act_at,
      act_under,
      act_admit_at,
    ) refl
act_read (acts.Ask name status) rest fits =
    rw (
      key_known (codes "Ask") (fields ((codes "name", string name) ∷ (codes "status", asked_json status) ∷ [])) _,
      field text_again (codes "name") name _ tt,
      field asked_again (codes "status") status _ tt,
      act_at,
      act_under,
      act_ask_at,
    ) refl
act_read (acts.Start name) rest fits =
    rw (
      key_known (codes "Start") (fields ((codes "name", string name) ∷ [])) _,
      field text_again (codes "name") name _ tt,
      act_at,
      act_under,
      act_start_at,
    ) refl
act_read (acts.Schedule name task bindings) rest fits =
    rw (
      key_known (codes "Schedule") (fields ((codes "bindings", listed binding_json bindings) ∷ (codes "name", string name) ∷ (codes "task", count task) ∷ [])) _,
      field (listed_again binding_again) (codes "bindings") bindings _ (all_plain is_plain bindings),
      field text_again (codes "name") name _ tt,
      field count_again_32 (codes "task") task _ fits,
      act_at,
      act_under,
      act_schedule_at,
    ) refl
act_read (acts.MakeTaskRun name run task index mark) rest fits =
    rw (
      key_known (codes "MakeTaskRun") (fields ((codes "index", count index) ∷ (codes "mark", boolean mark) ∷ (codes "name", string name) ∷ (codes "run", string run) ∷ (codes "task", count task) ∷ [])) _,
      field count_again_32 (codes "index") index _ fits.1,
      field boolean_again (codes "mark") mark _ tt,
      field text_again (codes "name") name _ tt,
      field text_again (codes "run") run _ tt,
      field count_again_32 (codes "task") task _ fits.0,
      act_at,
      act_under,
      act_make_task_run_at,
    ) refl
act_read (acts.Halt name stop) rest fits =
    rw (
      key_known (codes "Halt") (fields ((codes "name", string name) ∷ (codes "stop", stop_json stop) ∷ [])) _,
      field text_again (codes "name") name _ tt,
      field stop_again (codes "stop") stop _ tt,
      act_at,
      act_under,
      act_halt_at,
    ) refl
act_read (acts.CancelTaskRun name) rest fits =
    rw (
      key_known (codes "CancelTaskRun") (fields ((codes "name", string name) ∷ [])) _,
      field text_again (codes "name") name _ tt,
      act_at,
      act_under,
      act_cancel_task_run_at,
    ) refl
act_read (acts.OpenAttempt name) rest fits =
    rw (
      key_known (codes "OpenAttempt") (fields ((codes "name", string name) ∷ [])) _,
      field text_again (codes "name") name _ tt,
      act_at,
      act_under,
      act_open_attempt_at,
    ) refl
act_read (acts.MakePod name task_run attempt plan mark) rest fits =
    rw (
      key_known (codes "MakePod") (fields ((codes "attempt", count attempt) ∷ (codes "mark", boolean mark) ∷ (codes "name", string name) ∷ (codes "plan", plan_json plan) ∷ (codes "task_run", string task_run) ∷ [])) _,
      field count_again_32 (codes "attempt") attempt _ fits.0,
      field boolean_again (codes "mark") mark _ tt,
      field text_again (codes "name") name _ tt,
      field plan_again (codes "plan") plan _ fits.1,
      field text_again (codes "task_run") task_run _ tt,
      act_at,
      act_under,
      act_make_pod_at,
    ) refl
act_read (acts.ClaimPod name) rest fits =
    rw (
      key_known (codes "ClaimPod") (fields ((codes "name", string name) ∷ [])) _,
      field text_again (codes "name") name _ tt,
      act_at,
      act_under,
      act_claim_pod_at,
    ) refl
act_read (acts.EndPod name exits outcome) rest fits =
    rw (
      key_known (codes "EndPod") (fields ((codes "exits", listed count exits) ∷ (codes "name", string name) ∷ (codes "outcome", outcome_json outcome) ∷ [])) _,
      field (listed_again count_again_8) (codes "exits") exits _ fits.0,
      field text_again (codes "name") name _ tt,
      field outcome_again (codes "outcome") outcome _ fits.1,
      act_at,
      act_under,
      act_end_pod_at,
    ) refl
act_read (acts.Close name closing) rest fits =
    rw (
      key_known (codes "Close") (fields ((codes "closing", closing_json closing) ∷ (codes "name", string name) ∷ [])) _,
      field closing_again (codes "closing") closing _ fits,
      field text_again (codes "name") name _ tt,
      act_at,
      act_under,
      act_close_at,
    ) refl

pub act_again : Again ActFits act_json act_at
act_again = record { again = act_read }
