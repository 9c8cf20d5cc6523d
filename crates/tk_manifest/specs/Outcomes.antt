-- The recorded stops and children of the run that `decide` judges.
use Rattle.std.specs.Prelude.{ℕ, suc, ◌^◌, Bool, true, false, not, ◌&&◌, ◌||◌, nat_lt, List, [], ◌∷◌, Option, Some, None, codes, bytes_eq, if◌then◌else◌, unwrap_or}
use Rattle.std.specs.Option.{option_or}
use Rattle.serde_json.specs.Data.{Data}
use Rattle.tk_types.specs.declared.value.Param.{Param}
use Rattle.tk_types.specs.declared.value.Value.{Value}
use Rattle.tk_types.specs.declared.run.Outcome.{Outcome}
use Rattle.tk_types.specs.declared.run.Outcome.TheVariants.{Succeeded, Failed, TimedOut, Cancelled, Lost}
use Rattle.tk_types.specs.declared.run.Stop.{Stop}
use Rattle.tk_types.specs.declared.run.Stop.TheVariants.{Failure}
use Rattle.tk_types.specs.declared.object.OutcomesChild.{OutcomesChild}
use Rattle.tk_types.specs.declared.object.OutcomesSpec.{OutcomesSpec}
use Rattle.tk_types.specs.Behaviour.{level_of, stop_named}
use Rattle.tk_types.specs.Fault.{bad_choice}
use Rattle.tk_types.specs.Place.{Place, ◌▸◌, ◌#◌}
use Rattle.tk_types.specs.First.{Finding, first_of, refused_if}
use Rattle.tk_fields.specs.Check.{Check, in_order, no_array, text, text_that, one_of, number_below, each, each_member}
use Rattle.tk_fields.specs.Get.{at, field, has, elements, list_at, members_of, number_of, number_at, text_of, text_at}
use Rattle.tk_fields.specs.Shape.{object_by, optional, required, used_fields}
use Rattle.tk_manifest.specs.declared.outcomes.OutcomeWord.{OutcomeWord}
use Rattle.tk_manifest.specs.declared.outcomes.OutcomeWord.TheVariants.{Succeeded as SucceededWord, Failed as FailedWord, TimedOut as TimedOutWord, Cancelled as CancelledWord, Lost as LostWord, Running as RunningWord}
use Rattle.tk_manifest.specs.Parameter.{rows, value, value_of}

-- a stop whose level is above the one before
abbrev pub is_above : ℕ → Option Stop → Bool
is_above level None = false
is_above level (Some stop) = nat_lt level (level_of stop)

unfoldable pub stop_above : ℕ → Check
stop_above level = text_that (λ name. is_above level (stop_named name)) bad_choice

unfoldable pub stop_of : Data → Stop
stop_of d = unwrap_or (stop_named (text_of d)) Failure

-- stops whose levels rise from a level on
abbrev pub first_low : Place → ℕ → ℕ → List Data → Finding
first_low place level index [] = None
first_low place level index (d ∷ ds) = option_or (stop_above level (place # index) d) (first_low place (level_of (stop_of d)) (suc index) ds)

unfoldable pub rising_stops : Check
rising_stops place d = first_of (no_array place d ∷ first_low place 0 0 (elements d) ∷ [])

-- the outcome of a child
abbrev pub outcome_words : List (List ℕ)
outcome_words = codes "Succeeded" ∷ codes "Failed" ∷ codes "TimedOut" ∷ codes "Cancelled" ∷ codes "Lost" ∷ codes "Running" ∷ []

abbrev pub outcome_named : List ℕ → OutcomeWord
outcome_named word =
    if bytes_eq word (codes "Succeeded") then SucceededWord
    else if bytes_eq word (codes "Failed") then FailedWord
    else if bytes_eq word (codes "TimedOut") then TimedOutWord
    else if bytes_eq word (codes "Cancelled") then CancelledWord
    else if bytes_eq word (codes "Lost") then LostWord
    else RunningWord

-- no outcome is that of a child that runs
unfoldable pub outcome_with : OutcomeWord → Option ℕ → List Param → Option Outcome
outcome_with SucceededWord exit results = Some (Succeeded results)
outcome_with FailedWord exit results = Some (Failed exit results)
outcome_with TimedOutWord exit results = Some TimedOut
outcome_with CancelledWord exit results = Some Cancelled
outcome_with LostWord exit results = Some Lost
outcome_with RunningWord exit results = None

-- an exit is for a failure, and results for a success or a failure
abbrev pub is_failed : OutcomeWord → Bool
is_failed FailedWord = true
is_failed _ = false

abbrev pub is_succeeded : OutcomeWord → Bool
is_succeeded SucceededWord = true
is_succeeded _ = false

unfoldable pub misplaced : OutcomeWord → Bool → Bool → Place → Finding
misplaced word has_exit has_results place =
    first_of
    (refused_if (has_exit && not (is_failed word)) (bad_choice (place ▸ codes "exit"))
    ∷ refused_if (has_results && not (is_succeeded word || is_failed word)) (bad_choice (place ▸ codes "results"))
    ∷ [])

unfoldable pub child_keys : Check
child_keys = object_by (rows (codes "task" ∷ codes "index" ∷ codes "outcome" ∷ codes "exit" ∷ codes "results" ∷ []) [] [])

unfoldable pub child_front : Check
child_front =
    used_fields
    (required (codes "task") text ∷ required (codes "index") (number_below (2 ^ 32)) ∷ required (codes "outcome") (one_of outcome_words) ∷ [])

unfoldable pub child_back : Check
child_back = used_fields (optional (codes "exit") (number_below (2 ^ 8)) ∷ optional (codes "results") (each_member value) ∷ [])

abbrev pub word_of : Data → OutcomeWord
word_of d = outcome_named (text_at (codes "outcome") d)

abbrev pub fits_outcome : Check
fits_outcome place d = misplaced (word_of d) (has (codes "exit") d) (has (codes "results") d) place

unfoldable pub child : Check
child = in_order (child_keys ∷ child_front ∷ child_back ∷ fits_outcome ∷ [])

abbrev pub param_named : List ℕ → Value → Param
param_named name value = record { name = name; value = value }

abbrev pub results_of : Data → List Param
results_of d = members_of param_named value_of (at (codes "results") d)

abbrev pub exit_of : Data → Option ℕ
exit_of d = field number_of (codes "exit") d

unfoldable pub child_of : Data → OutcomesChild
child_of d =
    record { task = text_at (codes "task") d; index = number_at (codes "index") d; outcome = outcome_with (word_of d) (exit_of d) (results_of d) }

-- the outcomes of a run
unfoldable pub outcomes_keys : Check
outcomes_keys = object_by (rows (codes "stops" ∷ codes "children" ∷ []) [] [])

unfoldable pub outcomes_fields : Check
outcomes_fields = used_fields (optional (codes "stops") rising_stops ∷ optional (codes "children") (each child) ∷ [])

unfoldable pub outcomes : Check
outcomes = in_order (outcomes_keys ∷ outcomes_fields ∷ [])

unfoldable pub outcomes_of : Data → OutcomesSpec
outcomes_of d = record { stops = list_at stop_of (codes "stops") d; children = list_at child_of (codes "children") d }
