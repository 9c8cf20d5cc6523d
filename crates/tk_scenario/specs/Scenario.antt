-- Scenarios.
use Rattle.std.specs.Prelude.{None, ℕ, suc, ◌^◌, Bool, ◌&&◌, ◌==◌, nat_le, List, [], ◌∷◌, ◌++◌, map, codes, bytes_eq, is_some, unwrap_or}
use Rattle.std.specs.List.{list_any}
use Rattle.std.specs.Option.{option_or}
use Rattle.serde_json.specs.Data.{Data}
use Rattle.tk_types.specs.declared.scenario.Event.{Event}
use Rattle.tk_types.specs.declared.scenario.Event.TheVariants.{Round}
use Rattle.tk_types.specs.declared.scenario.Scenario.{Scenario}
use Rattle.tk_types.specs.declared.scenario.Scripted.{Scripted}
use Rattle.tk_types.specs.Fault.{bad_choice}
use Rattle.tk_types.specs.First.{Finding, first_of, refused_if}
use Rattle.tk_types.specs.Place.{Place, ◌#◌}
use Rattle.tk_fields.specs.Check.{Check, in_order, no_array, text, text_that, number_below, number_that, each, each_member}
use Rattle.tk_fields.specs.Get.{at, elements, field, list_at, number_at, number_of, pairs_of, text_at, text_of}
use Rattle.tk_fields.specs.declared.table.Role.TheVariants.{Used}
use Rattle.tk_fields.specs.Shape.{required, optional, fields, object_by, object_of, used_fields, with_role}
use Rattle.tk_scenario.specs.declared.actors.Counts.{Counts}
use Rattle.tk_scenario.specs.Event.{event_of, reading_after}

-- a number of controllers or of kubelets: 1 to 8, and 1 where it isn't written
abbrev pub actors : Check
actors = number_that (λ n. nat_le 1 n && nat_le n 8) bad_choice

abbrev pub count_at : List ℕ → Data → ℕ
count_at key d = unwrap_or (field number_of key d) 1

abbrev pub counts_of : Data → Counts
counts_of d = record { controllers = count_at (codes "controllers") d; kubelets = count_at (codes "kubelets") d }

-- the outcome of an attempt: the exits of its steps, and its result files by their names
abbrev pub outcome : Check
outcome =
    object_of
    (fields
    (required (codes "taskRun") text
    ∷ required (codes "attempt") (number_below (2 ^ 32))
    ∷ optional (codes "exits") (each (number_below (2 ^ 8)))
    ∷ optional (codes "results") (each_member text)
    ∷ []))

abbrev pub outcome_of : Data → Scripted
outcome_of d =
    record {
      task_run = text_at (codes "taskRun") d;
      attempt = number_at (codes "attempt") d;
      exits = list_at number_of (codes "exits") d;
      files = pairs_of (at (codes "results") d);
    }

-- two outcomes are of one attempt
abbrev pub is_same_attempt : Data → Data → Bool
is_same_attempt a b = bytes_eq (text_at (codes "taskRun") a) (text_at (codes "taskRun") b) && (number_at (codes "attempt") a == number_at (codes "attempt") b)

-- an outcome of an attempt that has none among those before
unfoldable pub new_outcome : List Data → Check
new_outcome before place d = first_of (outcome place d ∷ refused_if (list_any (is_same_attempt d) before) (bad_choice place) ∷ [])

abbrev pub first_bad_outcome : Place → ℕ → List Data → List Data → Finding
first_bad_outcome place index before [] = None
first_bad_outcome place index before (d ∷ ds) = option_or (new_outcome before (place # index) d) (first_bad_outcome place (suc index) (before ++ d ∷ []) ds)

-- outcomes in order, each checked against those before
unfoldable pub outcomes : Check
outcomes place d = first_of (no_array place d ∷ first_bad_outcome place 0 [] (elements d) ∷ [])

-- a text that tells an event while the clock has a reading; `round` stands for one that tells none
unfoldable pub event : Counts → ℕ → Check
event counts reading = text_that (λ t. is_some (event_of counts reading t)) bad_choice

unfoldable pub event_told : Counts → ℕ → Data → Event
event_told counts reading d = unwrap_or (event_of counts reading (text_of d)) Round

-- events in order, each at the reading that the clock has after those before
abbrev pub first_bad_event : Counts → Place → ℕ → ℕ → List Data → Finding
first_bad_event counts place index reading [] = None
first_bad_event counts place index reading (d ∷ ds) =
    option_or (event counts reading (place # index) d) (first_bad_event counts place (suc index) (reading_after reading (event_told counts reading d)) ds)

unfoldable pub events : Counts → Check
events counts place d = first_of (no_array place d ∷ first_bad_event counts place 0 0 (elements d) ∷ [])

abbrev pub events_from : Counts → ℕ → List Data → List Event
events_from counts reading [] = []
events_from counts reading (d ∷ ds) = event_told counts reading d ∷ events_from counts (reading_after reading (event_told counts reading d)) ds

-- The parts of a scenario.

-- the keys that it may have
unfoldable pub keys : Check
keys = object_by (map (with_role Used) (codes "controllers" ∷ codes "kubelets" ∷ codes "outcomes" ∷ codes "events" ∷ []))

-- how many actors there are
unfoldable pub counts : Check
counts = used_fields (optional (codes "controllers") actors ∷ optional (codes "kubelets") actors ∷ [])

-- the outcomes of attempts, none where they aren't written
unfoldable pub written_outcomes : Check
written_outcomes = used_fields (optional (codes "outcomes") outcomes ∷ [])

unfoldable pub outcomes_of : Data → List Scripted
outcomes_of d = list_at outcome_of (codes "outcomes") d

-- the events, none where they aren't written
unfoldable pub written_events : Counts → Check
written_events counts = used_fields (optional (codes "events") (events counts) ∷ [])

unfoldable pub events_of : Counts → Data → List Event
events_of counts d = events_from counts 0 (elements (at (codes "events") d))

-- a scenario: the keys first, and then the fields in this order, each whole before the next
abbrev pub scenario : Check
scenario place d = in_order (keys ∷ counts ∷ written_outcomes ∷ written_events (counts_of d) ∷ []) place d

abbrev pub scenario_of : Data → Scenario
scenario_of d =
    record {
      controllers = (counts_of d).controllers;
      kubelets = (counts_of d).kubelets;
      outcomes = outcomes_of d;
      events = events_of (counts_of d) d;
    }
