-- What is wrong with an input is a fault of reading.
use Rattle.std.proofs.Common.{◌≡◌, ℕ, suc, Bool, true, false, Option, Some, None, refl, subst, List, [], ◌∷◌, ◌++◌}
use Rattle.std.specs.List.{list_any}
use Rattle.std.specs.Prelude.{if◌then◌else◌, ◌^◌, codes}
use Rattle.serde_json.specs.Data.{Data}
use Rattle.tk_types.specs.declared.fault.Fault.{Fault}
use Rattle.tk_types.specs.Fault.{bad_choice}
use Rattle.tk_types.specs.First.{refused_if}
use Rattle.tk_types.specs.Place.{Place, root, ◌▸◌, ◌#◌}
use Rattle.tk_names.specs.Rules.{is_name_prefix, is_object_name}
use Rattle.tk_fields.specs.Check.{anything, each, each_member, number_below, text}
use Rattle.tk_fields.specs.Get.{elements}
use Rattle.tk_fields.specs.Shape.{optional, required}
use Rattle.tk_scenario.specs.declared.actors.Counts.{Counts}
use Rattle.tk_scenario.specs.Event.{reading_after}
use Rattle.tk_scenario.specs.Scenario.{counts, counts_of, event, event_told, events, first_bad_event, first_bad_outcome, is_same_attempt, keys, new_outcome, outcome, outcomes as scripted, scenario, written_events, written_outcomes}
use Rattle.tk_manifest.specs.declared.item.Heading.{Heading}
use Rattle.tk_manifest.specs.declared.kinds.KindSet.{KindSet}
use Rattle.tk_manifest.specs.declared.kinds.ObjectKind.{ObjectKind}
use Rattle.tk_manifest.specs.declared.kinds.ObjectKind.TheVariants.{Task, TaskRun, Pipeline, PipelineRun, Outcomes, Scenario}
use Rattle.tk_types.specs.Json.{json_of}
use Rattle.tk_manifest.specs.Input.{body, is_list, json_fault, list, list_items, list_keys, reading_fault, whole}
use Rattle.tk_manifest.specs.Item.{accepted, has_version, headed, heading, heading_of, is_named, item, kind_stands, kind_text, kind_told, metadata, metadata_fields, object, object_keys, object_metadata, object_spec, version_stands, version_text}
use Rattle.tk_manifest.specs.Kind.{spec, version_of}
use Rattle.tk_manifest.specs.Laws.{IsReadingFault}
use Rattle.tk_types.specs.Behaviour.{level_of}
use Rattle.tk_manifest.specs.Outcomes.{child, child_back, child_front, child_keys, first_low, fits_outcome, misplaced, outcome_words, outcomes, outcomes_fields, outcomes_keys, rising_stops, stop_above, stop_of}
use Rattle.tk_manifest.proofs.Fine.{Fine, OnlyFine, fine-if, fine-or, fine-two, only-each, only-each_member, only-field, only-no_array, only-no_object, only-number_below, only-number_that, only-object_by, only-one_of, only-text, only-text_that, only-used_fields}
use Rattle.tk_manifest.proofs.FineSpecs.{only-named, only-pipeline_spec, only-run_spec, only-task_run_spec, only-task_spec, only-value}

-- a scenario
only-outcome : OnlyFine outcome
only-outcome place d =
    fine-or _ _ (only-object_by _ place d)
    (fine-or _ _
    (only-used_fields
    (required (codes "taskRun") text ∷ required (codes "attempt") (number_below (2 ^ 32)) ∷ optional (codes "exits") (each (number_below (2 ^ 8))) ∷ optional (codes "results") (each_member text) ∷ [])
    (only-text, (only-number_below (2 ^ 32), (only-each (number_below (2 ^ 8)) (only-number_below (2 ^ 8)), (only-each_member text only-text, tt))))
    place d)
    tt)

fine-same : (same : Bool) (place : Place) → Fine (refused_if same (bad_choice place))
fine-same same place = fine-if _ _ (refl, refl)

only-new_outcome : (before : List Data) → OnlyFine (new_outcome before)
unfolding new_outcome
only-new_outcome before place d = fine-or _ _ (only-outcome place d) (fine-or _ _ (fine-same (list_any (is_same_attempt d) before) place) tt)

fine-outcomes : (place : Place) (index : ℕ) (before ds : List Data) → Fine (first_bad_outcome place index before ds)
fine-outcomes place index before [] = tt
fine-outcomes place index before (d ∷ ds) = fine-or _ _ (only-new_outcome before (place # index) d) (fine-outcomes place (suc index) (before ++ d ∷ []) ds)

only-scripted : OnlyFine scripted
unfolding scripted
only-scripted place d = fine-or _ _ (only-no_array place d) (fine-or _ _ (fine-outcomes place 0 [] (elements d)) tt)

only-event : (counts : Counts) (reading : ℕ) → OnlyFine (event counts reading)
unfolding event
only-event counts reading = only-text_that _ _ (λ place. (refl, refl))

fine-events : (counts : Counts) (place : Place) (index reading : ℕ) (ds : List Data) → Fine (first_bad_event counts place index reading ds)
fine-events counts place index reading [] = tt
fine-events counts place index reading (d ∷ ds) =
    fine-or _ _ (only-event counts reading (place # index) d) (fine-events counts place (suc index) (reading_after reading (event_told counts reading d)) ds)

only-events : (counts : Counts) → OnlyFine (events counts)
unfolding events
only-events counts place d = fine-or _ _ (only-no_array place d) (fine-or _ _ (fine-events counts place 0 0 (elements d)) tt)

only-keys : OnlyFine keys
unfolding keys
only-keys = only-object_by _

only-counts : OnlyFine counts
unfolding counts
only-counts place d =
    fine-or _ _ (only-field _ (only-number_that _ _ (λ place. (refl, refl))) place d) (fine-or _ _ (only-field _ (only-number_that _ _ (λ place. (refl, refl))) place d) tt)

only-written_outcomes : OnlyFine written_outcomes
unfolding written_outcomes
only-written_outcomes place d = fine-or _ _ (only-field _ only-scripted place d) tt

only-written_events : (counts : Counts) → OnlyFine (written_events counts)
unfolding written_events
only-written_events counts place d = fine-or _ _ (only-field _ (only-events counts) place d) tt

only-scenario : OnlyFine scenario
only-scenario place d =
    fine-or _ _ (only-keys place d)
    (fine-or _ _ (only-counts place d) (fine-or _ _ (only-written_outcomes place d) (fine-or _ _ (only-written_events (counts_of d) place d) tt)))

-- the outcomes of a run
only-stop_above : (level : ℕ) → OnlyFine (stop_above level)
unfolding stop_above
only-stop_above level = only-text_that _ _ (λ place. (refl, refl))

fine-stops : (place : Place) (level index : ℕ) (ds : List Data) → Fine (first_low place level index ds)
fine-stops place level index [] = tt
fine-stops place level index (d ∷ ds) = fine-or _ _ (only-stop_above level (place # index) d) (fine-stops place (level_of (stop_of d)) (suc index) ds)

only-rising_stops : OnlyFine rising_stops
unfolding rising_stops
only-rising_stops place d = fine-or _ _ (only-no_array place d) (fine-or _ _ (fine-stops place 0 0 (elements d)) tt)

only-child_keys : OnlyFine child_keys
unfolding child_keys
only-child_keys = only-object_by _

only-child_front : OnlyFine child_front
unfolding child_front
only-child_front place d = fine-or _ _ (only-field _ only-text place d) (fine-or _ _ (only-field _ (only-number_below _) place d) (fine-or _ _ (only-field _ (only-one_of outcome_words) place d) tt))

only-child_back : OnlyFine child_back
unfolding child_back
only-child_back place d = fine-or _ _ (only-field _ (only-number_below _) place d) (fine-or _ _ (only-field _ (only-each_member _ only-value) place d) tt)

only-fits_outcome : OnlyFine fits_outcome
unfolding misplaced
only-fits_outcome place d = fine-two _ _ (bad_choice (place ▸ codes "exit")) (bad_choice (place ▸ codes "results")) (refl, refl) (refl, refl)

only-child : OnlyFine child
unfolding child
only-child place d = fine-or _ _ (only-child_keys place d) (fine-or _ _ (only-child_front place d) (fine-or _ _ (only-child_back place d) (fine-or _ _ (only-fits_outcome place d) tt)))

only-outcomes_keys : OnlyFine outcomes_keys
unfolding outcomes_keys
only-outcomes_keys = only-object_by _

only-outcomes_fields : OnlyFine outcomes_fields
unfolding outcomes_fields
only-outcomes_fields place d = fine-or _ _ (only-field _ only-rising_stops place d) (fine-or _ _ (only-field _ (only-each _ only-child) place d) tt)

only-outcomes : OnlyFine outcomes
unfolding outcomes
only-outcomes place d = fine-or _ _ (only-outcomes_keys place d) (fine-or _ _ (only-outcomes_fields place d) tt)

-- objects
only-spec : (kind : ObjectKind) → OnlyFine (spec kind)
unfolding spec
only-spec Task = only-task_spec
only-spec TaskRun = only-task_run_spec
only-spec Pipeline = only-pipeline_spec
only-spec PipelineRun = only-run_spec
only-spec Outcomes = only-outcomes
only-spec Scenario = only-scenario

only-anything : OnlyFine anything
only-anything place d = tt

only-version_stands : OnlyFine version_stands
unfolding version_stands
only-version_stands = only-field _ only-anything

only-kind_stands : OnlyFine kind_stands
unfolding kind_stands
only-kind_stands = only-field _ only-anything

only-version_text : OnlyFine version_text
unfolding version_text
only-version_text = only-field _ only-text

only-kind_text : OnlyFine kind_text
unfolding kind_text
only-kind_text = only-field _ only-text

only-heading : OnlyFine heading
unfolding heading
only-heading place d = fine-or _ _ (only-no_object place d) (fine-or _ _ (only-version_stands place d) (fine-or _ _ (only-kind_stands place d) (fine-or _ _ (only-version_text place d) (fine-or _ _ (only-kind_text place d) tt))))

only-metadata_fields : OnlyFine metadata_fields
unfolding metadata_fields
only-metadata_fields place d = fine-or _ _ (only-field _ (only-named is_object_name) place d) (fine-or _ _ (only-field _ (only-named is_name_prefix) place d) tt)

only-is_named : OnlyFine is_named
unfolding is_named
only-is_named place d = fine-if _ _ (refl, refl)

only-metadata : OnlyFine metadata
unfolding metadata
only-metadata place d = fine-or _ _ (only-no_object place d) (fine-or _ _ (only-metadata_fields place d) (fine-or _ _ (only-is_named place d) tt))

only-object_keys : OnlyFine object_keys
unfolding object_keys
only-object_keys = only-object_by _

only-object_metadata : OnlyFine object_metadata
unfolding object_metadata
only-object_metadata = only-field _ only-metadata

fine-has_version : (due version : List ℕ) (place : Place) → Fine (has_version due version place)
unfolding has_version
fine-has_version due version place = fine-if _ _ (refl, refl)

fine-accepted : (kinds : KindSet) (h : Heading) (place : Place) → Fine (accepted kinds h place)
unfolding accepted
fine-accepted kinds h place = fine-or _ _ (fine-if _ _ (refl, refl)) (fine-or _ _ (fine-has_version (version_of (kind_told kinds h.kind)) h.version place) tt)

only-object_spec : (kind : ObjectKind) → OnlyFine (object_spec kind)
unfolding object_spec
only-object_spec kind = only-field _ (only-spec kind)

only-object : (kind : ObjectKind) → OnlyFine (object kind)
unfolding object
only-object kind place d = fine-or _ _ (only-object_keys place d) (fine-or _ _ (only-object_metadata place d) (fine-or _ _ (only-object_spec kind place d) tt))

only-headed : (kinds : KindSet) (h : Heading) → OnlyFine (headed kinds h)
unfolding headed
only-headed kinds h place d = fine-or _ _ (fine-accepted kinds h place) (fine-or _ _ (only-object (kind_told kinds h.kind) place d) tt)

only-item : (kinds : KindSet) → OnlyFine (item kinds)
unfolding item
only-item kinds place d = fine-or _ _ (only-heading place d) (fine-or _ _ (only-headed kinds (heading_of d) place d) tt)

-- the whole input
only-list_keys : OnlyFine list_keys
unfolding list_keys
only-list_keys = only-object_by _

only-list_items : (kinds : KindSet) → OnlyFine (list_items kinds)
unfolding list_items
only-list_items kinds = only-field _ (only-each _ (only-item kinds))

only-list : (kinds : KindSet) (h : Heading) → OnlyFine (list kinds h)
unfolding list
only-list kinds h place d =
    fine-or _ _ (fine-has_version (codes "v1") h.version place) (fine-or _ _ (only-list_keys place d) (fine-or _ _ (only-list_items kinds place d) tt))

fine-either : (test : Bool) (kinds : KindSet) (h : Heading) (place : Place) (d : Data) → Fine (if test then list kinds h place d else headed kinds h place d)
fine-either true kinds h place d = only-list kinds h place d
fine-either false kinds h place d = only-headed kinds h place d

only-body : (kinds : KindSet) (h : Heading) → OnlyFine (body kinds h)
unfolding body
only-body kinds h place d = fine-either (is_list h) kinds h place d

only-whole : (kinds : KindSet) → OnlyFine (whole kinds)
unfolding whole
only-whole kinds place d = fine-or _ _ (only-heading place d) (fine-or _ _ (only-body kinds (heading_of d) place d) tt)

fine-json : (kinds : KindSet) (found : Option Data) → Fine (json_fault kinds found)
fine-json kinds None = (refl, refl)
fine-json kinds (Some d) = only-whole kinds root d

fine-reading : (kinds : KindSet) (bytes : List ℕ) → Fine (reading_fault kinds bytes)
fine-reading kinds bytes = fine-or _ _ (fine-if _ _ (refl, refl)) (fine-or _ _ (fine-json kinds (json_of bytes)) tt)

pub reading_fault-IsReadingFault : (kinds : KindSet) (bytes : List ℕ) (fault : Fault) → reading_fault kinds bytes ≡ Some fault → IsReadingFault fault
reading_fault-IsReadingFault kinds bytes fault e = subst Fine e (fine-reading kinds bytes)
