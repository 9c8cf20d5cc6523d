-- The run, the outcomes and the scenario of which a command speaks.
use Rattle.std.specs.Prelude.{ℕ, Bool, true, false, ◌+◌, ◌&&◌, ◌==◌, List, [], ◌∷◌, filter, filter_map, length, Option, Some, None, codes, bytes_eq, option_map, option_and_then, slice_get, is_none}
use Rattle.std.specs.List.{list_any}
use Rattle.std.specs.Option.{option_or}
use Rattle.tk_types.specs.declared.task.PipelineTask.{PipelineTask}
use Rattle.tk_types.specs.declared.run.Child.{Child}
use Rattle.tk_types.specs.declared.run.Facts.{Facts}
use Rattle.tk_types.specs.declared.run.RunSpec.{RunSpec}
use Rattle.tk_types.specs.declared.object.Item.{Item}
use Rattle.tk_types.specs.declared.object.ItemObject.{ItemObject}
use Rattle.tk_types.specs.declared.object.ItemObject.TheVariants.{Outcomes, Scenario}
use Rattle.tk_types.specs.declared.object.OutcomesChild.{OutcomesChild}
use Rattle.tk_types.specs.declared.object.OutcomesSpec.{OutcomesSpec}
use Rattle.tk_types.specs.declared.scenario.Scenario.{Scenario as ScenarioSpec}
use Rattle.tk_types.specs.Fault.{duplicate, missing_field, unknown_task}
use Rattle.tk_types.specs.Place.{Place, root, ◌▸◌}
use Rattle.tk_types.specs.Lists.{is_empty}
use Rattle.tk_types.specs.First.{Finding, first_of, first_if_there, first_in, refused_if}
use Rattle.tk_graph.specs.Index.{places_of_name}
use Rattle.tk_manifest.specs.declared.kinds.KindSet.{KindSet}
use Rattle.tk_manifest.specs.declared.kinds.KindSet.TheVariants.{Four, WithOutcomes, WithScenario}
use Rattle.tk_journal.specs.declared.act.Admission.{Admission}
use Rattle.tk_journal.specs.declared.act.Admission.TheVariants.{Run, Task}
use Rattle.tk_admit.specs.declared.taken.Taken.{Taken}
use Rattle.tk_types.specs.Behaviour.{name_of}
use Rattle.tk_admit.specs.Taken.{with_earlier}

-- outcomes and scenarios
abbrev pub is_outcomes : ItemObject → Bool
is_outcomes (Outcomes name spec) = true
is_outcomes _ = false

abbrev pub is_scenario : ItemObject → Bool
is_scenario (Scenario name spec) = true
is_scenario _ = false

-- what a run, outcomes and a scenario say; outcomes with their place
abbrev pub as_run : Admission → Option RunSpec
as_run (Run spec) = Some spec
as_run (Task spec) = None

abbrev pub as_outcomes : ItemObject → Option OutcomesSpec
as_outcomes (Outcomes name spec) = Some spec
as_outcomes _ = None

abbrev pub as_scenario : ItemObject → Option ScenarioSpec
as_scenario (Scenario name spec) = Some spec
as_scenario _ = None

abbrev pub outcomes_at : Item → Option (Place × OutcomesSpec)
outcomes_at item = option_map (λ (spec : OutcomesSpec). (item.place, spec)) (as_outcomes item.object)

-- those of an input, in their order
abbrev pub runs_of : List Taken → List RunSpec
runs_of runs = filter_map (λ (run : Taken). as_run run.spec) runs

abbrev pub outcomes_of : List Item → List Item
outcomes_of items = filter (λ (item : Item). is_outcomes item.object) items

abbrev pub scenarios_of : List Item → List Item
scenarios_of items = filter (λ (item : Item). is_scenario item.object) items

-- those that stand first
abbrev pub the_run : List Taken → Option RunSpec
the_run runs = slice_get (runs_of runs) 0

abbrev pub the_outcomes : List Item → Option (Place × OutcomesSpec)
the_outcomes items = option_and_then outcomes_at (slice_get (outcomes_of items) 0)

abbrev pub the_scenario : List Item → Option ScenarioSpec
the_scenario items = option_and_then (λ (item : Item). as_scenario item.object) (slice_get (scenarios_of items) 0)

-- there is none, or a second one
abbrev pub missing : {X : Type 0} → List X → Finding
missing found = refused_if (is_empty found) (missing_field root)

abbrev pub second_run : List RunSpec → Finding
second_run runs = option_map (λ (run : RunSpec). duplicate root run.name) (slice_get runs 1)

abbrev pub second_object : List Item → Finding
second_object items = option_map (λ (item : Item). duplicate root (name_of item.object)) (slice_get items 1)

-- the place of the task of a name: those of `tasks` first, then those of `finally`
abbrev pub place_in : List PipelineTask → List ℕ → Option ℕ
place_in tasks name = slice_get (places_of_name tasks name) 0

abbrev pub task_place : RunSpec → List ℕ → Option ℕ
task_place spec name = option_or (place_in spec.tasks name) (option_map (λ place. length spec.tasks + place) (place_in spec.finally name))

-- a child stood before, or is of no task of the run
abbrev pub is_same_child : OutcomesChild → OutcomesChild → Bool
is_same_child a b = bytes_eq a.task b.task && (a.index == b.index)

abbrev pub child_finding : RunSpec → Place → List OutcomesChild × OutcomesChild → Finding
child_finding spec place (earlier, child) =
    first_of
    (refused_if (list_any (is_same_child child) earlier) (duplicate place child.task)
    ∷ refused_if (is_none (task_place spec child.task)) (unknown_task (place ▸ codes "task") child.task)
    ∷ [])

abbrev pub children_finding : RunSpec → Place × OutcomesSpec → Finding
children_finding spec (place, outcomes) = first_in (child_finding spec) (place ▸ codes "spec" ▸ codes "children") (with_earlier outcomes.children)

abbrev pub outcomes_finding : List Item → List Taken → Finding
outcomes_finding items runs = first_if_there (λ spec. first_if_there (children_finding spec) (the_outcomes items)) (the_run runs)

-- what a command asks of the input
abbrev pub command_finding : KindSet → List Item → List Taken → Finding
command_finding Four items runs = None
command_finding WithScenario items runs = second_object (scenarios_of items)
command_finding WithOutcomes items runs =
    first_of
    (missing (runs_of runs)
    ∷ missing (outcomes_of items)
    ∷ second_run (runs_of runs)
    ∷ second_object (outcomes_of items)
    ∷ outcomes_finding items runs
    ∷ [])

-- the facts of the run and its outcomes, where a command asks for them
abbrev pub child_of : RunSpec → OutcomesChild → Option Child
child_of spec child = option_map (λ place. record { task = place; index = child.index; outcome = child.outcome }) (task_place spec child.task)

abbrev pub facts_with : RunSpec → Place × OutcomesSpec → Facts
facts_with spec (place, outcomes) = record { spec = spec; stops = outcomes.stops; children = filter_map (child_of spec) outcomes.children }

abbrev pub decided_facts : List Item → List Taken → Option Facts
decided_facts items runs = option_and_then (λ spec. option_map (facts_with spec) (the_outcomes items)) (the_run runs)

abbrev pub command_facts : KindSet → List Item → List Taken → Option Facts
command_facts WithOutcomes items runs = decided_facts items runs
command_facts _ items runs = None
