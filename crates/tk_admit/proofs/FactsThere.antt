-- With a run and outcomes there are facts of them.
use Rattle.std.proofs.Common.{◌≡◌, Bool, true, false, List, [], ◌∷◌, Option, Some, None, refl, sym, ap, ◌∙◌}
use Rattle.std.specs.Prelude.{cond, is_some, option_and_then, option_map, slice_get}
use Rattle.std.proofs.lemmas.Option.{none-some}
use Rattle.tk_types.specs.declared.object.Item.{Item}
use Rattle.tk_types.specs.declared.object.ItemObject.{ItemObject}
use Rattle.tk_types.specs.declared.object.ItemObject.TheVariants.{Task, Pipeline, TaskRun, PipelineRun, Outcomes, Scenario}
use Rattle.tk_types.specs.declared.object.OutcomesSpec.{OutcomesSpec}
use Rattle.tk_types.specs.declared.run.Facts.{Facts}
use Rattle.tk_types.specs.declared.run.RunSpec.{RunSpec}
use Rattle.tk_types.specs.Fault.{missing_field}
use Rattle.tk_types.specs.Place.{Place, root}
use Rattle.tk_manifest.specs.declared.kinds.KindSet.{KindSet}
use Rattle.tk_manifest.specs.declared.kinds.KindSet.TheVariants.{Four, WithOutcomes, WithScenario}
use Rattle.tk_admit.specs.declared.taken.Taken.{Taken}
use Rattle.tk_admit.specs.Command.{command_facts, command_finding, decided_facts, facts_with, is_outcomes, missing, outcomes_at, outcomes_of, runs_of, the_outcomes, the_run}
use Rattle.tk_admit.proofs.Nothing.{first_none, rest_none}

-- outcomes have a place and a spec
at_there : (place : Place) (object : ItemObject) → is_outcomes object ≡ true → is_some (outcomes_at (record { place = place; object = object })) ≡ true
at_there place (Task name spec) is = cc
at_there place (Pipeline name spec) is = cc
at_there place (TaskRun run) is = cc
at_there place (PipelineRun run) is = cc
at_there place (Outcomes name spec) is = refl
at_there place (Scenario name spec) is = cc

-- the first of those that are left
first_there : (item : Item) (items : List Item) (b : Bool) → is_outcomes item.object ≡ b
    → (missing (outcomes_of items) ≡ None → is_some (the_outcomes items) ≡ true)
    → missing (cond b (item ∷ outcomes_of items) (outcomes_of items)) ≡ None
    → is_some (option_and_then outcomes_at (slice_get (cond b (item ∷ outcomes_of items) (outcomes_of items)) 0)) ≡ true
first_there item items true is rest none = at_there item.place item.object is
first_there item items false is rest none = rest none

outcomes_there : (items : List Item) → missing (outcomes_of items) ≡ None → is_some (the_outcomes items) ≡ true
outcomes_there [] none = absurd (none-some (missing_field root) (sym none))
outcomes_there (item ∷ items) none = first_there item items (is_outcomes item.object) refl (outcomes_there items) none

run_there : (specs : List RunSpec) → missing specs ≡ None → is_some (slice_get specs 0) ≡ true
run_there [] none = absurd (none-some (missing_field root) (sym none))
run_there (spec ∷ specs) none = refl

both_there : (run : Option RunSpec) (outcomes : Option (Place × OutcomesSpec)) → is_some run ≡ true → is_some outcomes ≡ true
    → is_some (option_and_then (λ spec. option_map (facts_with spec) outcomes) run) ≡ true
both_there None outcomes has_run has_outcomes = has_run
both_there (Some spec) None has_run has_outcomes = has_outcomes
both_there (Some spec) (Some outcomes) has_run has_outcomes = refl

all_there : (items : List Item) (runs : List Taken) → command_finding WithOutcomes items runs ≡ None → is_some (decided_facts items runs) ≡ true
all_there items runs none =
    both_there (the_run runs) (the_outcomes items) (run_there (runs_of runs) (first_none _ _ none))
    (outcomes_there items (first_none _ _ (rest_none (missing (runs_of runs)) _ none)))

-- where a command asks for them
pub facts_there : (kinds : KindSet) (items : List Item) (runs : List Taken) (found : Option Facts) → command_finding kinds items runs ≡ None → found ≡ command_facts kinds items runs
    → kinds ≡ WithOutcomes → is_some found ≡ true
facts_there Four items runs found none same is = cc
facts_there WithOutcomes items runs found none same is = ap is_some same ∙ all_there items runs none
facts_there WithScenario items runs found none same is = cc
