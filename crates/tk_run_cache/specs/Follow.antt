-- How what is kept of runs follows one entry.
use Rattle.std.specs.Prelude.{◌≡◌, ℕ, Bool, not, ◌&&◌, ◌==◌, List, [], ◌++◌, length, map, filter, Contains, Option, Some, None, is_none, option_map, IfSome, bytes_eq, if◌then◌else◌}
use Rattle.std.specs.List.{range_with_len}
use Rattle.std.specs.declared.string.String.{String}
use Rattle.indexmap.specs.IndexMap.{IndexMap, get_by_text}
use Rattle.tk_types.specs.declared.run.Child.{Child}
use Rattle.tk_types.specs.declared.run.Facts.{Facts}
use Rattle.tk_types.specs.declared.run.Outcome.{Outcome}
use Rattle.tk_types.specs.declared.run.RunSpec.{RunSpec}
use Rattle.tk_verdict.specs.WellFormed.{IsWellFormed}
use Rattle.tk_labels.specs.Change.{changed}
use Rattle.tk_labels.specs.Kept.{fresh, MayHave}
use Rattle.tk_labels.specs.declared.change.Change.TheVariants as changes
use Rattle.tk_journal.specs.declared.act.Act.{Act}
use Rattle.tk_journal.specs.declared.act.Act.TheVariants as acts
use Rattle.tk_journal.specs.declared.act.Admission.TheVariants as admissions
use Rattle.tk_journal.specs.declared.object.TaskRunState.{TaskRunState}
use Rattle.tk_journal.specs.History.{outcome_of}
use Rattle.tk_journal.specs.Names.{child_name_of}
use Rattle.tk_cache.specs.Children.{is_name}
use Rattle.tk_run_cache.specs.declared.step.Step.{Step}
use Rattle.tk_run_cache.specs.declared.step.Step.TheVariants as steps
use Rattle.tk_run_cache.specs.Labelled.{Standing}

-- what is kept of one run is changed so, and nothing of the others
abbrev pub ChangesAt : {A X S : Type 0} → List ℕ → (Option X → Option X) → IndexMap (String A) X S → IndexMap (String A) X S → Type 0
ChangesAt name after m n = (other : List ℕ) → get_by_text n other ≡ (if bytes_eq name other then after (get_by_text m other) else get_by_text m other)

-- one run

-- the child of the task and the index hasn't ended, where there is one
abbrev pub IsOpen : ℕ → ℕ → Facts → Type 0
IsOpen task index facts = (child : Child) → Contains facts.children child → child.task ≡ task → child.index ≡ index → child.outcome ≡ None

-- the facts once that child has this outcome
abbrev pub ended_in : ℕ → ℕ → Option Outcome → Facts → Facts
ended_in task index None facts = facts
ended_in task index (Some outcome) facts = changed (changes.Ended task index outcome) facts

-- the child is another one
abbrev pub is_other : ℕ → ℕ → Child → Bool
is_other task index child = not (child.task == task && child.index == index)

-- how a run stands after a step, and what the step asks
abbrev pub stepped : Step → Standing → Standing
stepped (steps.Stop stop) s = record { facts = changed (changes.Stop stop) s.facts; missing = s.missing }
stepped (steps.Children task outcomes missing) s = record { facts = changed (changes.Children task outcomes) s.facts; missing = s.missing ++ missing }
stepped (steps.TaskRun task index outcome) s = record { facts = ended_in task index outcome s.facts; missing = filter (is_other task index) s.missing }

abbrev pub MayStep : Step → Standing → Type 0
MayStep (steps.Stop stop) s = Unit {0}
MayStep (steps.Children task outcomes missing) s = MayHave s.facts task (length outcomes)
MayStep (steps.TaskRun task index outcome) s = IsOpen task index s.facts

-- entries of runs

-- the outcome of a task's child at an index, by its TaskRun, and whether it has none
abbrev pub outcome_seen : (List ℕ → Option TaskRunState) → RunSpec → ℕ → ℕ → Option Outcome
outcome_seen task_runs spec task index = outcome_of (task_runs (child_name_of spec task index))

abbrev pub is_absent : (List ℕ → Option TaskRunState) → RunSpec → Child → Bool
is_absent task_runs spec child = is_none (task_runs (child_name_of spec child.task child.index))

-- the first so many children of a task
abbrev pub outcomes_seen : (List ℕ → Option TaskRunState) → RunSpec → ℕ → ℕ → List (Option Outcome)
outcomes_seen task_runs spec task count = map (outcome_seen task_runs spec task) (range_with_len 0 count)

abbrev pub child_seen : (List ℕ → Option TaskRunState) → RunSpec → ℕ → ℕ → Child
child_seen task_runs spec task index = record { task = task; index = index; outcome = outcome_seen task_runs spec task index }

abbrev pub absent_seen : (List ℕ → Option TaskRunState) → RunSpec → ℕ → ℕ → List Child
absent_seen task_runs spec task count = filter (is_absent task_runs spec) (map (child_seen task_runs spec task) (range_with_len 0 count))

-- how a run stands once a task got so many children
abbrev pub scheduled_in : (List ℕ → Option TaskRunState) → ℕ → ℕ → Standing → Standing
scheduled_in task_runs task count s = stepped (steps.Children task (outcomes_seen task_runs s.facts.spec task count) (absent_seen task_runs s.facts.spec task count)) s

-- how the run that an act names stands once it is done
abbrev pub standing_after : (List ℕ → Option TaskRunState) → Act → Option Standing → Option Standing
standing_after task_runs (acts.Admit name (admissions.Run spec) pending asked root) s = Some record { facts = fresh spec; missing = [] }
standing_after task_runs (acts.Schedule name task bindings) s = option_map (scheduled_in task_runs task (length bindings)) s
standing_after task_runs (acts.Halt name stop) s = option_map (stepped (steps.Stop stop)) s
standing_after task_runs _ s = s

-- what it asks
abbrev pub MayFollow : Act → Option Standing → Type 0
MayFollow (acts.Admit name (admissions.Run spec) pending asked root) o = IsWellFormed (fresh spec) × (o ≡ None)
MayFollow (acts.Schedule name task bindings) o = IfSome o (λ s. MayHave s.facts task (length bindings))
MayFollow _ o = Unit {0}

-- entries of TaskRuns

-- how a run of this name stands once this is its TaskRun, which had no outcome
abbrev pub standing_with : TaskRunState → List ℕ → Option Standing → Option Standing
standing_with t name s = if is_name name t.run then option_map (stepped (steps.TaskRun t.task t.index (outcome_of (Some t)))) s else s

-- what it asks of what is kept
abbrev pub MayHaveTaskRun : {A S : Type 0} → TaskRunState → IndexMap (String A) Standing S → Type 0
MayHaveTaskRun t m = (name : List ℕ) → t.run ≡ Some name → IfSome (get_by_text m name) (λ s. IsOpen t.task t.index s.facts)
