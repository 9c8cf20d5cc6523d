-- How runs stand, with the runs and the TaskRuns of these positions.
use Rattle.std.proofs.Common.{◌≡◌, ℕ, ◌≤◌, List, Option, None, Some, refl, ap, subst}
use Rattle.std.specs.Prelude.{filter, option_map}
use Rattle.tk_journal.specs.declared.entry.Entry.{Entry}
use Rattle.tk_journal.specs.declared.object.RunState.{RunState}
use Rattle.tk_journal.specs.declared.object.TaskRunState.{TaskRunState}
use Rattle.tk_journal.specs.Grows.{Grows}
use Rattle.tk_journal.specs.History.{View, past, run_of, task_run_of, facts_of}
use Rattle.tk_journal.specs.Legal.{IsLegal}
use Rattle.tk_journal.proofs.Claimed.{grows_past, legal_past}
use Rattle.tk_journal.proofs.Past.{past_past}
use Rattle.tk_journal.proofs.Positions.{past_none}
use Rattle.tk_cache.specs.Fronts.{Shows}
use Rattle.tk_cache.specs.Views.{Seen}
use Rattle.tk_run_cache.specs.Follow.{is_absent}
use Rattle.tk_run_cache.specs.Labelled.{Standing, facts_seen, missing_seen, standing_seen, standing_in}

-- how a run stands beside these TaskRuns
abbrev pub standing_of : (List ℕ → Option TaskRunState) → RunState → Standing
standing_of task_runs run = record { facts = facts_of task_runs run; missing = filter (is_absent task_runs run.spec) (facts_of task_runs run).children }

abbrev pub known : ℕ → ℕ → List Entry → List ℕ → Option Standing
known runs task_runs history name = option_map (standing_of (task_run_of (past task_runs history))) (run_of (past runs history) name)

-- what is seen is known at the fronts
pub seen_known : (seen : Seen) (history : List Entry) → Shows seen history → (name : List ℕ) → standing_seen seen.view name ≡ known seen.fronts.runs seen.fronts.task_runs history name
seen_known seen history shows name = ap (λ (v : View). standing_seen v name) shows.same

-- before the first entry there are no runs
pub known_none : (task_runs : ℕ) (history : List Entry) (name : List ℕ) → known 0 task_runs history name ≡ None
known_none task_runs history name = ap (λ (h : List Entry). option_map (standing_of (task_run_of (past task_runs history))) (run_of h name)) (past_none history)

-- from an earlier position to a later one
pub between : (history : List Entry) → IsLegal history → (n m : ℕ) → n ≤ m → Grows (past n history) (past m history)
between history legal n m le = subst (λ (old : List Entry). Grows old (past m history)) (past_past n m history le) (grows_past n (past m history) (legal_past m history legal))

-- the facts, and the missing children, of how a run is seen to stand

facts_of_standing : (view : View) (o : Option RunState) → option_map (λ (s : Standing). s.facts) (option_map (standing_in view) o) ≡ option_map (λ (run : RunState). (standing_in view run).facts) o
facts_of_standing view None = refl
facts_of_standing view (Some run) = refl

missing_of_standing : (view : View) (o : Option RunState) → option_map (λ (s : Standing). s.missing) (option_map (standing_in view) o) ≡ option_map (λ (run : RunState). (standing_in view run).missing) o
missing_of_standing view None = refl
missing_of_standing view (Some run) = refl

pub seen_facts : (view : View) (name : List ℕ) → option_map (λ (s : Standing). s.facts) (standing_seen view name) ≡ facts_seen view name
seen_facts view name = facts_of_standing view (view.run name)

pub seen_missing : (view : View) (name : List ℕ) → option_map (λ (s : Standing). s.missing) (standing_seen view name) ≡ missing_seen view name
seen_missing view name = missing_of_standing view (view.run name)
