-- Legal histories: each entry is justified at its fronts, and goes through at the end.
use Rattle.std.specs.Prelude.{◌≡◌, ◌≢◌, ◌≤◌, ℕ, List, [], ◌∷◌, ◌++◌, length, None, Bool, true, false, All, AllPairs}
use Rattle.tk_types.specs.declared.scenario.Kind.{Kind}
use Rattle.tk_types.specs.declared.scenario.Kind.TheVariants as kinds
use Rattle.tk_journal.specs.declared.entry.Fronts.{Fronts}
use Rattle.tk_journal.specs.declared.act.Act.{Act}
use Rattle.tk_journal.specs.declared.act.Act.TheVariants as acts
use Rattle.tk_journal.specs.declared.entry.Entry.{Entry}
use Rattle.tk_journal.specs.Effects.{name_of, kind_of, is_create}
use Rattle.tk_journal.specs.History.{past, run_of, task_run_of, pod_of, version_of, view_at, front_of}
use Rattle.tk_journal.specs.Rows.{IsJustified}
use Rattle.tk_journal.specs.Names.{task_run_names}
use Rattle.tk_journal.specs.Sound.{IsSound}

abbrev pub is_admit : Act → Bool
is_admit (acts.Admit name spec pending asked root) = true
is_admit _ = false

-- no object of the kind has the name
abbrev pub IsFree : Kind → List ℕ → List Entry → Type 0
IsFree kinds.Runs name history = run_of history name ≡ None
IsFree kinds.TaskRuns name history = task_run_of history name ≡ None
IsFree kinds.Pods name history = pod_of history name ≡ None

-- the object has the version that it has at its kind's front
abbrev pub IsCurrent : Kind → List ℕ → Fronts → List Entry → Type 0
IsCurrent kind name fronts history = version_of kind name (past (front_of kind fronts) history) ≡ version_of kind name history

-- a create finds its name free (true), an update its object unchanged (false)
abbrev pub IsWritable : Bool → Kind → List ℕ → Fronts → List Entry → Type 0
IsWritable true kind name fronts history = IsFree kind name history
IsWritable false kind name fronts history = IsCurrent kind name fronts history

-- the names that are compared: those that the TaskRuns of an admitted object may have
abbrev pub compared_names : Act → List (List ℕ)
compared_names (acts.Admit name spec pending asked root) = task_run_names spec
compared_names _ = []

abbrev pub all_compared : List Entry → List (List ℕ)
all_compared [] = []
all_compared (e ∷ older) = all_compared older ++ compared_names e.act

-- what the act asks beside its row
abbrev pub Fits : List Entry → Entry → Act → Type 0
Fits older e (acts.Admit name spec pending asked root) =
    All (λ (before : Entry). is_admit before.act ≡ true) older × IsSound name asked spec × AllPairs (λ a b. a ≢ b) (all_compared (e ∷ older))
Fits older e (acts.Ask name status) = (e.fronts.runs ≡ length older) × (e.fronts.task_runs ≡ length older) × (e.fronts.pods ≡ length older)
Fits older e _ = Unit {0}

pub record IsStep (older : List Entry) (e : Entry) : Type 0 where
  pub runs_front : e.fronts.runs ≤ length older
  pub task_runs_front : e.fronts.task_runs ≤ length older
  pub pods_front : e.fronts.pods ≤ length older
  pub fits : Fits older e e.act
  pub justified : IsJustified (view_at e.fronts older) e.actor e.moment e.act
  pub writable : IsWritable (is_create e.act) (kind_of e.act) (name_of e.act) e.fronts older

abbrev pub IsLegal : List Entry → Type 0
IsLegal [] = Unit {0}
IsLegal (e ∷ older) = IsLegal older × IsStep older e
