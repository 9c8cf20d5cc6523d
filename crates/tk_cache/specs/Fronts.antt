-- How the fronts of a cache move, and what it shows there.
use Rattle.std.specs.Prelude.{◌≡◌, ◌≤◌, ◌+◌, ◌++◌, ℕ, suc, List, [], ◌∷◌, length, nat_eq, nat_lt, if◌then◌else◌}
use Rattle.tk_types.specs.declared.scenario.Kind.{Kind}
use Rattle.tk_types.specs.declared.scenario.Kind.TheVariants as kinds
use Rattle.tk_journal.specs.declared.entry.Fronts.{Fronts}
use Rattle.tk_journal.specs.declared.entry.Entry.{Entry}
use Rattle.tk_journal.specs.Fronts.{AreWithin}
use Rattle.tk_journal.specs.Effects.{kind_of, same_kind}
use Rattle.tk_journal.specs.History.{past, front_of, view_at, version_of, run_of}
use Rattle.tk_cache.specs.Views.{Seen}

-- what a cache sees is the history's at these fronts
pub record Shows (seen : Seen) (history : List Entry) : Type 0 where
  pub within : AreWithin seen.fronts history
  pub same : seen.view ≡ view_at seen.fronts history
  pub versions_same : (kind : Kind) (name : List ℕ) → seen.versions kind name ≡ version_of kind name (past (front_of kind seen.fronts) history)
  pub beside_same : (name : List ℕ) → seen.beside name ≡ run_of (past seen.fronts.task_runs history) name

abbrev pub with_front : Kind → ℕ → Fronts → Fronts
with_front kinds.Runs front fronts = record fronts { runs = front }
with_front kinds.TaskRuns front fronts = record fronts { task_runs = front }
with_front kinds.Pods front fronts = record fronts { pods = front }

abbrev pub count_of_kind : Kind → List Entry → ℕ
count_of_kind kind [] = 0
count_of_kind kind (e ∷ older) = if same_kind kind (kind_of e.act) then suc (count_of_kind kind older) else count_of_kind kind older

-- how many entries of the kind stand at or before a position
abbrev pub count_until : Kind → ℕ → List Entry → ℕ
count_until kind position history = count_of_kind kind (past position history)

-- the position of the entry of the kind that is number n of them, or 0
abbrev pub position_of : Kind → ℕ → List Entry → ℕ
position_of kind n [] = 0
position_of kind n (e ∷ older) = if nat_lt (count_of_kind kind older) n then suc (length older) else position_of kind n older

-- the front after n entries more; the history's length where fewer are left
abbrev pub next_front : Kind → ℕ → ℕ → List Entry → ℕ
next_front kind n front history =
    if nat_eq n 0 then front
    else if nat_lt (count_of_kind kind history) (count_until kind front history + n) then length history
    else position_of kind (count_until kind front history + n) history

abbrev pub delivered : Kind → ℕ → Fronts → List Entry → Fronts
delivered kind n fronts history = with_front kind (next_front kind n (front_of kind fronts) history) fronts

abbrev pub listed : Kind → ℕ → Fronts → Fronts
listed kind position fronts = with_front kind position fronts

-- the laws

abbrev pub DeliveredIsAllowed : Type 0
DeliveredIsAllowed = (kind : Kind) (n front : ℕ) (history : List Entry) → count_until kind (next_front kind n front history) history ≤ count_until kind front history + n

abbrev pub ListedIsAllowed : Type 0
ListedIsAllowed = (kind : Kind) (position : ℕ) (history : List Entry) → count_until kind position history ≤ position

abbrev pub NothingShows : Type 0
NothingShows = (seen : Seen) (history : List Entry) → Shows seen [] → Shows seen history

abbrev pub Grown : Type 0
Grown = (seen : Seen) (newer history : List Entry) → Shows seen history → Shows seen (newer ++ history)
