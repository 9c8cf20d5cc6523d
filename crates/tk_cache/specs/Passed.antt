-- What is seen once a front passes an entry: of the entry's kind, the object that it names alone has changed.
use Rattle.std.specs.Prelude.{◌≡◌, ◌≢◌, ℕ, ◌+◌, List, Option, Some, None, slice_get}
use Rattle.tk_types.specs.declared.scenario.Kind.{Kind}
use Rattle.tk_types.specs.declared.scenario.Kind.TheVariants as kinds
use Rattle.tk_journal.specs.declared.entry.Entry.{Entry}
use Rattle.tk_journal.specs.Effects.{name_of}
use Rattle.tk_journal.specs.History.{View, front_of}
use Rattle.tk_journal.specs.Journal.{entry_at}
use Rattle.tk_cache.specs.Fronts.{Shows, with_front}
use Rattle.tk_cache.specs.Views.{Seen}

-- the objects of a kind and their names are the same
pub record AreSame {T : Type 0} (was now : List ℕ → Option T) (before after : List (List ℕ)) : Type 0 where
  pub objects : now ≡ was
  pub names : after ≡ before

abbrev pub AreSameOf : Kind → View → View → Type 0
AreSameOf kinds.Runs was now = AreSame was.run now.run was.runs now.runs
AreSameOf kinds.TaskRuns was now = AreSame was.task_run now.task_run was.task_runs now.task_runs
AreSameOf kinds.Pods was now = AreSame was.pod now.pod was.pods now.pods

-- they are the same but for one name
pub record AreSameBut {T : Type 0} (name : List ℕ) (was now : List ℕ → Option T) (before after : List (List ℕ)) : Type 0 where
  pub objects : (other : List ℕ) → name ≢ other → now other ≡ was other
  pub places : (place : ℕ) (other : List ℕ) → name ≢ other → slice_get after place ≡ Some other → slice_get before place ≡ Some other
  -- none goes
  pub absent : (other : List ℕ) → now other ≡ None → was other ≡ None

abbrev pub AreSameButOf : Kind → List ℕ → View → View → Type 0
AreSameButOf kinds.Runs name was now = AreSameBut name was.run now.run was.runs now.runs
AreSameButOf kinds.TaskRuns name was now = AreSameBut name was.task_run now.task_run was.task_runs now.task_runs
AreSameButOf kinds.Pods name was now = AreSameBut name was.pod now.pod was.pods now.pods

-- the laws

-- of a kind whose front stands where it stood, all is the same
abbrev pub FrontsDecide : Type 0
FrontsDecide =
    (kind : Kind) (was now : Seen) (history : List Entry) → Shows was history → Shows now history
    → front_of kind now.fronts ≡ front_of kind was.fronts → AreSameOf kind was.view now.view

-- a front that goes one position further passes one entry
abbrev pub OnePasses : Type 0
OnePasses =
    (kind : Kind) (was now : Seen) (history : List Entry) (e : Entry) → Shows was history → Shows now history
    → entry_at (front_of kind was.fronts + 1) history ≡ Some e → now.fronts ≡ with_front kind (front_of kind was.fronts + 1) was.fronts
    → AreSameButOf kind (name_of e.act) was.view now.view
