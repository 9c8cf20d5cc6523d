-- How one change leaves the facts of a run.
use Rattle.std.specs.Prelude.{ℕ, Bool, ◌&&◌, ◌==◌, if◌then◌else◌, List, [], ◌∷◌, ◌++◌, length, map, Option, Some, None, is_none, slice_index_or}
use Rattle.std.specs.List.{range_with_len}
use Rattle.tk_types.specs.declared.run.Child.{Child}
use Rattle.tk_types.specs.declared.run.Facts.{Facts}
use Rattle.tk_types.specs.declared.run.Outcome.{Outcome}
use Rattle.tk_labels.specs.declared.change.Change.{Change}
use Rattle.tk_labels.specs.declared.change.Change.TheVariants.{Stop, Children, Ended}

-- the child of a task at an index, and all of them, with these outcomes: their indexes rise from 0
abbrev pub child_at : ℕ → List (Option Outcome) → ℕ → Child
child_at task outcomes index = record { task = task; index = index; outcome = slice_index_or outcomes index None }

abbrev pub children_with : ℕ → List (Option Outcome) → List Child
children_with task outcomes = map (child_at task outcomes) (range_with_len 0 (length outcomes))

-- the child as it is once that of the task and the index ended
abbrev pub once_ended : ℕ → ℕ → Outcome → Child → Child
once_ended task index outcome child = if child.task == task && child.index == index then record child { outcome = Some outcome } else child

-- the child is that of the task and the index, and runs
abbrev pub runs_at : ℕ → ℕ → Child → Bool
runs_at task index child = child.task == task && child.index == index && is_none child.outcome

-- the facts after a change
abbrev pub changed : Change → Facts → Facts
changed (Stop stop) facts = record { spec = facts.spec; stops = facts.stops ++ stop ∷ []; children = facts.children }
changed (Children task outcomes) facts = record { spec = facts.spec; stops = facts.stops; children = facts.children ++ children_with task outcomes }
changed (Ended task index outcome) facts = record { spec = facts.spec; stops = facts.stops; children = map (once_ended task index outcome) facts.children }
