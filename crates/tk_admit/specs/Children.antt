-- How children are found by task and index.
use Rattle.std.specs.Prelude.{ℕ, Bool, ◌&&◌, ◌==◌, List, bytes_eq}
use Rattle.std.specs.Cmp.Lexicographic.{slice_cmp}
use Rattle.std.specs.declared.cmp.Ordering.{Ordering}
use Rattle.std.specs.Ordering.{nat_cmp, ordering_then}
use Rattle.tk_types.specs.declared.object.OutcomesChild.{OutcomesChild}

-- the child is of this task and index
abbrev pub is_of : List ℕ → ℕ → OutcomesChild → Bool
is_of task index child = bytes_eq task child.task && (index == child.index)

-- the order of tasks and indexes
abbrev pub against : List ℕ → ℕ → List ℕ → ℕ → Ordering
against task index other place = ordering_then (slice_cmp nat_cmp task other) (nat_cmp index place)
