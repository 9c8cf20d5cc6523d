use Rattle.std.proofs.Common.{◌≡◌, ℕ, List, take}
use Rattle.tk_bind.specs.Grouped.{grouped_value}
use Rattle.tk_bind.specs.Substitute.{result_named}
use Rattle.tk_bind.proofs.results.grouped.Given as goal

-- the results so far are found by their tasks and names
abbrev pub invariant-loop-given : goal.invariant-loop-given
invariant-loop-given l = (task name : List ℕ) → grouped_value task name l.groups ≡ result_named task name (take l.given-index l.results)
