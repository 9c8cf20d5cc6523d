use Rattle.std.proofs.Common.{◌≡◌, ◌≤◌, length, take}
use Rattle.std.specs.Prelude.{filter}
use Rattle.tk_matrix.specs.Include.{stands_alone}
use Rattle.tk_matrix.proofs.choice.count_own.Given as goal

abbrev pub invariant-loop-entry : goal.invariant-loop-entry
invariant-loop-entry l =
    (l.count ≡ length (filter (stands_alone l.params) (take l.entry-index l.entries))) × (l.count ≤ l.entry-index)
