use Rattle.std.proofs.Common.{◌≡◌, ◌++◌}
use Rattle.tk_matrix.specs.Added.{params_of}
use Rattle.tk_matrix.proofs.include.with_added.Given as goal

-- what is made, and what is left of the map, is the result
abbrev pub invariant-loop-name : goal.invariant-loop-name
invariant-loop-name l = l.combination ++ params_of l.name-iterator ≡ l.fn.combination ++ params_of l.fn.added.entries
