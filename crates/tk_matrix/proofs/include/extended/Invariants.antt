use Rattle.std.proofs.Common.{◌≡◌, [], fold, take}
use Rattle.std.specs.Prelude.{filter, flat_map}
use Rattle.tk_matrix.specs.Added.{params_of}
use Rattle.tk_matrix.specs.Include.{with_param, others, agrees}
use Rattle.tk_matrix.proofs.include.extended.Given as goal

-- what is added so far is what the entries so far add
abbrev pub invariant-loop-entry : goal.invariant-loop-entry
invariant-loop-entry l =
    params_of l.added.entries ≡ fold with_param [] (flat_map (others l.fn.combination) (filter (agrees l.fn.combination) (take l.entry-index l.entries)))
