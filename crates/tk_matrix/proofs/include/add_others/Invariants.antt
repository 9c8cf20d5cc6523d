use Rattle.std.proofs.Common.{◌≡◌, fold, take}
use Rattle.tk_matrix.specs.Added.{params_of}
use Rattle.tk_matrix.specs.Include.{with_param, others}
use Rattle.tk_matrix.proofs.include.add_others.Given as goal

abbrev pub invariant-loop-param : goal.invariant-loop-param
invariant-loop-param l =
    params_of l.added.entries ≡ fold with_param (params_of l.initial.added.entries) (others l.combination (take l.param-index l.entry))
