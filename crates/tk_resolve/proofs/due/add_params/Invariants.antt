use Rattle.std.proofs.Common.{◌≡◌, ◌++◌, take}
use Rattle.tk_resolve.specs.Due.{params_dues, seen}
use Rattle.tk_resolve.proofs.due.add_params.Given as goal

-- the texts of the parameters so far stand behind those that were there
abbrev pub invariant-loop-param : goal.invariant-loop-param
invariant-loop-param l = seen l.made.items ≡ seen l.fn.made.items ++ params_dues l.due (take l.param-index l.params)
