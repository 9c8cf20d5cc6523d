use Rattle.std.proofs.Common.{◌≡◌, drop}
use Rattle.std.specs.List.{list_all}
use Rattle.tk_bind.specs.Fits.{fits}
use Rattle.tk_verdict.proofs.own.all_fit.Given as goal

-- the combinations that are left decide
abbrev pub invariant-loop-combination : goal.invariant-loop-combination
invariant-loop-combination l = list_all (fits l.body) (drop l.combination-index l.combinations) ≡ list_all (fits l.body) l.combinations
