use Rattle.std.proofs.Common.{◌≡◌, map, drop}
use Rattle.tk_types.specs.First.{first_of}
use Rattle.tk_validate.specs.Sited.{in_pair}
use Rattle.tk_validate.proofs.sited.check_pairs.Given as goal

-- what is wrong first with the pairs that are left is what is wrong first with all
abbrev pub invariant-loop-pair : goal.invariant-loop-pair
invariant-loop-pair g l =
    first_of (map (in_pair (g.R.TextRule.in_text l.rule) l.place) (drop l.pair-index l.pairs)) ≡ first_of (map (in_pair (g.R.TextRule.in_text l.rule) l.place) l.pairs)
