use Rattle.std.proofs.Common.{◌≡◌, drop}
use Rattle.tk_types.specs.First.{first_from}
use Rattle.tk_validate.proofs.rule.check_each.Given as goal

-- what is wrong first with the parts that are left is what is wrong first with all
abbrev pub invariant-loop-index : goal.invariant-loop-index
invariant-loop-index g l = first_from (g.R.Rule.finding l.rule) l.place l.index (drop l.index l.parts) ≡ first_from (g.R.Rule.finding l.rule) l.place 0 l.parts
