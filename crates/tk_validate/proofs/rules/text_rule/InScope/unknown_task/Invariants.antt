use Rattle.std.proofs.Common.{◌≡◌, filter_map, map, drop}
use Rattle.tk_types.specs.First.{first_of}
use Rattle.tk_vars.specs.Target.{referenced}
use Rattle.tk_validate.specs.Texts.{unknown_of}
use Rattle.tk_validate.proofs.rules.text_rule.InScope.unknown_task.Given as goal

-- the first among the pieces that are left is the first of all
abbrev pub invariant-loop-piece : goal.invariant-loop-piece
invariant-loop-piece l = first_of (map (unknown_of l.self.firsts.now l.self.names.now) (filter_map referenced (drop l.piece-index l.pieces))) ≡ first_of (map (unknown_of l.self.firsts.now l.self.names.now) (filter_map referenced l.pieces))
