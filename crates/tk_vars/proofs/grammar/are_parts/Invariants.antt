use Rattle.std.proofs.Common.{◌≡◌, length, [], ◌∷◌}
use Rattle.tk_vars.specs.Grammar.{parts}
use Rattle.tk_vars.specs.Steps.{is_tail}
use Rattle.tk_vars.proofs.grammar.are_parts.Given as goal

abbrev pub invariant-loop-rest : goal.invariant-loop-rest
invariant-loop-rest l = is_tail (parts ∷ []) l.rest ≡ is_tail (parts ∷ []) l.fn.tail

abbrev pub decreases-loop-rest : goal.decreases-loop-rest
decreases-loop-rest l = length l.rest
