use Rattle.std.proofs.Common.{[], ◌∷◌, sym, ◌∙◌}
use Rattle.tk_vars.specs.Grammar.{parts}
use Rattle.tk_vars.proofs.grammar.is_some_parts.Goals as goal

pub returns-in-Some : goal.returns-in-Some
returns-in-Some c = c.are_parts.ensures ∙ sym (c.in-Some.ensures.allowed (parts ∷ []))

pub returns-in-None : goal.returns-in-None
returns-in-None c = sym (c.in-None.ensures.allowed (parts ∷ []))
