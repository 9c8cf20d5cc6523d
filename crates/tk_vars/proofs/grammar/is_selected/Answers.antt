use Rattle.std.proofs.Common.{[], ◌∷◌, sym, ◌∙◌}
use Rattle.tk_vars.specs.Grammar.{selector}
use Rattle.tk_vars.proofs.grammar.is_selected.Goals as goal

pub returns-in-Some : goal.returns-in-Some
returns-in-Some c = c.is_selector.ensures ∙ sym (c.in-Some.ensures.allowed (selector ∷ []))

pub returns-in-None : goal.returns-in-None
returns-in-None c = sym (c.in-None.ensures.allowed (selector ∷ []))
