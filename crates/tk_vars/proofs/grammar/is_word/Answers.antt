use Rattle.std.proofs.Common.{[], sym, ◌∙◌}
use Rattle.tk_vars.proofs.TailFacts.{end_step}
use Rattle.tk_vars.proofs.grammar.is_word.Goals as goal

pub returns-in-Some : goal.returns-in-Some
returns-in-Some c = c.is_empty.ensures ∙ sym (c.in-Some.ensures [] ∙ end_step c.in-Some.rest.now)

pub returns-in-None : goal.returns-in-None
returns-in-None c = sym (c.in-None.ensures [])
