use Rattle.std.proofs.Common.{sym, ◌∙◌}
use Rattle.tk_vars.proofs.HeadFacts.{found_head, no_head}
use Rattle.tk_vars.proofs.grammar.is_headed.Goals as goal

pub returns-in-Some : goal.returns-in-Some
returns-in-Some c = c.opens.ensures ∙ sym (found_head c.args.text.now c.args.head.now c.in-Some.rest.now c.in-Some.ensures.cases.0 c.in-Some.ensures.cases.1)

pub returns-in-None : goal.returns-in-None
returns-in-None c = sym (no_head c.args.text.now c.args.head.now c.in-None.ensures.cases)
