use Rattle.std.proofs.Common.{[], ◌∷◌, sym, ◌∙◌}
use Rattle.tk_vars.specs.Grammar.{parts}
use Rattle.tk_vars.proofs.TailFacts.{more_parts, no_parts_left}
use Rattle.tk_vars.proofs.grammar.are_parts.Goals as goal

pub loop-rest-preserved : goal.loop-rest-preserved
loop-rest-preserved c = sym (more_parts c.loop-rest.rest.now (sym c.is_empty.ensures ∙ c.loop-rest-test.true) ∙ c.in-Some.ensures.allowed (parts ∷ [])) ∙ c.loop-rest.invariant

pub returns-in-None : goal.returns-in-None
returns-in-None c = sym (sym c.loop-rest.invariant ∙ (more_parts c.loop-rest.rest.now (sym c.is_empty.ensures ∙ c.loop-rest-test.true) ∙ c.in-None.ensures.allowed (parts ∷ [])))

pub returns : goal.returns
returns c = sym (sym c.loop-rest.invariant ∙ no_parts_left c.loop-rest.rest.now (sym c.is_empty.ensures ∙ c.loop-rest-test.false))
