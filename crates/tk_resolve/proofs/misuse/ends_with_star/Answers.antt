use Rattle.std.proofs.Common.{◌∙◌}
use Rattle.tk_vars.proofs.HeadFacts.{last_star, no_last}
use Rattle.tk_resolve.proofs.misuse.ends_with_star.Goals as goal

pub returns-in-Some : goal.returns-in-Some
returns-in-Some c = c.is_star.ensures ∙ last_star c.args.parts.now c.in-Some.part.now c.in-Some.ensures.value

pub returns-in-None : goal.returns-in-None
returns-in-None c = no_last c.args.parts.now c.in-None.ensures.value
