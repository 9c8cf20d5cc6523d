use Rattle.std.proofs.Common.{◌∙◌, ap}
use Rattle.tk_vars.specs.Reading.{ends_with_star}
use Rattle.tk_vars.proofs.HeadFacts.{last_star, no_last}
use Rattle.tk_vars.proofs.parts.Parts.ends_with_star.Goals as goal

pub returns-in-Some : goal.returns-in-Some
returns-in-Some c = c.is_star.ensures ∙ (last_star c.deref.result.now c.in-Some.part.now c.in-Some.ensures.value ∙ ap ends_with_star (c.deref.ensures.value ∙ c.self.view_is))

pub returns-in-None : goal.returns-in-None
returns-in-None c = no_last c.deref.result.now c.in-None.ensures.value ∙ ap ends_with_star (c.deref.ensures.value ∙ c.self.view_is)
