use Rattle.tk_spec_sound.proofs.Answers.{no_is, refused_by, told_as}
use Rattle.tk_spec_sound.proofs.steps.has_steps.Goals as goal

pub returns-then-not-has_few_steps : goal.returns-then-not-has_few_steps
returns-then-not-has_few_steps c = no_is (λ steps. refused_by c.has_few_steps.result c.has_few_steps.ensures c.if-not-has_few_steps.true steps.few)

pub returns : goal.returns
returns c =
    told_as c.has_enough_steps.result (λ some. record { few = c.has_few_steps.ensures.0 c.if-not-has_few_steps.false; some = some }) (λ steps. steps.some)
    c.has_enough_steps.ensures
