use Rattle.tk_spec_sound.proofs.Answers.{told_as, yes_is}
use Rattle.tk_spec_sound.proofs.Counts.{not_ready}
use Rattle.tk_spec_sound.proofs.steps.has_enough_steps.Goals as goal

pub returns-in-Ready : goal.returns-in-Ready
returns-in-Ready c = told_as c.has_a_step.result (λ some _. some) (λ needs. needs c.in-Ready.is) c.has_a_step.ensures

pub returns-in-Unstartable : goal.returns-in-Unstartable
returns-in-Unstartable c = yes_is (λ ready. absurd (not_ready _ _ c.in-Unstartable.is ready))
