use Rattle.tk_spec_sound.proofs.Answers.{no_is, refused_by, told_as}
use Rattle.tk_spec_sound.proofs.run.has_short_timeouts.Goals as goal

pub returns-then-not-is_short : goal.returns-then-not-is_short
returns-then-not-is_short c = no_is (λ short. refused_by c.is_short.result c.is_short.ensures c.if-not-is_short.true short.0)

pub returns-then-not-is_short-2 : goal.returns-then-not-is_short-2
returns-then-not-is_short-2 c = no_is (λ short. refused_by c.is_short-2.result c.is_short-2.ensures c.if-not-is_short-2.true short.1)

pub returns : goal.returns
returns c =
    told_as c.is_short-3.result (λ last. (c.is_short.ensures.0 c.if-not-is_short.false, c.is_short-2.ensures.0 c.if-not-is_short-2.false, last)) (λ short. short.2)
    c.is_short-3.ensures
