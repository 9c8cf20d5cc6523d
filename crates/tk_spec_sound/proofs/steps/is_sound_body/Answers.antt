use Rattle.std.proofs.Common.{All, Bool, IsTrue, ◌↔◌, subst, sym}
use Rattle.std.proofs.lemmas.Result.{IfOk-weaker}
use Rattle.tk_bind.specs.Readings.{ReadsStep}
use Rattle.tk_spec_sound.specs.Parts.{IsSoundBody}
use Rattle.tk_spec_sound.proofs.Answers.{no_is, refused_by, told_as}
use Rattle.tk_spec_sound.proofs.steps.is_sound_body.Goals as goal

pub returns-then-not-has_steps : goal.returns-then-not-has_steps
returns-then-not-has_steps c = no_is (λ sound. refused_by c.has_steps.result c.has_steps.ensures c.if-not-has_steps.true sound.steps)

pub returns : goal.returns
returns c =
    let start = c.args.start.now in
    let body = c.args.body.now in
    let steps = c.has_steps.ensures.0 c.if-not-has_steps.false in
    IfOk-weaker c.steps_read.result (λ (yes : Bool). IsTrue yes ↔ All ReadsStep c.as_slice.result.now) (λ (yes : Bool). IsTrue yes ↔ IsSoundBody start body)
    (λ yes tells. told_as yes (λ reads. record { steps = steps; readable = subst (All ReadsStep) c.as_slice.ensures reads })
    (λ (sound : IsSoundBody start body). subst (All ReadsStep) (sym c.as_slice.ensures) sound.readable) tells)
    c.steps_read.ensures
