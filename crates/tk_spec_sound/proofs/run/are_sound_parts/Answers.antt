use Rattle.std.proofs.Common.{All, Bool, IsTrue, ◌↔◌, subst, sym}
use Rattle.std.proofs.lemmas.Result.{IfOk-weaker}
use Rattle.tk_bind.specs.Readings.{ReadsParams}
use Rattle.tk_spec_sound.specs.Parts.{AreSoundParts, IsSoundBody}
use Rattle.tk_spec_sound.proofs.Answers.{no_is, refused_by, told_as}
use Rattle.tk_spec_sound.proofs.run.are_sound_parts.Goals as goal

pub returns-then-not-branch : goal.returns-then-not-branch
returns-then-not-branch c = no_is (λ parts. refused_by c.in_ok-has_sound_tasks.field-0 c.in_ok-has_sound_tasks.ensures c.if-not-branch.true parts.tasks)

pub returns-then-not-branch-2 : goal.returns-then-not-branch-2
returns-then-not-branch-2 c =
    no_is (λ parts. refused_by c.in_ok-are_sound_bodies.field-0 c.in_ok-are_sound_bodies.ensures c.if-not-branch-2.true
    (subst (All (IsSoundBody c.args.spec.now.start)) (sym c.as_slice.ensures) parts.bodies))

pub returns : goal.returns
returns c =
    let spec = c.args.spec.now in
    IfOk-weaker c.params_read.result (λ (yes : Bool). IsTrue yes ↔ ReadsParams c.as_slice-2.result.now) (λ (yes : Bool). IsTrue yes ↔ AreSoundParts spec)
    (λ yes tells. told_as yes
    (λ reads. record {
      tasks = c.in_ok-has_sound_tasks.ensures.0 c.if-not-branch.false;
      bodies = subst (All (IsSoundBody spec.start)) c.as_slice.ensures (c.in_ok-are_sound_bodies.ensures.0 c.if-not-branch-2.false);
      results = subst ReadsParams c.as_slice-2.ensures reads;
    })
    (λ (parts : AreSoundParts spec). subst ReadsParams (sym c.as_slice-2.ensures) parts.results) tells)
    c.params_read.ensures
