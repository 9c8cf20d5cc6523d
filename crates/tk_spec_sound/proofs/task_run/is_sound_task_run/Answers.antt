use Rattle.std.proofs.Common.{◌≡◌, All, Bool, IsTrue, ◌↔◌, subst, sym}
use Rattle.std.proofs.lemmas.Result.{IfOk-weaker}
use Rattle.tk_types.specs.declared.run.Start.TheVariants.{Ready}
use Rattle.tk_bind.specs.Fits.{fits}
use Rattle.tk_bind.specs.Readings.{ReadsStep}
use Rattle.tk_journal.specs.Sound.{IsSoundTaskRun}
use Rattle.tk_spec_sound.proofs.Answers.{no_is, refused_by, told_as}
use Rattle.tk_spec_sound.proofs.Together.{task_run_head_of, task_run_is, task_run_reads}
use Rattle.tk_spec_sound.proofs.task_run.is_sound_task_run.Goals as goal

pub returns-then-not-has_sound_head : goal.returns-then-not-has_sound_head
returns-then-not-has_sound_head c =
    no_is (λ sound. refused_by c.has_sound_head.result c.has_sound_head.ensures c.if-not-has_sound_head.true (task_run_head_of c.args.name.now c.args.asked.now c.args.spec.now sound))

pub returns-then-not-branch : goal.returns-then-not-branch
returns-then-not-branch c =
    no_is (λ sound. refused_by c.in_ok-steps_read.field-0 c.in_ok-steps_read.ensures c.if-not-branch.true
    (subst (All ReadsStep) (sym c.as_slice.ensures) (task_run_reads c.args.name.now c.args.asked.now c.args.spec.now sound)))

pub fits_its_body-requires : goal.fits_its_body-requires
fits_its_body-requires c = subst (All ReadsStep) c.as_slice.ensures (c.in_ok-steps_read.ensures.0 c.if-not-branch.false)

pub returns : goal.returns
returns c =
    let name = c.args.name.now in
    let asked = c.args.asked.now in
    let spec = c.args.spec.now in
    let head = c.has_sound_head.ensures.0 c.if-not-has_sound_head.false in
    let reads : All ReadsStep spec.body.spec.steps = subst (All ReadsStep) c.as_slice.ensures (c.in_ok-steps_read.ensures.0 c.if-not-branch.false) in
    IfOk-weaker c.fits_its_body.result (λ (yes : Bool). IsTrue yes ↔ (spec.start ≡ Ready → IsTrue (fits spec.body spec.params))) (λ (yes : Bool). IsTrue yes ↔ IsSoundTaskRun name asked spec)
    (λ yes tells. told_as yes (task_run_is name asked spec head reads) (λ (sound : IsSoundTaskRun name asked spec). sound.fit) tells)
    c.fits_its_body.ensures
