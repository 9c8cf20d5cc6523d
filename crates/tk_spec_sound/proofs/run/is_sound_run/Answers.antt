use Rattle.std.proofs.Common.{Bool, IsTrue, ◌↔◌}
use Rattle.std.proofs.lemmas.Result.{IfOk-weaker}
use Rattle.tk_journal.specs.Sound.{IsSoundRun}
use Rattle.tk_spec_sound.specs.Parts.{AreSoundParts}
use Rattle.tk_spec_sound.proofs.Answers.{no_is, refused_by, told_as}
use Rattle.tk_spec_sound.proofs.Together.{head_of, parts_of, run_is, whole_of}
use Rattle.tk_spec_sound.proofs.run.is_sound_run.Goals as goal

pub returns-then-not-has_sound_head : goal.returns-then-not-has_sound_head
returns-then-not-has_sound_head c =
    no_is (λ sound. refused_by c.has_sound_head.result c.has_sound_head.ensures c.if-not-has_sound_head.true (head_of c.args.name.now c.args.asked.now c.args.spec.now sound))

pub is_sound_whole-requires : goal.is_sound_whole-requires
is_sound_whole-requires c = (c.has_sound_head.ensures.0 c.if-not-has_sound_head.false).few_tasks

pub returns-then-not-branch : goal.returns-then-not-branch
returns-then-not-branch c =
    no_is (λ sound. refused_by c.in_ok-is_sound_whole.field-0 c.in_ok-is_sound_whole.ensures c.if-not-branch.true (whole_of c.args.name.now c.args.asked.now c.args.spec.now sound))

pub are_sound_parts-requires : goal.are_sound_parts-requires
are_sound_parts-requires c = (c.has_sound_head.ensures.0 c.if-not-has_sound_head.false).few_tasks

pub returns : goal.returns
returns c =
    let name = c.args.name.now in
    let asked = c.args.asked.now in
    let spec = c.args.spec.now in
    let head = c.has_sound_head.ensures.0 c.if-not-has_sound_head.false in
    let whole = c.in_ok-is_sound_whole.ensures.0 c.if-not-branch.false in
    IfOk-weaker c.are_sound_parts.result (λ (yes : Bool). IsTrue yes ↔ AreSoundParts spec) (λ (yes : Bool). IsTrue yes ↔ IsSoundRun name asked spec)
    (λ yes tells. told_as yes (run_is name asked spec head whole) (parts_of name asked spec) tells)
    c.are_sound_parts.ensures
