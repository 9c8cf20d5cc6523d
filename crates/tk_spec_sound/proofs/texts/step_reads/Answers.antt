use Rattle.std.proofs.Common.{ℕ, List, All, Bool, IsTrue, ◌↔◌, map, subst, sym}
use Rattle.std.specs.Option.{ForSome}
use Rattle.std.proofs.lemmas.List.Elements.{All-map}
use Rattle.std.proofs.lemmas.Result.{IfOk-weaker}
use Rattle.tk_types.specs.declared.value.Pair.{Pair}
use Rattle.tk_bind.specs.Readings.{ReadsStep}
use Rattle.tk_vars.specs.Reading.{HasReading}
use Rattle.tk_spec_sound.proofs.Answers.{no_is, refused_by, told_as}
use Rattle.tk_spec_sound.proofs.Every.{all_mapped}
use Rattle.tk_spec_sound.proofs.texts.step_reads.Goals as goal

abbrev value_of : Pair → List ℕ
value_of pair = pair.value

abbrev ReadValues : List Pair → Type 0
ReadValues pairs = All HasReading (map value_of pairs)

pub returns-then-not-branch : goal.returns-then-not-branch
returns-then-not-branch c =
    no_is (λ reads. refused_by c.in_ok-all_read.field-0 c.in_ok-all_read.ensures c.if-not-branch.true (subst (All HasReading) (sym c.as_slice.ensures) reads.command))

pub returns-then-not-branch-2 : goal.returns-then-not-branch-2
returns-then-not-branch-2 c =
    no_is (λ reads. refused_by c.in_ok-all_read-2.field-0 c.in_ok-all_read-2.ensures c.if-not-branch-2.true (subst (All HasReading) (sym c.as_slice-2.ensures) reads.args))

pub returns-then-not-branch-3 : goal.returns-then-not-branch-3
returns-then-not-branch-3 c = no_is (λ reads. refused_by c.in_ok-optional_reads.field-0 c.in_ok-optional_reads.ensures c.if-not-branch-3.true reads.script)

pub returns-then-not-branch-4 : goal.returns-then-not-branch-4
returns-then-not-branch-4 c =
    no_is (λ reads. refused_by c.in_ok-pairs_read.field-0 c.in_ok-pairs_read.ensures c.if-not-branch-4.true
    (subst ReadValues (sym c.as_slice-3.ensures) (All-map HasReading value_of c.args.step.now.env reads.env)))

pub returns : goal.returns
returns c =
    let step = c.args.step.now in
    let command : All HasReading step.command = subst (All HasReading) c.as_slice.ensures (c.in_ok-all_read.ensures.0 c.if-not-branch.false) in
    let args : All HasReading step.args = subst (All HasReading) c.as_slice-2.ensures (c.in_ok-all_read-2.ensures.0 c.if-not-branch-2.false) in
    let script : ForSome step.script HasReading = c.in_ok-optional_reads.ensures.0 c.if-not-branch-3.false in
    let env : ReadValues step.env = subst ReadValues c.as_slice-3.ensures (c.in_ok-pairs_read.ensures.0 c.if-not-branch-4.false) in
    IfOk-weaker c.optional_reads-2.result (λ (yes : Bool). IsTrue yes ↔ ForSome step.dir HasReading) (λ (yes : Bool). IsTrue yes ↔ ReadsStep step)
    (λ yes tells. told_as yes (λ dir. record { command = command; args = args; script = script; env = all_mapped HasReading value_of step.env env; dir = dir }) (λ (reads : ReadsStep step). reads.dir) tells)
    c.optional_reads-2.ensures
