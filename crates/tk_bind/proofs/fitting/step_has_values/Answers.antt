use Rattle.std.proofs.Common.{◌≡◌, Bool, IfOk, subst}
use Rattle.tk_bind.proofs.StepFacts.{step_lacks, step_texts_decide}
use Rattle.tk_bind.proofs.fitting.step_has_values.Goals as goal

pub returns-then-not-branch : goal.returns-then-not-branch
returns-then-not-branch c = step_lacks c.args.lookup.now c.args.step.now _ c.in_ok-has_step_elements.ensures c.if-not-branch.true

pub returns : goal.returns
returns c =
    let P : Bool → Type 0 = λ b. IfOk c.has_step_texts.result (λ has. has ≡ b) in
    subst P (step_texts_decide c.args.lookup.now c.args.step.now _ c.in_ok-has_step_elements.ensures c.if-not-branch.false) c.has_step_texts.ensures
