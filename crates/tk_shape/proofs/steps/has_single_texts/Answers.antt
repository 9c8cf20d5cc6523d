use Rattle.std.proofs.Common.{◌≡◌, Bool, IfOk, subst, ◌∙◌, ap}
use Rattle.tk_shape.specs.Substituted.{have_pairs}
use Rattle.tk_shape.proofs.StepTexts.{single_lack, dir_decides}
use Rattle.tk_shape.proofs.steps.has_single_texts.Goals as goal

pub returns-then-not-branch-2 : goal.returns-then-not-branch-2
returns-then-not-branch-2 g c =
    let env = g.S.Shapes.env c.args.shapes.now in
    single_lack env c.args.step.now c.in_ok-has_optional.field-0 c.in_ok-have_pairs.field-0 c.in_ok-has_optional.ensures c.if-not-branch.false (c.in_ok-have_pairs.ensures ∙ ap (have_pairs env) c.as_slice.ensures) c.if-not-branch-2.true

pub returns : goal.returns
returns g c =
    let env = g.S.Shapes.env c.args.shapes.now in
    let P : Bool → Type 0 = λ b. IfOk c.has_optional-2.result (λ has. has ≡ b) in
    subst P
    (dir_decides env c.args.step.now c.in_ok-has_optional.field-0 c.in_ok-have_pairs.field-0 c.in_ok-has_optional.ensures c.if-not-branch.false (c.in_ok-have_pairs.ensures ∙ ap (have_pairs env) c.as_slice.ensures) c.if-not-branch-2.false)
    c.has_optional-2.ensures
