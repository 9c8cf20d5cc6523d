use Rattle.std.proofs.Common.{List, ℕ, subst, ap, sym, ◌∙◌}
use Rattle.std.proofs.lemmas.Result.{err_from_is_err_and}
use Rattle.tk_bind.specs.Refusal.{IsUnavailable}
use Rattle.tk_bind.specs.Substitute.{element}
use Rattle.tk_bind.proofs.Gathering.{after, joined_turn, joined_refused}
use Rattle.tk_bind.proofs.lookup.Lookup.substitute_list.Goals as goal

pub loop-text-preserved : goal.loop-text-preserved
loop-text-preserved c =
    let env = c.args.self.now in
    joined_turn (element env) c.args.texts.now c.loop-text.text-index c.text-item.result _ _ _ c.loop-text-test.true c.text-item.is c.loop-text.invariant
    (ap (λ t. after c.loop-text.made (element env t)) (sym c.as_str.ensures) ∙ c.in_ok-push_element.ensures.value)

pub returns-in_err-push_element-clause-refused : goal.returns-in_err-push_element-clause-refused
returns-in_err-push_element-clause-refused c =
    let env = c.args.self.now in
    let P : List ℕ → Type 0 = λ t. IsUnavailable (element env t) c.in_err-push_element.field-0.0 in
    let p = err_from_is_err_and c.from_residual.result c.from_residual.ensures.1 in
    rw (p.1, p.2) (joined_refused (element env) c.args.texts.now c.loop-text.text-index c.text-item.result _ _ _ c.loop-text-test.true c.text-item.is c.loop-text.invariant (subst P c.as_str.ensures c.in_err-push_element.ensures.refused))
