use Rattle.std.proofs.Common.{◌≡◌, ◌∙◌, ◌++◌, ap, subst}
use Rattle.tk_types.specs.Rejected.{Reads}
use Rattle.tk_validate.specs.Seen.{given_seen}
use Rattle.tk_validate.specs.Texts.{alone_texts, step_texts}
use Rattle.tk_validate.proofs.rules.texts.GivenRuleTaskSpec.check.Goals as goal

pub returns : goal.returns
unfolding alone_texts
returns c =
    let params = c.args.self.now.params.now in
    let place = c.args.place.now in
    let spec = c.args.spec.now in
    let seen : c.add_given.new.made ≡ given_seen params = c.in_ok-add_given.ensures ∙ ap (λ seen. seen ++ given_seen params) c.new-seen.ensures in
    subst (λ finding. Reads finding tt c.check_step_texts.result)
    (ap (λ none. step_texts (none ++ c.in_ok-outer.outer) c.in_ok-context.context place spec) c.in_ok-none.ensures
    ∙ (ap (λ seen. step_texts seen c.in_ok-context.context place spec) (c.in_ok-outer.ensures ∙ (c.as_slice.ensures ∙ seen))
    ∙ ap (λ context. step_texts (given_seen params) context place spec) c.in_ok-context.ensures))
    c.check_step_texts.ensures
