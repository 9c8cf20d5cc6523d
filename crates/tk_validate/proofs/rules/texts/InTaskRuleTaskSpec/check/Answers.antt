use Rattle.std.proofs.Common.{◌∙◌, ◌++◌, ap, subst}
use Rattle.tk_types.specs.Rejected.{Reads}
use Rattle.tk_validate.specs.Seen.{task_seen}
use Rattle.tk_validate.specs.Texts.{inlined_texts, step_texts}
use Rattle.tk_validate.proofs.rules.texts.InTaskRuleTaskSpec.check.Goals as goal

pub returns : goal.returns
unfolding inlined_texts
returns c =
    let rule = c.args.self.now in
    subst (λ finding. Reads finding tt c.check_step_texts.result)
    (ap (λ middle. step_texts (middle ++ rule.outer.now) c.in_ok-words.words c.args.place.now c.args.spec.now) (c.in_ok-middle.ensures ∙ (c.as_slice.ensures ∙ c.in_ok-given.ensures))
    ∙ ap (λ words. step_texts (task_seen rule.outer.now rule.task.now) words c.args.place.now c.args.spec.now) c.in_ok-words.ensures)
    c.check_step_texts.ensures
