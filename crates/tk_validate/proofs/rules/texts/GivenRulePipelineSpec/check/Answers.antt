use Rattle.std.proofs.Common.{◌≡◌, ◌∙◌, ◌++◌, ap, subst}
use Rattle.tk_types.specs.Rejected.{Reads}
use Rattle.tk_validate.specs.Names.{names_of}
use Rattle.tk_validate.specs.Seen.{pipeline_context, pipeline_seen}
use Rattle.tk_validate.specs.Texts.{pipeline_texts}
use Rattle.tk_validate.specs.TextsBy.{texts_by}
use Rattle.tk_validate.proofs.rules.texts.GivenRulePipelineSpec.check.Goals as goal

pub returns : goal.returns
unfolding pipeline_texts
returns c =
    let place = c.args.place.now in
    let spec = c.args.spec.now in
    let outer = pipeline_seen c.args.self.now.params.now spec in
    let firsts = names_of spec.tasks in
    let all = c.add_all.new.self in
    let tasks : all ≡ firsts ++ names_of spec.finally =
    c.in_ok-add_all.ensures ∙ (ap (λ lasts. c.in_ok-tasks.tasks ++ names_of lasts) c.as_slice-5.ensures ∙ ap (λ names. names ++ names_of spec.finally) (c.in_ok-tasks.ensures ∙ ap names_of c.as_slice-4.ensures)) in
    subst (λ finding. Reads finding tt c.check_by_names.result)
    (ap (λ o. texts_by o c.in_ok-words-2.words c.in_ok-firsts.firsts all place spec) (c.in_ok-outer.ensures ∙ (c.as_slice.ensures ∙ c.in_ok-seen.ensures))
    ∙ (ap (λ w. texts_by outer w c.in_ok-firsts.firsts all place spec) (c.in_ok-words-2.ensures ∙ (c.as_slice-2.ensures ∙ c.in_ok-words.ensures))
    ∙ (ap (λ f. texts_by outer pipeline_context f all place spec) (c.in_ok-firsts.ensures ∙ ap names_of c.as_slice-3.ensures)
    ∙ ap (λ t. texts_by outer pipeline_context firsts t place spec) tasks)))
    c.check_by_names.ensures
