use Rattle.std.proofs.Common.{◌∙◌, ◌++◌, ℕ, List, ap, subst, false, []}
use Rattle.tk_types.specs.First.{Finding}
use Rattle.tk_types.specs.Rejected.{Reads}
use Rattle.tk_bind.specs.Fits.{result_words, space_words}
use Rattle.tk_validate.specs.declared.seen.Seen.{Seen}
use Rattle.tk_validate.specs.Scoped.{scope_with}
use Rattle.tk_validate.specs.Seen.{declared_seen, keys}
use Rattle.tk_validate.specs.Sited.{in_steps}
use Rattle.tk_validate.specs.Texts.{step_texts, text_finding}
use Rattle.tk_validate.proofs.rules.step_texts.check_step_texts.Goals as goal

pub returns : goal.returns
unfolding step_texts
returns c =
    let outside = c.args.middle.now ++ c.args.outer.now in
    let spec = c.args.spec.now in
    let found : List Seen → List (List ℕ) → List (List ℕ) → Finding =
    λ seen words paths. in_steps (text_finding [] (scope_with (seen ++ outside) words paths [] false false)) c.args.place.now spec in
    let words = c.args.context ++ keys (space_words spec.spaces) in
    subst (λ finding. Reads finding tt c.check_indexed.result)
    (ap (λ seen. found seen c.as_slice-5.result.now c.as_slice-6.result.now) (c.as_slice-4.ensures ∙ (c.in_ok-seen.ensures ∙ ap declared_seen c.as_slice.ensures))
    ∙ (ap (λ ws. found (declared_seen spec.params) ws c.as_slice-6.result.now) (c.as_slice-5.ensures ∙ (c.in_ok-words.ensures ∙ ap (λ spaces. c.args.context ++ keys (space_words spaces)) c.as_slice-2.ensures))
    ∙ ap (found (declared_seen spec.params) words) (c.as_slice-6.ensures ∙ (c.in_ok-paths.ensures ∙ ap (λ results. keys (result_words results)) c.as_slice-3.ensures))))
    c.check_indexed.ensures
