use Rattle.std.proofs.Common.{◌≡◌, ◌∙◌, ◌++◌, ℕ, List, ap, subst, false, []}
use Rattle.tk_types.specs.First.{Finding}
use Rattle.tk_types.specs.Rejected.{Reads}
use Rattle.tk_validate.specs.declared.seen.Seen.{Seen}
use Rattle.tk_validate.specs.Scoped.{scope_with}
use Rattle.tk_validate.specs.Sited.{in_steps}
use Rattle.tk_validate.specs.Texts.{text_finding}
use Rattle.tk_validate.proofs.rules.step_texts.check_indexed.Goals as goal

pub returns : goal.returns
returns c =
    let found : List (List ℕ) → List Seen → List (List ℕ) → List (List ℕ) → Finding =
    λ none seen words paths. in_steps (text_finding none (scope_with seen words paths none false false)) c.args.place.now c.args.spec.now in
    let layers : c.new-layers.result ≡ c.args.seen.now ++ (c.args.middle.now ++ c.args.outer.now) = c.new-layers.ensures ∙ ap (λ i. i ++ (c.args.middle.now ++ c.args.outer.now)) c.in_ok-inner.ensures in
    subst (λ finding. Reads finding tt c.check.result)
    (ap (λ none. found none c.new-layers.result c.in_ok-words.words c.in_ok-paths.paths) c.new-none.ensures
    ∙ (ap (λ seen. found [] seen c.in_ok-words.words c.in_ok-paths.paths) layers
    ∙ (ap (λ words. found [] (c.args.seen.now ++ (c.args.middle.now ++ c.args.outer.now)) words c.in_ok-paths.paths) c.in_ok-words.ensures
    ∙ ap (found [] (c.args.seen.now ++ (c.args.middle.now ++ c.args.outer.now)) c.args.words.now) c.in_ok-paths.ensures)))
    c.check.ensures
