use Rattle.std.proofs.Common.{◌≡◌, Bool, IsTrue, ◌↔◌, ap, sym, ◌∙◌}
use Rattle.std.proofs.lemmas.Result.{IfOk-weaker}
use Rattle.tk_types.specs.declared.run.Start.TheVariants.{Ready}
use Rattle.tk_bind.specs.Fits.{fits}
use Rattle.tk_spec_sound.proofs.Answers.{yes_is}
use Rattle.tk_spec_sound.proofs.Counts.{not_ready}
use Rattle.tk_spec_sound.proofs.task_run.fits_its_body.Goals as goal

pub returns-in-Ready : goal.returns-in-Ready
returns-in-Ready c =
    let spec = c.args.spec.now in
    IfOk-weaker c.fits.result (λ (yes : Bool). yes ≡ fits spec.body c.as_slice.result.now) (λ (yes : Bool). IsTrue yes ↔ (spec.start ≡ Ready → IsTrue (fits spec.body spec.params)))
    (λ yes is.
    let same : yes ≡ fits spec.body spec.params = is ∙ ap (fits spec.body) c.as_slice.ensures in
    (λ fit ready. sym same ∙ fit, λ needs. same ∙ needs c.in-Ready.is))
    c.fits.ensures

pub returns-in-Unstartable : goal.returns-in-Unstartable
returns-in-Unstartable c = yes_is (λ ready. absurd (not_ready _ _ c.in-Unstartable.is ready))
