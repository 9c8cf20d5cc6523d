use Rattle.std.proofs.Common.{List, ℕ, sym, subst, ap, ◌∙◌}
use Rattle.tk_vars.specs.Reading.{HasReading}
use Rattle.tk_verdict.proofs.missing.lack.Goals as goal
use denote.Bor.{Bor}

pub text_lacks-requires : goal.text_lacks-requires
text_lacks-requires c =
    let P : List ℕ → Type 0 = λ t. HasReading t in
    subst P (ap (λ (t : Bor (List ℕ)). t.now) (sym c.text-item.is) ∙ sym c.as_str.ensures) (c.requires c.loop-text.text-index c.text-item.result c.loop-text-test.true)
