use Rattle.std.proofs.Common.{ℕ, List, Bor, IfOk, IsTrue, ◌↔◌, All, map, subst, ap, ◌∙◌}
use Rattle.tk_vars.specs.Reading.{HasReading}
use Rattle.tk_spec_sound.proofs.texts.task_reads.Goals as goal

pub returns : goal.returns
returns c =
    subst (λ (texts : List (List ℕ)). IfOk c.each_reads.result (λ yes. IsTrue yes ↔ All HasReading texts))
    (ap (map (λ (t : Bor (List ℕ)). t.now)) c.as_slice.ensures.value ∙ c.in_ok-texts.ensures) c.each_reads.ensures
