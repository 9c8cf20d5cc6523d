use Rattle.std.proofs.Common.{List, [], ◌∷◌, ◌++◌, ap, ◌∙◌, append_assoc}
use Rattle.std.specs.Prelude.{replicate}
use Rattle.tk_types.specs.declared.verdict.Verdict.{Verdict}
use Rattle.tk_types.specs.declared.verdict.Verdict.TheVariants.{Waits}
use Rattle.tk_labels.proofs.Relabelled.{waits_more}
use Rattle.tk_labels.proofs.relabel.push_waits.Goals as goal

pub loop-i-preserved : goal.loop-i-preserved
loop-i-preserved c =
    c.in_ok-push.ensures.items
    ∙ (ap (λ (ls : List Verdict). ls ++ Waits ∷ []) c.loop-i.invariant
    ∙ (append_assoc c.args.labels.now.items (replicate c.loop-i._i Waits) (Waits ∷ [])
    ∙ ap (λ (ls : List Verdict). c.args.labels.now.items ++ ls) (waits_more c.loop-i._i)))
