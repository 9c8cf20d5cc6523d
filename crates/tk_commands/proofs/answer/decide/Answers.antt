use Rattle.std.proofs.Common.{◌≡◌, ℕ, List, None, ap, subst, ◌∙◌}
use Rattle.tk_types.specs.Rejected.{IsRefusal}
use Rattle.tk_manifest.specs.declared.kinds.KindSet.TheVariants.{WithOutcomes}
use Rattle.tk_admit.specs.Admit.{admitted, input_fault}
use Rattle.tk_commands.specs.Due.{root}
use Rattle.tk_commands.proofs.Endings.{decided_due, refused_decision}
use Rattle.tk_commands.proofs.answer.decide.Goals as goal

pub returns-in-Ok : goal.returns-in-Ok
returns-in-Ok c =
    decided_due c.args.bytes.now c.in-Ok.admitted c.decided_there-due.result
    (subst (λ (bytes : List ℕ). input_fault WithOutcomes 0 bytes ≡ None) c.in_ok-document.ensures c.in-Ok.ensures.admitted.0)
    (c.in-Ok.ensures.admitted.1 ∙ ap (admitted WithOutcomes 0 root) c.in_ok-document.ensures)
    c.decided_there-due.ensures

pub returns-in-Err : goal.returns-in-Err
returns-in-Err c =
    refused_decision c.args.bytes.now c.in-Err.error c.refused.result
    (subst (λ (bytes : List ℕ). IsRefusal (input_fault WithOutcomes 0 bytes) c.in-Err.error) c.in_ok-document.ensures c.in-Err.ensures.admitted)
    c.refused.ensures
