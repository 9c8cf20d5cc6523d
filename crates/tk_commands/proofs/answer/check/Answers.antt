use Rattle.std.proofs.Common.{◌≡◌, ℕ, List, subst, sym}
use Rattle.tk_types.specs.Rejected.{IsRefusal}
use Rattle.tk_manifest.specs.declared.kinds.KindSet.TheVariants.{Four}
use Rattle.tk_journal.specs.declared.admitted.Admitted.{Admitted}
use Rattle.tk_admit.specs.Admit.{input_fault}
use Rattle.tk_commands.specs.declared.due.Due.{Due}
use Rattle.tk_commands.specs.Due.{checked, IsRefusalDue}
use Rattle.tk_commands.proofs.Endings.{refused_due}
use Rattle.tk_commands.proofs.answer.check.Goals as goal

pub returns-in_ok-refused-in-Err-clause-due : goal.returns-in_ok-refused-in-Err-clause-due
returns-in_ok-refused-in-Err-clause-due c =
    let error = c.in-Err.error in
    refused_due (λ (found : Admitted) (due : Due). due ≡ checked found.objects) Four c.args.bytes.now error c.without_journal.result.due
    (subst (λ (bytes : List ℕ). IsRefusal (input_fault Four 0 bytes) error) c.in_ok-document.ensures c.in-Err.ensures.admitted)
    (subst (IsRefusalDue error) (sym c.without_journal.ensures.due) c.in_ok-refused-in-Err.ensures)
