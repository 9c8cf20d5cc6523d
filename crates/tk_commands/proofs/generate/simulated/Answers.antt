use Rattle.std.proofs.Common.{◌≡◌, ℕ, List, sym, subst}
use Rattle.tk_types.specs.Rejected.{IsRefusal}
use Rattle.tk_manifest.specs.declared.kinds.KindSet.TheVariants.{WithScenario}
use Rattle.tk_admit.specs.Admit.{input_fault}
use Rattle.tk_commands.specs.declared.due.Due.{Due}
use Rattle.tk_commands.specs.Due.{IsRefusalDue}
use Rattle.tk_commands.proofs.Generated.{refused_text}
use Rattle.tk_commands.proofs.generate.simulated.Goals as goal

pub returns-in_ok-refused-in-Err : goal.returns-in_ok-refused-in-Err
returns-in_ok-refused-in-Err c =
    refused_text c.args.text.now c.in-Err.error c.without_journal.result
    (subst (λ (bytes : List ℕ). IsRefusal (input_fault WithScenario 0 bytes) c.in-Err.error) c.as_bytes.ensures.value c.in-Err.ensures)
    (subst (λ (due : Due). IsRefusalDue c.in-Err.error due) (sym c.without_journal.ensures.due) c.in_ok-refused-in-Err.ensures)
    c.without_journal.ensures.journal
