-- A generated text that is refused.
use Rattle.std.proofs.Common.{◌≡◌, ℕ, List, [], Option, Some, None, refl, subst, sym, true}
use Rattle.tk_types.specs.declared.rejected.Rejected.{Rejected}
use Rattle.tk_types.specs.declared.rejected.Rejected.TheVariants.{Memory, Fault as FaultFound}
use Rattle.tk_types.specs.Rejected.{IsRefusal}
use Rattle.tk_types.specs.First.{Finding}
use Rattle.tk_manifest.specs.declared.kinds.KindSet.TheVariants.{WithScenario}
use Rattle.tk_admit.specs.Admit.{input_fault}
use Rattle.tk_commands.specs.declared.answer.Answer.{Answer}
use Rattle.tk_commands.specs.declared.command.Command.{Command}
use Rattle.tk_commands.specs.declared.generate_words.Generation.{Generation}
use Rattle.tk_commands.specs.Due.{IsRefusalDue}
use Rattle.tk_commands.specs.Generate.{Generates, Summarizes}
use Rattle.tk_commands.specs.Run.{IsUsage}

pub refused_text : (text : List ℕ) (error : Rejected) (answer : Answer)
    → IsRefusal (input_fault WithScenario 0 text) error → IsRefusalDue error answer.due → answer.journal.history ≡ [] → Generates true text answer
refused_text text Memory answer found told none = absurd told
refused_text text (FaultFound fault) answer found told none = subst (λ (f : Finding). Summarizes text f answer) (sym found) (told, none)

-- words of `generate` that ask for something are no usage
pub asks_for_nothing : (wanted : Option Generation) (command : Option Command) → IsUsage None (Some wanted) command → wanted ≡ None
asks_for_nothing None command usage = refl
asks_for_nothing (Some wanted) command usage = absurd usage
