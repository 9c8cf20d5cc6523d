use Rattle.tk_journal.proofs.Statements.{legal_is_right}
use Rattle.tk_machine.proofs.Soundness.{sound_run}
use Rattle.tk_machine.proofs.laws.runs_are_right.Goals as goal

pub returns : goal.returns
returns c script w after given sound run n = legal_is_right after.history (sound_run script w after given sound run).legal n
