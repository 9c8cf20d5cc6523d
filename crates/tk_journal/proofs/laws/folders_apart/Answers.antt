use Rattle.tk_journal.proofs.Folders.{folders_apart}
use Rattle.tk_journal.proofs.laws.folders_apart.Goals as goal

pub returns : goal.returns
returns c = folders_apart
