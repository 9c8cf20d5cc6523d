use Rattle.tk_labels.proofs.Changes.{changed_formed}
use Rattle.tk_labels.proofs.formed.changed_formed.Goals as goal

pub returns : goal.returns
returns c = changed_formed
