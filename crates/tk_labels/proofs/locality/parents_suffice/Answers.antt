use Rattle.tk_labels.proofs.FewResults.{parents_suffice}
use Rattle.tk_labels.proofs.locality.parents_suffice.Goals as goal

pub returns : goal.returns
returns c = λ facts place task formed there. parents_suffice c.one_bad_offset.ensures.good facts formed place task there
