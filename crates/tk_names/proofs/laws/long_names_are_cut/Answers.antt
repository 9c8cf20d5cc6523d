use Rattle.tk_names.proofs.Cut.{shortened-ascii, shortened-fits}
use Rattle.tk_names.proofs.laws.long_names_are_cut.Goals as goal

pub returns : goal.returns
returns c = record { at_30 = shortened-ascii; fits = shortened-fits }
