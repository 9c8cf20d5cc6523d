use Rattle.tk_names.proofs.ClashLaw.{clash-none_is, clash-found_is}
use Rattle.tk_names.proofs.laws.clash_is_the_first.Goals as goal

pub returns : goal.returns
returns c = record { none = clash-none_is; found = clash-found_is }
