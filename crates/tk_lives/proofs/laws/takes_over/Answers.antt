use Rattle.tk_lives.proofs.Taken.{takes_over}
use Rattle.tk_lives.proofs.laws.takes_over.Goals as goal

pub returns : goal.returns
returns c = takes_over
