use Rattle.tk_verdict.proofs.Locality.{parents_within}
use Rattle.tk_verdict.proofs.moves.parents_first.Goals as goal

pub returns : goal.returns
returns c = parents_within
