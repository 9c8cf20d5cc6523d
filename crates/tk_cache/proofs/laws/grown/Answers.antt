use Rattle.tk_cache.proofs.Showing.{shows_grown}
use Rattle.tk_cache.proofs.laws.grown.Goals as goal

pub returns : goal.returns
returns c = shows_grown
