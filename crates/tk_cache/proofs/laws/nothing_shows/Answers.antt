use Rattle.tk_cache.proofs.Showing.{shows_none}
use Rattle.tk_cache.proofs.laws.nothing_shows.Goals as goal

pub returns : goal.returns
returns c = shows_none
