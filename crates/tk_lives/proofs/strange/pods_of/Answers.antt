use Rattle.tk_cache.specs.Views.{seen}
use Rattle.tk_lives.proofs.strange.pods_of.Goals as goal

pub relist-requires-clause-shows : goal.relist-requires-clause-shows
relist-requires-clause-shows c = c.nothing_shows.ensures (seen c.empty-cache.result) c.args.journal.now.history c.empty-cache.ensures
