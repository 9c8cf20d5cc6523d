use Rattle.tk_cache.specs.Views.{seen}
use Rattle.tk_actor_tests.proofs.journals.fresh.Goals as goal

pub returns : goal.returns
returns c = c.nothing_shows.ensures (seen c.empty.result) c.args.journal.now.history c.empty.ensures
