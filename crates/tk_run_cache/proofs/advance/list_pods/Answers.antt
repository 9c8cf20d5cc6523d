use Rattle.tk_cache.specs.Views.{seen}
use Rattle.tk_run_cache.proofs.Passed.{pods_listed}
use Rattle.tk_run_cache.proofs.advance.list_pods.Goals as goal

pub returns-clause-labelled : goal.returns-clause-labelled
returns-clause-labelled c =
    pods_listed (seen c.args.cache.now) (seen c.relist.new.self) c.args.journal.now.history c.args.position c.requires.shows c.in_ok-relist.ensures.shows c.args.runs.now c.requires.labelled c.in_ok-relist.ensures.fronts
