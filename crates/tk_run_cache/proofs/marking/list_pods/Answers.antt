use Rattle.tk_run_cache.proofs.Marked.{pods_active}
use Rattle.tk_run_cache.proofs.marking.list_pods.Goals as goal

pub returns-clause-active : goal.returns-clause-active
returns-clause-active c =
    pods_active c.args.cache.now c.relist.new.self c.args.journal.now.history c.requires.shows c.in_ok-relist.ensures.shows c.args.active.now c.requires.active c.args.position c.in_ok-relist.ensures.fronts
