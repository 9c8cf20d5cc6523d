use Rattle.tk_cache.specs.Views.{seen}
use Rattle.tk_rounds.proofs.Choosing.{chosen_same, chosen_took}
use Rattle.tk_rounds.proofs.Took.{works_by}
use Rattle.tk_rounds.proofs.bench.Controller.work.Goals as goal

pub returns-clause-took : goal.returns-clause-took
returns-clause-took g c =
    rw c.now-moment.ensures.last (works_by c.args.self.now.number (seen c.args.self.now.cache) c.now-moment.result c.args.store.now c.work.new.store c.in_ok-work.field-0 c.is_written.result c.is_written.ensures.ok c.in_ok-work.ensures.took)

pub returns-in_err-work-clause-chosen : goal.returns-in_err-work-clause-chosen
returns-in_err-work-clause-chosen g c was = chosen_same c.args.self.now.number c.args.store.now c.work.new.store c.in_err-work.ensures.err was

pub returns-clause-chosen : goal.returns-clause-chosen
returns-clause-chosen g c was =
    chosen_took c.args.self.now.number (seen c.args.self.now.cache) c.now-moment.result c.args.store.now c.requires.shows.same c.in_ok-work.field-0 c.work.new.store c.in_ok-work.ensures.took was
