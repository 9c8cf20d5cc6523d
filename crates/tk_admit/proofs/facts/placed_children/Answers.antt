use Rattle.tk_types.specs.First.{first_in}
use Rattle.tk_admit.specs.Command.{child_finding}
use Rattle.tk_admit.specs.Taken.{with_earlier}
use Rattle.tk_admit.proofs.Steps.{behind_refused}
use Rattle.tk_admit.proofs.facts.placed_children.Goals as goal

pub returns-in-Err-clause-refused : goal.returns-in-Err-clause-refused
returns-in-Err-clause-refused c =
    behind_refused (child_finding c.args.places.now) c.args.place.now c.at-at.result c.args.children.now c.loop-index.stood c.loop-index.index c.index-children-index.result
    (first_in (child_finding c.args.places.now) c.args.place.now (with_earlier c.args.children.now)) c.in-Err.refused c.loop-index-test.true c.index-children-index.is c.at-at.ensures c.loop-index.invariant.stood c.loop-index.invariant.found c.in-Err.ensures.found
