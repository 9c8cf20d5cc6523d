use Rattle.tk_admit.proofs.FactsThere.{facts_there}
use Rattle.tk_admit.proofs.admission.admit_items.Goals as goal

pub returns-clause-decided : goal.returns-clause-decided
returns-clause-decided c = facts_there c.args.kinds c.args.items.now _ _ c.in_ok-outcomes.ensures.found.0 c.in_ok-outcomes.ensures.found.1
