use Rattle.tk_verdict.proofs.Formed.{readable}
use Rattle.tk_verdict.proofs.decision.Decision.labels.Goals as goal

pub labels-requires-clause-readable : goal.labels-requires-clause-readable
labels-requires-clause-readable c = readable c.self.inside.facts.now c.self.invariant.well_formed
