use Rattle.tk_validate.proofs.ValidPipeline.{few, names, parents, order}
use Rattle.tk_validate.proofs.laws.valid_pipeline.Goals as goal

pub returns-clause-few : goal.returns-clause-few
returns-clause-few c = λ item pipeline is e. few item pipeline is e

pub returns-clause-names : goal.returns-clause-names
returns-clause-names c = λ item pipeline is e. names item pipeline is e

pub returns-clause-parents : goal.returns-clause-parents
returns-clause-parents c = λ item pipeline is e. parents item pipeline is e

pub returns-clause-order : goal.returns-clause-order
returns-clause-order c = λ item pipeline is e. order item pipeline is e (λ tasks none. (c.no_cycle.ensures tasks).0 none)
