use Rattle.tk_resolve.proofs.ResolvedRuns.{one_body_each, specs_found, tasks_alike}
use Rattle.tk_resolve.proofs.laws.resolved_tasks.Goals as goal

pub returns-clause-alike : goal.returns-clause-alike
returns-clause-alike c = λ earlier run. tasks_alike earlier run

pub returns-clause-bodies : goal.returns-clause-bodies
returns-clause-bodies c = λ earlier run. one_body_each earlier run

pub returns-clause-specs : goal.returns-clause-specs
returns-clause-specs c = λ earlier run. specs_found earlier run
