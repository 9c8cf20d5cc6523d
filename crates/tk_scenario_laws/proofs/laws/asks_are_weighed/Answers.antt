use Rattle.tk_scenario_laws.proofs.Admitted.{asks_are_weighed}
use Rattle.tk_scenario_laws.proofs.laws.asks_are_weighed.Goals as goal

pub returns : goal.returns
returns c = asks_are_weighed
