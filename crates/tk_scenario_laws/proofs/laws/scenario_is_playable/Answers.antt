use Rattle.tk_scenario_laws.proofs.Playable.{scenario_is_playable}
use Rattle.tk_scenario_laws.proofs.laws.scenario_is_playable.Goals as goal

pub returns : goal.returns
returns c = scenario_is_playable
