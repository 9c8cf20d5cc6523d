use Rattle.tk_scenario_laws.proofs.Admitted.{admitted_is_playable}
use Rattle.tk_scenario_laws.proofs.laws.admitted_is_playable.Goals as goal

pub returns : goal.returns
returns c = admitted_is_playable
