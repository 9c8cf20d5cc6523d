use Rattle.tk_deeds.proofs.Deeds.{deeds_within_weight}
use Rattle.tk_deeds.proofs.laws.deeds_within_weight.Goals as goal

pub returns : goal.returns
returns c = deeds_within_weight
