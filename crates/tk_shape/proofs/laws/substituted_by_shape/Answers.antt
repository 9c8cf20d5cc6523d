use Rattle.tk_shape.proofs.Texts.{value_same, params_same, list_in_same}
use Rattle.tk_shape.proofs.laws.substituted_by_shape.Goals as goal

pub returns : goal.returns
returns c = record { value = value_same; params = params_same; list = list_in_same }
