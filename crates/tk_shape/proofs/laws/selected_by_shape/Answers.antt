use Rattle.tk_shape.proofs.Selected.{selected_same}
use Rattle.tk_shape.proofs.laws.selected_by_shape.Goals as goal

pub returns : goal.returns
returns c selector value = selected_same selector value
