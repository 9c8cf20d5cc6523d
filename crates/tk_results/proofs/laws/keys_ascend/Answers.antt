use Rattle.tk_results.proofs.KeyOrder.{keys_ascend}
use Rattle.tk_results.proofs.laws.keys_ascend.Goals as goal

pub returns : goal.returns
returns c = λ bytes pairs e. keys_ascend bytes pairs e
