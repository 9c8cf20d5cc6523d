use Rattle.tk_cache.proofs.Passed.{same_of}
use Rattle.tk_cache.proofs.laws.fronts_decide.Goals as goal

pub returns : goal.returns
returns c = λ kind was now history shown shows same. same_of was now history shown shows kind same
