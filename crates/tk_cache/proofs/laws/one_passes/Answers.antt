use Rattle.tk_cache.proofs.Passed.{same_but}
use Rattle.tk_cache.proofs.laws.one_passes.Goals as goal

pub returns : goal.returns
returns c = λ kind was now history e shown shows at moved. same_but was now history e shown shows kind at moved
