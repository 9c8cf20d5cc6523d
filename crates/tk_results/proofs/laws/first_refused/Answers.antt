use Rattle.tk_results.proofs.FirstRefused.{first_refused}
use Rattle.tk_results.proofs.laws.first_refused.Goals as goal

pub returns : goal.returns
returns c = λ specs files name e. first_refused specs files name e
