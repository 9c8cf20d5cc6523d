use Rattle.tk_taskrec.proofs.Fit.{fit_at}
use Rattle.tk_taskrec.proofs.laws.seen_is_fit.Goals as goal

pub returns : goal.returns
returns c = λ history legal fronts. fit_at fronts history legal
