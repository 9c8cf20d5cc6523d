use Rattle.tk_results.proofs.Undeclared.{undeclared}
use Rattle.tk_results.proofs.laws.undeclared.Goals as goal

pub returns : goal.returns
returns c = λ specs before after file h. undeclared specs before after file h
