use Rattle.tk_verdict.proofs.GivenRight.{given_is_right}
use Rattle.tk_verdict.proofs.giving.given_is_right.Goals as goal

pub returns : goal.returns
returns c = given_is_right
