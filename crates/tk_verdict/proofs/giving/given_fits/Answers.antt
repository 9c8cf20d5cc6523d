use Rattle.tk_verdict.proofs.Fitting.{given_fits}
use Rattle.tk_verdict.proofs.giving.given_fits.Goals as goal

pub returns : goal.returns
returns c facts place index bindings binding body gives at body_at = given_fits facts place bindings gives index binding at body body_at
