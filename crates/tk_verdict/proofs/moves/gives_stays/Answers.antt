use Rattle.tk_verdict.proofs.Steps.{gives_stays}
use Rattle.tk_verdict.proofs.moves.gives_stays.Goals as goal

pub returns : goal.returns
returns c = λ old new place bindings formed moves gives. gives_stays c.one_bad_offset.ensures.good old new formed place bindings moves gives
