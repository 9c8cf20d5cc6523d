use Rattle.tk_verdict.proofs.Steps.{label_stays}
use Rattle.tk_verdict.proofs.moves.label_stays.Goals as goal

pub returns : goal.returns
returns c = λ old new place formed moves settled. label_stays c.one_bad_offset.ensures.good old new formed place moves settled
