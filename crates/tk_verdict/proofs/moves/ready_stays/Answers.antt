use Rattle.tk_verdict.proofs.Steps.{ready_stays}
use Rattle.tk_verdict.proofs.moves.ready_stays.Goals as goal

pub returns : goal.returns
returns c = λ old new place formed gains ready. ready_stays c.one_bad_offset.ensures.good old new formed place gains ready
