use Rattle.tk_kubelet.proofs.Found.{on_err}
use Rattle.tk_rounds.proofs.bench.Node.work.Goals as goal

pub returns-in_err-turn-clause-memory : goal.returns-in_err-turn-clause-memory
returns-in_err-turn-clause-memory g c = on_err _ c.from_residual.result (rw c.now-moment.ensures.last c.in_err-turn.ensures.memory)

pub returns-clause-worked : goal.returns-clause-worked
returns-clause-worked g c = (c.in_ok-turn.turn, rw c.now-moment.ensures.last c.in_ok-turn.ensures.answer, c.is_written.ensures)
