use Rattle.tk_verdict.proofs.Lines.{ready_has_none, none_is_right}
use Rattle.tk_verdict.proofs.moves.without_children.Goals as goal

pub returns-clause-ready : goal.returns-clause-ready
returns-clause-ready c = ready_has_none

pub returns-clause-not_wrong : goal.returns-clause-not_wrong
returns-clause-not_wrong c = none_is_right
