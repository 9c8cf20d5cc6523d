use Rattle.tk_verdict.proofs.GoesOn.{ready_gives, ready_unstopped, ready_not_late}
use Rattle.tk_verdict.proofs.progress.ready_goes_on.Goals as goal

pub returns-clause-given : goal.returns-clause-given
returns-clause-given c = ready_gives

pub returns-clause-unstopped : goal.returns-clause-unstopped
returns-clause-unstopped c = ready_unstopped

pub returns-clause-not_late : goal.returns-clause-not_late
returns-clause-not_late c = ready_not_late
