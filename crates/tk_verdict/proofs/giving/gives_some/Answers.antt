use Rattle.tk_verdict.proofs.GivenRight.{gives_place, gives_some, gives_within, gives_counted}
use Rattle.tk_verdict.proofs.PossibleChildren.{gives_possible}
use Rattle.tk_verdict.proofs.giving.gives_some.Goals as goal

pub returns-clause-exists : goal.returns-clause-exists
returns-clause-exists c = gives_place

pub returns-clause-some : goal.returns-clause-some
returns-clause-some c = gives_some

pub returns-clause-few : goal.returns-clause-few
returns-clause-few c = gives_within

pub returns-clause-counted : goal.returns-clause-counted
returns-clause-counted c = gives_counted

pub returns-clause-possible : goal.returns-clause-possible
returns-clause-possible c = gives_possible
