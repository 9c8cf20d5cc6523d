use Rattle.tk_guard.proofs.Members.{in_values-Decides, not_in_values-Decides, all_hold-Decides}
use Rattle.tk_guard.proofs.laws.expressions.Goals as goal

pub returns-clause-member : goal.returns-clause-member
returns-clause-member c = λ input values. in_values-Decides input values

pub returns-clause-no_member : goal.returns-clause-no_member
returns-clause-no_member c = λ input values. not_in_values-Decides input values

pub returns-clause-each : goal.returns-clause-each
returns-clause-each c = λ guards. all_hold-Decides guards
