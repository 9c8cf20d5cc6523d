use Rattle.tk_matrix.proofs.Alone.{entry_counted, entry_given}
use Rattle.tk_matrix.proofs.laws.entry_alone.Goals as goal

pub returns-clause-counted : goal.returns-clause-counted
returns-clause-counted c = λ matrix k entry full e h. entry_counted matrix k entry full e h

pub returns-clause-given : goal.returns-clause-given
returns-clause-given c = λ matrix k entry full e h. entry_given matrix k entry full e h
