use Rattle.tk_matrix.proofs.Alone.{count_of_none, combinations_of_none}
use Rattle.tk_matrix.proofs.laws.empty_list.Goals as goal

pub returns-clause-count : goal.returns-clause-count
returns-clause-count c = λ matrix param at e. count_of_none matrix param at e

pub returns-clause-none : goal.returns-clause-none
returns-clause-none c = λ matrix param at e. combinations_of_none matrix param at e
