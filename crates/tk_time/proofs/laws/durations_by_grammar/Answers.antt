use Rattle.tk_time.proofs.Grammar.{duration_of-grammar}
use Rattle.tk_time.proofs.laws.durations_by_grammar.Goals as goal

pub returns : goal.returns
returns c = duration_of-grammar
