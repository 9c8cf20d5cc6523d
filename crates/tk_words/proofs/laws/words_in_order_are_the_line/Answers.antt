use Rattle.tk_words.proofs.InOrder.{line_in_order}
use Rattle.tk_words.proofs.laws.words_in_order_are_the_line.Goals as goal

pub returns : goal.returns
returns c = line_in_order
