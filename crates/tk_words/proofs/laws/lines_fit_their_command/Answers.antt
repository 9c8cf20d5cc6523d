use Rattle.tk_words.proofs.FitsLine.{some_line_fits}
use Rattle.tk_words.proofs.laws.lines_fit_their_command.Goals as goal

pub returns : goal.returns
returns c = some_line_fits
