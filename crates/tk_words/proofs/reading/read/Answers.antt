use Rattle.std.proofs.Common.{◌∙◌, subst, sym}
use Rattle.tk_words.proofs.FitsLine.{FitsIfSome, line_fits}
use Rattle.tk_words.proofs.reading.read.Goals as goal

pub by_clap-requires : goal.by_clap-requires
by_clap-requires c = record { fits = subst FitsIfSome (sym c.in_ok-line.ensures ∙ c.in-Some.is) (line_fits c.args.words.now) }
