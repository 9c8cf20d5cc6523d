use Rattle.std.proofs.Common.{◌+◌, sym, refl}
use Rattle.std.proofs.lemmas.List.{take_rest}
use Rattle.tk_vars.proofs.SplitFacts.{found_bracket, no_bracket}
use Rattle.tk_vars.proofs.splitting.split_inside.Goals as goal

pub returns-in-Some-clause-found : goal.returns-in-Some-clause-found
returns-in-Some-clause-found c = found_bracket c.args.text.now _ _ c.in-Some.end (sym c.in-Some.ensures) refl (take_rest c.args.text.now (c.in-Some.end + 1))

pub returns-in-None-clause-none : goal.returns-in-None-clause-none
returns-in-None-clause-none c = no_bracket c.args.text.now (sym c.in-None.ensures)
