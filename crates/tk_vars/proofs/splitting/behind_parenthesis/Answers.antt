use Rattle.std.proofs.Common.{arith}
use Rattle.std.proofs.lemmas.Str.Pattern.{strip_prefix_char}
use Rattle.tk_vars.proofs.StandFacts.{strip_found}
use Rattle.tk_vars.proofs.splitting.behind_parenthesis.Goals as goal

pub returns : goal.returns
returns c = strip_found c.args.text.now c.strip_prefix.result (strip_prefix_char 40 c.args.text.now c.strip_prefix.result c.strip_prefix.ensures.cases (omega arith))
