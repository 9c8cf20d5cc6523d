use Rattle.std.proofs.Common.{arith}
use Rattle.tk_vars.proofs.StandFacts.{split_found, split_none}
use Rattle.std.proofs.lemmas.Str.Pattern.{split_parts}
use Rattle.tk_vars.proofs.splitting.split_dollar.Goals as goal

pub returns-clause-found : goal.returns-clause-found
returns-clause-found c = split_found 36 c.args.text.now c.split_once.result (split_parts 36 c.args.text.now c.split_once.result c.split_once.ensures.cases (omega arith))

pub returns-clause-none : goal.returns-clause-none
returns-clause-none c = split_none 36 c.args.text.now c.split_once.result (split_parts 36 c.args.text.now c.split_once.result c.split_once.ensures.cases (omega arith))
