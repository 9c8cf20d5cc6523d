use Rattle.std.proofs.Common.{arith}
use Rattle.std.proofs.lemmas.Str.Pattern.{strip_prefix_char}
use Rattle.tk_steps.proofs.Behind.{slash_behind}
use Rattle.tk_steps.proofs.spaces.behind_slash.Goals as goal

pub returns : goal.returns
returns c = slash_behind c.args.text.now c.strip_prefix.result (strip_prefix_char 47 c.args.text.now c.strip_prefix.result c.strip_prefix.ensures.cases (omega arith))
