use Rattle.tk_steps.proofs.Behind.{both_behind}
use Rattle.tk_steps.proofs.spaces.behind.Goals as goal

pub returns : goal.returns
returns c = both_behind c.args.path.now c.args.folder.now c.in-Some.text.now c.behind_slash.result c.in-Some.ensures c.behind_slash.ensures
