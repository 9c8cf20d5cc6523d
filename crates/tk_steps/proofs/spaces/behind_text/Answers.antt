use Rattle.tk_steps.proofs.Behind.{text_behind}
use Rattle.tk_steps.proofs.spaces.behind_text.Goals as goal

pub returns : goal.returns
returns c = text_behind c.args.folder.now c.args.path.now c.strip_prefix.result c.strip_prefix.ensures.cases
