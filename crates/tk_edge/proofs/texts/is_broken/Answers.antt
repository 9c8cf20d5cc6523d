use Rattle.std.proofs.Common.{◌∙◌, codes}
use Rattle.tk_edge.proofs.Starts.{ends_so, no_tail}
use Rattle.tk_edge.proofs.texts.is_broken.Goals as goal

pub returns-in-Some : goal.returns-in-Some
returns-in-Some c = c.eq.ensures ∙ ends_so c.args.path.now c.args.file.now c.in-Some.rest.now c.as_bytes.result.now (codes ".err") c.as_bytes.ensures.value c.in-Some.ensures.cases.0 c.in-Some.ensures.cases.1

pub returns-in-None : goal.returns-in-None
returns-in-None c = no_tail c.args.path.now c.args.file.now (codes ".err") c.in-None.ensures.cases
