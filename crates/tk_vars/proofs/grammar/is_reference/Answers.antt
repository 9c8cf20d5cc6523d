use Rattle.std.proofs.Common.{◌∙◌}
use Rattle.tk_vars.proofs.TableFacts.{allowed_reference}
use Rattle.tk_vars.proofs.grammar.is_reference.Goals as goal

pub returns : goal.returns
returns c = c.is_allowed.ensures ∙ allowed_reference c.args.inner.now c.split_head.result.0.now c.split_head.result.1.now c.split_head.ensures
