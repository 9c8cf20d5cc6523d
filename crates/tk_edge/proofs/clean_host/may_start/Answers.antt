use Rattle.std.proofs.Common.{◌∙◌}
use Rattle.tk_edge.proofs.Starts.{may_start_else}
use Rattle.tk_edge.proofs.clean_host.may_start.Goals as goal

pub returns-else-put_in : goal.returns-else-put_in
returns-else-put_in c = may_start_else c.args.arming.now _ c.as_str.result.now c.some_passed.result c.as_str.ensures (c.put_in.ensures ∙ c.if-put_in.false) c.some_passed.ensures
