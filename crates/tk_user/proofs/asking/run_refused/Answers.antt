use Rattle.std.proofs.Common.{◌∙◌}
use Rattle.tk_user.proofs.AtEnd.{run_end}
use Rattle.tk_user.proofs.asking.run_refused.Goals as goal

pub returns : goal.returns
returns c =
    c.of_run.ensures ∙ run_end c.args.journal.now.history c.args.name.now c.args.status c.len-end.result c.version_of-version.result c.in_ok-run.run' c.len-end.ensures.value c.version_of-version.ensures c.in_ok-run.ensures
