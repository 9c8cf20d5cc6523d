use Rattle.std.proofs.Common.{◌∙◌}
use Rattle.tk_user.proofs.AtEnd.{task_run_end}
use Rattle.tk_user.proofs.asking.task_run_refused.Goals as goal

pub returns : goal.returns
returns c =
    c.of_task_run.ensures ∙ task_run_end c.args.journal.now.history c.args.name.now c.len-end.result c.version_of-version.result c.in_ok-task_run.task_run c.len-end.ensures.value c.version_of-version.ensures c.in_ok-task_run.ensures
