use Rattle.std.proofs.Common.{sym, ap, ◌∙◌}
use Rattle.tk_validate.specs.Workspaces.{names_of_spaces, pipeline_hands_on, task_hands_on}
use Rattle.tk_validate.proofs.rules.workspaces.DeclaredRulePipelineSpec.check.Goals as goal

pub returns : goal.returns
unfolding pipeline_hands_on task_hands_on
returns c = rw (sym (c.in_ok-names.ensures ∙ ap names_of_spaces c.as_slice.ensures)) c.check_tasks.ensures
