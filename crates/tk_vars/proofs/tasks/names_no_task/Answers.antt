use Rattle.std.proofs.Common.{◌≡◌, Bool, true, false, refl, sym, ◌∙◌, not}
use Rattle.tk_vars.proofs.TaskFacts.{no_task_from}
use Rattle.tk_vars.proofs.tasks.names_no_task.Goals as goal

negated : (x : Bool) → not x ≡ true → x ≡ false
negated true e = cc
negated false e = refl

pub returns-clause-references : goal.returns-clause-references
returns-clause-references c = λ yes. no_task_from 0 c.args.text.now (sym c.begins_task_within.ensures ∙ negated c.begins_task_within.result yes)
