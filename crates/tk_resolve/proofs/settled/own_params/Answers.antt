use Rattle.std.proofs.Common.{sym, ◌∙◌}
use Rattle.tk_resolve.proofs.EarlyParams.{early_is_all, no_elements}
use Rattle.tk_resolve.proofs.settled.own_params.Goals as goal
use Rattle.tk_resolve.proofs.settled.own_params.Goals.{then-is_empty+in_ok-early, else-is_empty+in_ok-early-2}

pub returns-clause-early : goal.returns-clause-early
returns-clause-early c =
    elim c.if-is_empty.branch [
      | then-is_empty+in_ok-early w ↦ w.early-is ∙ (w.in_ok-early.ensures ∙ sym (early_is_all c.args.task.now (sym c.in_ok-late.ensures ∙ no_elements c.in_ok-late.late w.if-is_empty.ensures)))
      | else-is_empty+in_ok-early-2 w ↦ w.early-is ∙ w.in_ok-early-2.ensures
    ]
