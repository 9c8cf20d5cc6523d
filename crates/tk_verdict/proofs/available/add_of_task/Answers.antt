use Rattle.std.proofs.Common.{◌∙◌, ap}
use Rattle.tk_verdict.specs.Facts.{all_ended, is_good}
use Rattle.tk_verdict.proofs.AvailableFacts.{none_available}
use Rattle.tk_verdict.proofs.available.add_of_task.Goals as goal

pub returns-then-not-are_good : goal.returns-then-not-are_good
returns-then-not-are_good c = λ facts place same.
    none_available facts place c.args.task.now c.args.made.now (c.if-not-are_good.ensures ∙ ap (all_ended (is_good c.args.task.now)) same)
