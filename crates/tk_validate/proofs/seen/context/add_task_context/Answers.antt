use Rattle.tk_validate.proofs.StepWords.{three_pushed}
use Rattle.tk_validate.proofs.seen.context.add_task_context.Goals as goal

pub returns : goal.returns
returns c =
    three_pushed c.args.words.now _ _ _ _ _ _ _ _ _ c.in_ok-push.ensures.ok c.in_ok-push-2.ensures.ok c.in_ok-push-3.ensures.ok c.in_ok-from_str.ensures c.in_ok-from_str-2.ensures c.in_ok-from_str-3.ensures
