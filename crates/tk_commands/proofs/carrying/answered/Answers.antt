use Rattle.std.proofs.Common.{Err, ap}
use Rattle.tk_commands.proofs.Endings.{answer_status, too_long_due}
use Rattle.tk_commands.proofs.carrying.answered.Goals as goal

pub returns-in_ok-answer_of-in-Ok-clause-answer : goal.returns-in_ok-answer_of-in-Ok-clause-answer
returns-in_ok-answer_of-in-Ok-clause-answer g c = answer_status c.args.command c.as_slice.result.now c.in_ok-answer_of-in-Ok.field-0 c.in_ok-answer_of-in-Ok.ensures

pub returns-in_ok-too_long_answer-in-Err-TooLong-clause-due : goal.returns-in_ok-too_long_answer-in-Err-TooLong-clause-due
returns-in_ok-too_long_answer-in-Err-TooLong-clause-due g c =
    too_long_due c.args.command (g.R.Source.left c.args.input.now) (g.R.Source.ended c.read_all.new.input) c.in_ok-too_long_answer-in-Err-TooLong.field-0
    c.in_ok-too_long_answer-in-Err-TooLong.ensures.due c.in_ok-too_long_answer-in-Err-TooLong.ensures.journal (c.in-Err-TooLong.ensures.too_long (ap Err c.in-Err-TooLong.field-0-is))
