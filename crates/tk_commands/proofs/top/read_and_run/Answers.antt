use Rattle.std.proofs.Common.{Err, ap}
use Rattle.tk_commands.proofs.RunEnds.{too_long_run}
use Rattle.tk_commands.proofs.top.read_and_run.Goals as goal

pub returns-in-Ok-too_long_answer-clause-due : goal.returns-in-Ok-too_long_answer-clause-due
returns-in-Ok-too_long_answer-clause-due g c =
    too_long_run g.G.Gate.answers g.K.Clock.readings g.K.Clock.last g.H.Host.told g.H.Host.killed g.H.Host.faults c.args.options.now c.args.bench.now (g.R.Source.left c.args.input.now) (g.R.Source.ended c.read_all.new.input)
    c.in-Ok-too_long_answer.answer c.in-Ok-too_long_answer.ensures.due c.in-Ok-too_long_answer.ensures.journal (c.in-Err-TooLong.ensures.too_long (ap Err c.in-Err-TooLong.field-0-is))
