use Rattle.std.proofs.Common.{ap, ◌∙◌}
use Rattle.std.specs.Option.{is_some}
use Rattle.tk_journal.specs.Stops.{asked_stop}
use Rattle.tk_spec_sound.proofs.Answers.{there_tells}
use Rattle.tk_spec_sound.proofs.run.stops.Goals as goal

pub returns : goal.returns
returns c = there_tells (asked_stop c.args.status) c.is_some.result (c.is_some.ensures ∙ ap is_some c.stop_of.ensures)
