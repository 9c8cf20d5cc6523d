use Rattle.std.proofs.Common.{◌≡◌}
use Rattle.tk_types.specs.declared.object.Asked.{Asked}
use Rattle.tk_types.specs.declared.object.Asked.TheVariants.{TaskRunCancelled}
use Rattle.tk_spec_sound.proofs.Answers.{none_asks, some_tells}
use Rattle.tk_spec_sound.proofs.task_run.asks_cancel.Goals as goal

abbrev Cancels : Asked → Type 0
Cancels status = status ≡ TaskRunCancelled

pub returns-in-Some : goal.returns-in-Some
returns-in-Some c = some_tells Cancels c.args.asked.now c.in-Some.status c.cancels.result c.in-Some.is c.cancels.ensures

pub returns-in-None : goal.returns-in-None
returns-in-None c = none_asks Cancels c.args.asked.now c.in-None.is
