use Rattle.tk_types.specs.declared.object.Asked.{Asked}
use Rattle.tk_journal.specs.Lists.{IsThere}
use Rattle.tk_journal.specs.Stops.{asked_stop}
use Rattle.tk_spec_sound.proofs.Answers.{none_asks, some_tells}
use Rattle.tk_spec_sound.proofs.run.asks_stop.Goals as goal

abbrev Stops : Asked → Type 0
Stops status = IsThere (asked_stop status)

pub returns-in-Some : goal.returns-in-Some
returns-in-Some c = some_tells Stops c.args.asked.now c.in-Some.status c.stops.result c.in-Some.is c.stops.ensures

pub returns-in-None : goal.returns-in-None
returns-in-None c = none_asks Stops c.args.asked.now c.in-None.is
