-- How a cache is moved, and the events of that.
use Rattle.std.specs.Prelude.{min, List, length}
use Rattle.tk_types.specs.declared.scenario.Event.{Event}
use Rattle.tk_types.specs.declared.scenario.Event.TheVariants as events
use Rattle.tk_types.specs.declared.scenario.Viewer.{Viewer}
use Rattle.tk_journal.specs.declared.entry.Entry.{Entry}
use Rattle.tk_journal.specs.declared.entry.Fronts.{Fronts}
use Rattle.tk_journal.specs.Progress.{at_end}
use Rattle.tk_cache.specs.Fronts.{delivered, listed}
use Rattle.tk_world.specs.declared.moves.Move.{Move}
use Rattle.tk_world.specs.declared.moves.Move.TheVariants as moves

-- where the fronts are then
abbrev pub moved : Move → List Entry → Fronts → Fronts
moved (moves.Deliver kind n) history fronts = delivered kind n fronts history
moved moves.DeliverAll history fronts = at_end history
moved (moves.Relist kind position) history fronts = listed kind (min position (length history)) fronts

-- the event
abbrev pub moves_by : Viewer → Move → Event
moves_by viewer (moves.Deliver kind n) = events.Deliver viewer kind n
moves_by viewer moves.DeliverAll = events.DeliverAll viewer
moves_by viewer (moves.Relist kind position) = events.Relist viewer kind position
