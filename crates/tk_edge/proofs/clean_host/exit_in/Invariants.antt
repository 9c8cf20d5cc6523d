use Rattle.std.proofs.Common.{◌≡◌, take, reverse}
use Rattle.tk_edge.specs.History.{exit_of}
use Rattle.tk_edge.proofs.clean_host.exit_in.Given as goal

abbrev pub invariant-loop-event : goal.invariant-loop-event
invariant-loop-event l = exit_of l.child (reverse (take l.event-index l.events)) ≡ l.found
