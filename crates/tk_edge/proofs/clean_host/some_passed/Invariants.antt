use Rattle.std.proofs.Common.{◌≡◌, take, reverse}
use Rattle.tk_edge.specs.Memory.{some_passed}
use Rattle.tk_edge.proofs.clean_host.some_passed.Given as goal

abbrev pub invariant-loop-event : goal.invariant-loop-event
invariant-loop-event l = some_passed l.pod l.path (reverse l.events) (reverse (take l.event-index l.events)) ≡ l.found
