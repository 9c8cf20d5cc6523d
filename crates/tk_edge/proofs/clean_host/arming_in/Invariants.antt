use Rattle.std.proofs.Common.{◌≡◌, take, reverse, option_map}
use Rattle.tk_edge.specs.History.{arming_of}
use Rattle.tk_edge.proofs.clean_host.arming_in.Given as goal

abbrev pub invariant-loop-event : goal.invariant-loop-event
invariant-loop-event l = arming_of l.child (reverse (take l.event-index l.events)) ≡ option_map (λ a. a.now) l.found
