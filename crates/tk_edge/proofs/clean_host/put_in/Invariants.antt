use Rattle.std.proofs.Common.{◌≡◌, take, reverse}
use Rattle.tk_edge.specs.History.{was_put}
use Rattle.tk_edge.proofs.clean_host.put_in.Given as goal

abbrev pub invariant-loop-place : goal.invariant-loop-place
invariant-loop-place l = was_put l.path (reverse (take l.place l.events)) ≡ was_put l.path (reverse l.events)
