use Rattle.std.proofs.Common.{◌≡◌, ◌++◌, map, drop}
use Rattle.std.specs.List.{enumerate_from}
use Rattle.tk_taskrec.specs.Planned.{order_at}
use Rattle.tk_taskrec.proofs.planning.orders_of.Given as goal

abbrev pub invariant-loop-place : goal.invariant-loop-place
invariant-loop-place l = l.orders ++ map (order_at l.pod l.folder) (enumerate_from l.place (drop l.place l.steps)) ≡ map (order_at l.pod l.folder) (enumerate_from 0 l.steps)
