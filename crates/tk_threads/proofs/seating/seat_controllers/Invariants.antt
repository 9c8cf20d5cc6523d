use Rattle.std.proofs.Common.{◌≡◌, ◌≤◌, ◌+◌, ◌*◌, ◌++◌, length, map}
use Rattle.std.specs.Vec.{vec_capacity}
use Rattle.std.specs.Vec.Iter.{into_iter_items, into_iter_len}
use Rattle.tk_threads.specs.Seating.{leader_of}
use Rattle.tk_threads.proofs.seating.seat_controllers.Given as goal

abbrev pub invariant-loop-controller : goal.invariant-loop-controller
invariant-loop-controller g l = record {
  made : l.seats.items ≡ map leader_of l.yielded;
  rest : l.fn.controllers.items ≡ l.yielded ++ into_iter_items l.controller-iterator;
  owner : l.owner ≡ 2 * length l.yielded + 1;
  len : into_iter_len l.controller-iterator ≡ length (into_iter_items l.controller-iterator);
  room : length l.fn.controllers.items ≤ vec_capacity l.seats;
}
