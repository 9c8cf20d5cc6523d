use Rattle.std.proofs.Common.{◌≡◌, ◌≤◌, ◌++◌, length, map}
use Rattle.std.specs.Vec.{vec_capacity}
use Rattle.std.specs.Vec.Iter.{into_iter_items}
use Rattle.tk_threads.specs.Seating.{controller_in}
use Rattle.tk_threads.proofs.seating.leave_controllers.Given as goal

abbrev pub invariant-loop-seat : goal.invariant-loop-seat
invariant-loop-seat g l = record {
  made : l.controllers.items ≡ map controller_in l.yielded;
  rest : l.fn.seats.items ≡ l.yielded ++ into_iter_items l.seat-iterator;
  room : length l.fn.seats.items ≤ vec_capacity l.controllers;
}
