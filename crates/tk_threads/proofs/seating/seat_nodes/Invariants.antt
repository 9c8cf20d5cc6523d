use Rattle.std.proofs.Common.{◌≡◌, ◌≤◌, ◌+◌, ◌*◌, ◌++◌, length, map}
use Rattle.std.specs.Vec.{vec_capacity}
use Rattle.std.specs.Vec.Iter.{into_iter_items, into_iter_len}
use Rattle.tk_threads.specs.Seating.{worker_of}
use Rattle.tk_threads.proofs.seating.seat_nodes.Given as goal

abbrev pub invariant-loop-node : goal.invariant-loop-node
invariant-loop-node g l = record {
  made : l.seats.items ≡ map worker_of l.yielded;
  rest : l.fn.nodes.items ≡ l.yielded ++ into_iter_items l.node-iterator;
  owner : l.owner ≡ 2 * length l.yielded + 2;
  len : into_iter_len l.node-iterator ≡ length (into_iter_items l.node-iterator);
  room : length l.fn.nodes.items ≤ vec_capacity l.seats;
}
