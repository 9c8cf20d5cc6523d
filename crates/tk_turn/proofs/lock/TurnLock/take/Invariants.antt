use Rattle.std.proofs.Common.{◌≡◌, ℕ, ◌%◌, ◌^◌, []}
use Rattle.tk_turn.specs.Views.{seat_view, waits}
use Rattle.tk_turn.proofs.lock.TurnLock.take.Given as goal

abbrev pub invariant-loop : goal.invariant-loop
invariant-loop g l = (l.seat.table_id ≡ l.initial.seat.table_id) × ((t : ℕ) × (l.ticket ≡ t % 2 ^ 64) × (l.seat.me ≡ (seat_view (waits t) l.initial.seat.me.0.claim, [])))
