use Rattle.std.proofs.Common.{◌≡◌, ◌≤◌, ◌+◌, ◌++◌, length, reverse}
use Rattle.std.specs.Vec.Iter.{into_iter_items}
use Rattle.tk_store.proofs.store.Store.with_entries.Given as goal

abbrev pub invariant-loop-entry : goal.invariant-loop-entry
invariant-loop-entry l =
    (l.store.history ≡ reverse l.yielded) × (l.room ≤ l.store.spare + length l.yielded) × (l.fn.entries.items ≡ l.yielded ++ into_iter_items l.entry-iterator)
