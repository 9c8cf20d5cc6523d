-- The turns of workers over a store and a cache are those of the machine.
use Rattle.std.specs.Prelude.{◌≢◌, ℕ}
use Rattle.tk_journal.specs.declared.entry.Actor.{Actor}
use Rattle.tk_journal.specs.Legal.{IsLegal}
use Rattle.tk_store.specs.declared.turn.Turn.{Turn}
use Rattle.tk_store.specs.declared.turn.Turn.TheVariants as turns
use Rattle.tk_store.specs.Writes.{Stored}
use Rattle.tk_cache.specs.Fronts.{Shows}
use Rattle.tk_cache.specs.Views.{Seen}
use Rattle.tk_choice.specs.Took.{TookFirst}
use Rattle.tk_machine.specs.Machine.{WorkerTurn}

-- so is the store's answer to the first act that is justified by what a cache shows, unless memory was wanting
abbrev pub WorkersTake : Type 0
WorkersTake =
    (seen : Seen) (actor : Actor) (moment : ℕ) (before after : Stored) (turn : Turn) → IsLegal before.history → Shows seen before.history
    → turn ≢ turns.Memory → TookFirst seen actor moment before turn after → WorkerTurn before.history actor seen.fronts moment after.history
