-- One turn of a member, for what its gate answered.
use Rattle.std.specs.Prelude.{◌≡◌, ◌≢◌, ◌⊎◌, ◌≤◌, ◌∷◌, [], ℕ, min, List, length, Option, Bool, true, false}
use Rattle.tk_edge.specs.declared.gate.GateTurn.{GateTurn}
use Rattle.tk_edge.specs.declared.gate.GateTurn.TheVariants.{Deliver, Relist, Work}
use Rattle.tk_edge.specs.Readings.{last_moment, AddsWhileTold}
use Rattle.tk_journal.specs.declared.entry.Fronts.{Fronts}
use Rattle.tk_journal.specs.declared.entry.Entry.{Entry}
use Rattle.tk_journal.specs.Choice.{HasNoChoice}
use Rattle.tk_store.specs.declared.turn.Turn.{Turn}
use Rattle.tk_store.specs.declared.turn.Turn.TheVariants as turns
use Rattle.tk_store.specs.Writes.{Stored}
use Rattle.tk_cache.specs.Fronts.{Shows, delivered, listed}
use Rattle.tk_cache.specs.Views.{Kept, Seen, seen}
use Rattle.tk_choice.specs.Took.{TookFirst}
use Rattle.tk_steps.specs.declared.held.HeldPod.{HeldPod}
use Rattle.tk_kubelet.specs.declared.kubelet.KubeletTurn.{KubeletTurn}
use Rattle.tk_kubelet.specs.Answer.{is_written as kubelet_wrote}
use Rattle.tk_kubelet.specs.Seat.{Seat, Hosts}
use Rattle.tk_kubelet.specs.Turn.{TurnGives}
use Rattle.tk_journal.specs.declared.entry.Actor.TheVariants as actors

-- the fronts after what the gate answered
abbrev pub fronts_after : GateTurn → List Entry → Fronts → Fronts
fronts_after (Deliver kind n) history fronts = delivered kind n fronts history
fronts_after (Relist kind position) history fronts = listed kind (min position (length history)) fronts
fronts_after _ history fronts = fronts

-- a delivery or a list
abbrev pub is_move : GateTurn → Bool
is_move (Deliver kind n) = true
is_move (Relist kind position) = true
is_move _ = false

-- the cache moved as the gate answered, or without memory has seen nothing
abbrev pub CacheMoved : Bool → GateTurn → List Entry → Kept → Kept → Type 0
CacheMoved true given history old new = (new.fronts ≡ fronts_after given history old.fronts) × Shows (seen new) history
CacheMoved false given history old new = Shows (seen new) []

-- one reading of a clock
pub record TakesReading (reading last_old last_new : ℕ) (old new : Option (List ℕ)) : Type 0 where
  pub last : last_new ≡ reading
  pub later : last_old ≤ reading
  pub within : reading ≤ last_moment
  pub told : AddsWhileTold reading old new

-- the run worker's turn, and where nothing is justified for it the task worker's
abbrev pub ControllerTook : ℕ → Seen → ℕ → Stored → Turn → Stored → Type 0
ControllerTook number seen moment before turn after =
    ((turn ≢ turns.Idle) × TookFirst seen (actors.Runs number) moment before turn after)
    ⊎ (HasNoChoice seen.view (actors.Runs number) moment × TookFirst seen (actors.Tasks number) moment before turn after)

-- the turn wrote an entry
abbrev pub is_written : Turn → Bool
is_written (turns.Wrote version) = true
is_written _ = false

-- so it was, and this tells whether it wrote an entry
abbrev pub ControllerWorks : ℕ → Seen → ℕ → Stored → Stored → Bool → Type 0
ControllerWorks number seen moment before after wrote =
    (turn : Turn) × ControllerTook number seen moment before turn after × (wrote ≡ is_written turn)

-- the kubelet's turn, and whether it wrote an entry
abbrev pub KubeletWorks : Seat → List HeldPod → List HeldPod → Hosts → Stored → Stored → Bool → Type 0
KubeletWorks seat old new hosts before after wrote =
    (turn : KubeletTurn) × TurnGives seat old new hosts before after turn × (wrote ≡ kubelet_wrote turn)

-- nothing was written, or one entry of this life of the kubelet
abbrev pub AddsOfLife : ℕ → ℕ → List Entry → List Entry → Type 0
AddsOfLife number life history after =
    (after ≡ history) ⊎ ((e : Entry) × (after ≡ e ∷ history) × (e.actor ≡ actors.Kubelet number life))

-- one entry of these actors was added, at these fronts and this moment
pub record WroteOne (mine : Entry → Bool) (fronts : Fronts) (moment : ℕ) (history after : List Entry) : Type 0 where
  pub entry : Entry
  pub added : after ≡ entry ∷ history
  pub own : mine entry ≡ true
  pub at : entry.fronts ≡ fronts
  pub now : entry.moment ≡ moment

-- so it was, or nothing was written
abbrev pub WritesAtMostOne : Bool → (Entry → Bool) → Fronts → ℕ → List Entry → List Entry → Type 0
WritesAtMostOne true mine fronts moment history after = WroteOne mine fronts moment history after
WritesAtMostOne false mine fronts moment history after = after ≡ history

-- what a turn may change beside the gate: the journal, the cache, and what the clock told
pub record Place : Type 0 where
  pub history : List Entry
  pub cache : Kept
  pub readings : Option (List ℕ)
  pub last : ℕ

abbrev pub place_of : {K : Type 0} → (K → Option (List ℕ)) → (K → ℕ) → K → Kept → Stored → Place
place_of readings last clock cache store = record { history = store.history; cache = cache; readings = readings clock; last = last clock }

-- work takes one reading, and writes at most one entry of the member, at its cache's fronts and with the reading as its moment
pub record Works (mine : Entry → Bool) (before after : Place) : Type 0 where
  pub reading : ℕ
  pub takes : TakesReading reading before.last after.last before.readings after.readings
  pub cache : after.cache ≡ before.cache
  pub wrote : Bool
  pub writes : WritesAtMostOne wrote mine before.cache.fronts reading before.history after.history

-- a cache moves, or without memory has seen nothing; nothing else changes
pub record Rests (given : GateTurn) (before after : Place) : Type 0 where
  pub ok : Bool
  pub moved : CacheMoved ok given before.history before.cache after.cache
  pub history : after.history ≡ before.history
  pub readings : after.readings ≡ before.readings
  pub last : after.last ≡ before.last

-- one turn of a member to whom these entries belong
abbrev pub IsTurn : (Entry → Bool) → GateTurn → Place → Place → Type 0
IsTurn mine Work before after = Works mine before after
IsTurn mine given before after = Rests given before after
