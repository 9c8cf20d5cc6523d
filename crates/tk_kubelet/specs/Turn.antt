-- One turn of a kubelet: what it does on its host, which entry it tries, and what each answer says.
use Rattle.std.specs.Prelude.{◌≡◌, ◌⊎◌, ◌<◌, ◌-◌, ℕ, Bool, true, List, Some, slice_get}
use Rattle.tk_journal.specs.declared.act.Act.{Act}
use Rattle.tk_store.specs.Writes.{Stored}
use Rattle.tk_steps.specs.declared.held.HeldPod.{HeldPod}
use Rattle.tk_steps.specs.Kills.{IsLiving, Rose, AreKilled as AreStepsKilled}
use Rattle.tk_steps.specs.Moves.{Moves, count_actions}
use Rattle.tk_steps.specs.Ready.{ReadyIsSo}
use Rattle.tk_held.specs.Placed.{ArePlaced, StayReady}
use Rattle.tk_held.specs.Played.{ArePlayed}
use Rattle.tk_held.specs.Pods.{MovesAll, AreDone, StaysDone, StayFailed, RoseBy, count_failed, one_if}
use Rattle.tk_held.specs.Settling.{AreKilled, StayKilled, IsOfSettled}
use Rattle.tk_held.specs.Watched.{AreWatched, WatchesOnly, KeepAllChildren}
use Rattle.tk_kubelet.specs.declared.kubelet.KubeletTurn.{KubeletTurn}
use Rattle.tk_kubelet.specs.declared.kubelet.KubeletTurn.TheVariants as turns
use Rattle.tk_kubelet.specs.Answer.{Answered}
use Rattle.tk_kubelet.specs.Ends.{IsConcluded, Tries, TriesNone, end_by}
use Rattle.tk_kubelet.specs.Entries.{HeldAfter}
use Rattle.tk_kubelet.specs.Seat.{Seat, HostState, Hosts, entry_by}

-- a child without an exit of the pod that the kubelet ends
pub record IsOfEnded (seat : Seat) (held : List HeldPod) (child : ℕ) : Type 0 where
  pub place : ℕ
  pub pod : HeldPod
  pub at : slice_get held place ≡ Some pod
  pub ends : end_by seat held ≡ Some pod.name
  pub living : IsLiving pod.steps.items child

-- nothing was killed but children without an exit of settled pods and of the one that ends, so none of a pod that goes on
abbrev pub SparesGoing : Seat → List HeldPod → List HeldPod → (ℕ → Bool) → (ℕ → Bool) → Type 0
SparesGoing seat old ready before now =
    (child : ℕ) → now child ≡ true → (before child ≡ true) ⊎ IsOfSettled seat.seen.view seat.moment old child ⊎ IsOfEnded seat ready child

-- all steps of each pod that is neither marked nor late were watched, while these children were killed
pub record WatchesAll (seat : Seat) (ready : List HeldPod) (hosts : Hosts) : Type 0 where
  pub dead : ℕ → Bool
  pub later : StayKilled dead hosts.now.killed
  pub each : ArePlayed seat.seen.view seat.moment ready hosts.before.play dead hosts.before.told hosts.now.told

-- What the turn's calls came to, before its entry: held pods were settled, armed and watched, and the one that ends was killed and fetched.
pub record Readied (seat : Seat) (old ready : List HeldPod) (hosts : Hosts) : Type 0 where
  -- only what may be done for the held pods was done, and what is held of them is what the host tells
  pub moves : MovesAll seat.root old ready hosts.before.told hosts.now.told
  -- a folder that was ready stays so
  pub stays : ArePlaced seat.root old → StayReady seat.root old ready hosts.before.told hosts.now.told
  -- each pod that is neither marked nor late is armed whole, or a call for it failed
  pub done : AreDone seat.seen.view seat.moment ready
  -- each armed step of each pod that is neither marked nor late was watched once, or a call for the pod failed
  pub watched : AreWatched seat.seen.view seat.moment ready hosts.before.watches hosts.now.watches
  -- no other child was watched, and none more than once
  pub only : WatchesOnly seat.seen.view seat.moment ready hosts.before.watches hosts.now.watches
  -- these watches came in the order of the steps, and were answered as the host plays
  pub played : WatchesAll seat ready hosts
  -- what the host plays stays
  pub plays : hosts.now.play ≡ hosts.before.play
  -- what ran of the pods that are marked or late was killed
  pub killed : AreKilled seat.seen.view seat.moment hosts.now.killed old
  pub still : StayKilled hosts.before.killed hosts.now.killed
  pub spares : SparesGoing seat old ready hosts.before.killed hosts.now.killed
  -- calls failed on at most as many pods as the count rose by, and that is kept
  pub failed : StayFailed old ready
  pub few : RoseBy (count_failed ready - count_failed old) hosts.before.faults hosts.now.faults

-- the entry that is tried, and the store's answer to it
pub record EntryAnswers (seat : Seat) (ready : List HeldPod) (host : HostState) (before after : Stored) (turn : KubeletTurn) : Type 0 where
  pub act : Act
  pub tries : Tries seat ready host act
  pub answered : Answered before (entry_by seat.me seat.seen seat.moment act) turn after

-- What each answer says. Wrote and Conflict are the store's; else there is no entry to try, and a call failed, or none did
-- and a step started or ended for the first time, or none did.
abbrev pub TurnAnswers : Seat → List HeldPod → Hosts → Stored → Stored → KubeletTurn → Type 0
TurnAnswers seat ready hosts before after turns.HostFault = TriesNone seat ready × (after ≡ before) × Rose hosts.before.faults hosts.now.faults
TurnAnswers seat ready hosts before after turns.Acted =
    TriesNone seat ready × (after ≡ before) × (hosts.now.faults ≡ hosts.before.faults) × (count_actions hosts.before.told < count_actions hosts.now.told)
TurnAnswers seat ready hosts before after turns.Idle =
    TriesNone seat ready × (after ≡ before) × (hosts.now.faults ≡ hosts.before.faults) × (count_actions hosts.now.told ≡ count_actions hosts.before.told)
TurnAnswers seat ready hosts before after turn = EntryAnswers seat ready hosts.now before after turn

-- a turn with an answer
pub record TurnGives (seat : Seat) (old new : List HeldPod) (hosts : Hosts) (before after : Stored) (turn : KubeletTurn) : Type 0 where
  pub ready : List HeldPod
  pub readied : Readied seat old ready hosts
  pub held : HeldAfter ready new
  pub answers : TurnAnswers seat ready hosts before after turn

-- after want of memory nothing was written, and every held pod is kept, with all that is held of it
pub record TurnMissed (seat : Seat) (old new : List HeldPod) (hosts : Hosts) (before after : Stored) : Type 0 where
  pub same : after ≡ before
  pub moves : MovesAll seat.root old new hosts.before.told hosts.now.told
  pub stays : ArePlaced seat.root old → StayReady seat.root old new hosts.before.told hosts.now.told
  pub only : WatchesOnly seat.seen.view seat.moment new hosts.before.watches hosts.now.watches
  pub plays : hosts.now.play ≡ hosts.before.play
  pub still : StayKilled hosts.before.killed hosts.now.killed
  pub spares : SparesGoing seat old new hosts.before.killed hosts.now.killed
  pub failed : StayFailed old new
  pub few : RoseBy (count_failed new - count_failed old) hosts.before.faults hosts.now.faults

-- The end of a turn that ends a pod.

-- what runs of this pod was killed, and its results were fetched where its walk is over
pub record ConcludesOne (root : List ℕ) (old new : HeldPod) (hosts : Hosts) : Type 0 where
  pub same : IsConcluded old new
  pub moves : Moves root old new hosts.before.told hosts.now.told
  pub stays : ReadyIsSo root old hosts.before.told → ReadyIsSo root new hosts.now.told
  pub killed : AreStepsKilled hosts.now.killed old.steps.items
  pub still : StayKilled hosts.before.killed hosts.now.killed
  pub only : (child : ℕ) → hosts.now.killed child ≡ true → (hosts.before.killed child ≡ true) ⊎ IsLiving old.steps.items child
  pub unwatched : hosts.now.watches ≡ hosts.before.watches
  pub plays : hosts.now.play ≡ hosts.before.play
  pub count : RoseBy (one_if new.failed - one_if old.failed) hosts.before.faults hosts.now.faults

-- the same among all held pods
pub record Concludes (seat : Seat) (old ready : List HeldPod) (hosts : Hosts) : Type 0 where
  pub moves : MovesAll seat.root old ready hosts.before.told hosts.now.told
  pub stays : ArePlaced seat.root old → StayReady seat.root old ready hosts.before.told hosts.now.told
  pub done : StaysDone old ready
  pub children : KeepAllChildren old ready
  pub unwatched : hosts.now.watches ≡ hosts.before.watches
  pub plays : hosts.now.play ≡ hosts.before.play
  pub still : StayKilled hosts.before.killed hosts.now.killed
  pub spares : (child : ℕ) → hosts.now.killed child ≡ true → (hosts.before.killed child ≡ true) ⊎ IsOfEnded seat ready child
  pub few : RoseBy (count_failed ready - count_failed old) hosts.before.faults hosts.now.faults

-- and then its EndPod was tried
pub record EndGives (seat : Seat) (old new : List HeldPod) (hosts : Hosts) (before after : Stored) (turn : KubeletTurn) : Type 0 where
  pub ready : List HeldPod
  pub concludes : Concludes seat old ready hosts
  pub held : HeldAfter ready new
  pub answers : EntryAnswers seat ready hosts.now before after turn

-- or memory lacked
pub record EndMissed (seat : Seat) (old new : List HeldPod) (hosts : Hosts) (before after : Stored) : Type 0 where
  pub same : after ≡ before
  pub concludes : Concludes seat old new hosts
