-- A host whose children end at once, and a turn that watches every step of a pod.
use Rattle.std.specs.Prelude.{◌≡◌, ◌⊎◌, ◌<◌, ℕ, suc, Bool, true, List, [], ◌∷◌, length, Some, None}
use Rattle.tk_edge.specs.declared.order.Watch.{Watch}
use Rattle.tk_edge.specs.declared.order.Watch.TheVariants as watches
use Rattle.tk_edge.specs.declared.event.Event.{Event as HostEvent}
use Rattle.tk_edge.specs.declared.event.Arming.{Arming}
use Rattle.tk_edge.specs.History.{GoesOn, IsTold, MayStart, arming_of, was_put}
use Rattle.tk_edge.specs.Calls.{TellsTurn}
use Rattle.tk_edge.specs.InOrder.{Pods, AreStartsDue, AreStartsArmed, ArmsStep, IsKept}
use Rattle.tk_journal.specs.declared.act.Act.{Act}
use Rattle.tk_journal.specs.declared.entry.Entry.{Entry}
use Rattle.tk_journal.specs.declared.object.PodState.{PodState}
use Rattle.tk_journal.specs.History.{View, pod_of}
use Rattle.tk_held.specs.Conditions.{pods_of}
use Rattle.tk_machine.specs.Kills.{BrokeBefore}
use Rattle.tk_machine.specs.Hosts.{Script, AreGathered, IsFree, IsHeldBy, MayTry, deeds_of, layout}

-- An entry that may start does so, a child ends at its first watch behind its start, and an entry is refused only
-- behind a step that broke.
abbrev pub IsPrompt : ℕ → Arming → List HostEvent → Watch → Type 0
IsPrompt keep arming old watches.Waits = MayStart arming old → ⊥
IsPrompt keep arming old watches.Started = Unit {0}
IsPrompt keep arming old watches.Runs = ⊥
IsPrompt keep arming old (watches.Passed exit) = Unit {0}
IsPrompt keep arming old (watches.Broke (Some exit)) = Unit {0}
IsPrompt keep arming old (watches.Broke None) = BrokeBefore keep arming.order.pod arming.order.step old

-- one watch of an armed step, of a host that is prompt
pub record WatchesStep (keep : ℕ) (pod : List ℕ) (step child : ℕ) (old new : List HostEvent) : Type 0 where
  pub arming : Arming
  pub armed : arming_of child old ≡ Some arming
  pub same_pod : arming.order.pod ≡ pod
  pub same_step : arming.order.step ≡ step
  pub watch : Watch
  pub tells : TellsTurn child arming old new watch
  pub prompt : IsPrompt keep arming old watch

-- each step of the pod from this one on is watched once, in order
abbrev pub WatchesFrom : ℕ → List ℕ → ℕ → List ℕ → List HostEvent → List HostEvent → Type 0
WatchesFrom keep pod step [] old new = new ≡ old
WatchesFrom keep pod step (child ∷ children) old new =
    (between : List HostEvent) × WatchesStep keep pod step child old between × WatchesFrom keep pod (suc step) children between new

-- each start of a host's history was due and of an armed entry, and each of these is a step of a claimed pod
pub record IsArmedInOrder (pods : Pods) (history : List HostEvent) : Type 0 where
  pub told : IsTold history
  pub due : AreStartsDue pods history
  pub starts : AreStartsArmed history
  pub each : (child : ℕ) (arming : Arming) → arming_of child history ≡ Some arming → ArmsStep layout pods arming

-- in a turn that leads from `old` to `new`, with all steps of the pod armed and its first wait file put
pub record IsWatched (number : ℕ) (history : List Entry) (name : List ℕ) (pod : PodState) (old new : List HostEvent) : Type 0 where
  pub children : List ℕ
  pub all : length children ≡ length pod.plan.orders
  pub before : List HostEvent
  pub after : List HostEvent
  pub from_old : GoesOn old before
  pub to_new : GoesOn after new
  pub in_order : IsArmedInOrder (pods_of number history) before
  pub first : was_put (layout.wait_of name 0) before ≡ true
  pub watches : WatchesFrom pod.plan.keep name 0 children before after

-- each held pod that is neither marked nor late is watched so
abbrev pub AreWatched : ℕ → ℕ → ℕ → List Entry → View → List HostEvent → List HostEvent → Type 0
AreWatched number life moment history view old new =
    (name : List ℕ) (pod : PodState) → pod_of history name ≡ Some pod → IsHeldBy number life pod → IsFree view moment name
    → IsWatched number history name pod old new

-- A kubelet that does so, over such a host, may end each of its held pods that it sees, or a step started or ended.
abbrev pub WatchedMoves : Script → Type 0
WatchedMoves script =
    AreGathered script → (number life moment : ℕ) (history : List Entry) (view : View) (killed : ℕ → Bool) (old new : List HostEvent)
    → IsKept layout killed (pods_of number history) new → AreWatched number life moment history view old new
    → (name : List ℕ) (pod : PodState) → pod_of history name ≡ Some pod → view.pod name ≡ Some pod → IsHeldBy number life pod
    → ((act : Act) × MayTry script number life history view moment new act) ⊎ (length (deeds_of old) < length (deeds_of new))
