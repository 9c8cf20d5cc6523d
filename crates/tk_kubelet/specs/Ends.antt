-- How a kubelet ends its pods, and which entry it tries (Tekton, Tasks, Specifying `onError` for a step; Emitting Results).
use Rattle.std.specs.Prelude.{◌≡◌, ◌⊎◌, ◌<◌, ℕ, Bool, true, false, List, [], Option, Some, None, slice_get}
use Rattle.tk_types.specs.declared.run.Outcome.{Outcome}
use Rattle.tk_types.specs.declared.run.Outcome.TheVariants as outcomes
use Rattle.tk_edge.specs.declared.event.Event.{Event}
use Rattle.tk_edge.specs.Files.{Files}
use Rattle.tk_journal.specs.declared.act.Act.{Act}
use Rattle.tk_journal.specs.declared.act.Act.TheVariants as acts
use Rattle.tk_journal.specs.declared.object.Claim.{Claim}
use Rattle.tk_journal.specs.declared.object.PodState.{PodState}
use Rattle.tk_journal.specs.History.{View}
use Rattle.tk_steps.specs.declared.held.HeldPod.{HeldPod}
use Rattle.tk_held.specs.declared.judging.Settled.{Settled}
use Rattle.tk_held.specs.declared.judging.Settled.TheVariants as settled_
use Rattle.tk_held.specs.Settled.{settled_in}
use Rattle.tk_held.specs.Settling.{IsKilledPod}
use Rattle.tk_outcome.specs.Exits.{exits_of}
use Rattle.tk_outcome.specs.Fetches.{with_failed}
use Rattle.tk_outcome.specs.Walked.{EndsWalked}
use Rattle.tk_kubelet.specs.Choice.{first_end, first_claim}
use Rattle.tk_kubelet.specs.Seat.{Seat, HostState}

-- the outcome of a pod for which a call failed
abbrev pub without_exit : Outcome
without_exit = outcomes.Failed None []

-- the outcome of a pod that is marked or late, or for which a call failed
abbrev pub settled_outcome : Option Settled → Bool → Option Outcome
settled_outcome (Some settled_.Cancelled) failed = Some outcomes.Cancelled
settled_outcome (Some settled_.TimedOut) failed = Some outcomes.TimedOut
settled_outcome None true = Some without_exit
settled_outcome None false = None

-- a pod that is neither marked nor late ends Failed without an exit where a call for it failed, and else by its walk and its results
pub record EndsUnsettled (view : View) (moment : ℕ) (root : List ℕ) (told : List Event) (files : Option Files) (pod : HeldPod) (outcome : Outcome) : Type 0 where
  pub not_settled : settled_in view moment pod.name ≡ None
  pub ends : ((pod.failed ≡ true) × (outcome ≡ without_exit)) ⊎ ((pod.failed ≡ false) × EndsWalked root told files pod outcome)

-- how a held pod ends: Cancelled where it is marked, else TimedOut where it is late, else by itself
abbrev pub EndsSo : View → ℕ → List ℕ → List Event → Option Files → HeldPod → Outcome → Type 0
EndsSo view moment root told files pod outcomes.Cancelled = settled_in view moment pod.name ≡ Some settled_.Cancelled
EndsSo view moment root told files pod outcomes.TimedOut = settled_in view moment pod.name ≡ Some settled_.TimedOut
EndsSo view moment root told files pod outcomes.Lost = ⊥
EndsSo view moment root told files pod outcome = EndsUnsettled view moment root told files pod outcome

-- the EndPod of a held pod has the exits of its steps
abbrev pub end_of : HeldPod → Outcome → Act
end_of pod outcome = acts.EndPod pod.name (exits_of pod.steps.items) outcome

-- the held pod of this name ends so, with the exits of its steps, and each of its children has an exit or was killed
pub record EndsOwn (seat : Seat) (ready : List HeldPod) (host : HostState) (name ended : List ℕ) (outcome : Outcome) : Type 0 where
  pub place : ℕ
  pub pod : HeldPod
  pub at : slice_get ready place ≡ Some pod
  pub named : name ≡ pod.name
  pub own_exits : ended ≡ exits_of pod.steps.items
  pub ends : EndsSo seat.seen.view seat.moment seat.root host.told host.files pod outcome
  pub dead : IsKilledPod host.killed pod

-- the pod is seen as one that an earlier life claimed, and unended
pub record IsLost (me : Claim) (view : View) (name : List ℕ) : Type 0 where
  pub state : PodState
  pub is_seen : view.pod name ≡ Some state
  pub life : ℕ
  pub claimed : state.claim ≡ Some record { number = me.number; life = life }
  pub earlier : life < me.life
  pub unended : state.ended ≡ None

-- only such a pod ends Lost, without exits
abbrev pub EndsPod : Seat → List HeldPod → HostState → List ℕ → List ℕ → Outcome → Type 0
EndsPod seat ready host name ended outcomes.Lost = IsLost seat.me seat.seen.view name × (ended ≡ [])
EndsPod seat ready host name ended outcome = EndsOwn seat ready host name ended outcome

-- the first pod that it ends, and the first that it may claim
abbrev pub end_by : Seat → List HeldPod → Option (List ℕ)
end_by seat ready = first_end seat.me.number seat.me.life seat.seen.view seat.moment ready

abbrev pub claim_by : Seat → Option (List ℕ)
claim_by seat = first_claim seat.me.number seat.seen.view

-- What a turn tries: the first EndPod of the pods that it sees, or else the first ClaimPod.
abbrev pub Tries : Seat → List HeldPod → HostState → Act → Type 0
Tries seat ready host (acts.EndPod name ended outcome) = (end_by seat ready ≡ Some name) × EndsPod seat ready host name ended outcome
Tries seat ready host (acts.ClaimPod name) = (end_by seat ready ≡ None) × (claim_by seat ≡ Some name)
Tries seat ready host _ = ⊥

-- there is none
pub record TriesNone (seat : Seat) (ready : List HeldPod) : Type 0 where
  pub no_end : end_by seat ready ≡ None
  pub no_claim : claim_by seat ≡ None

-- the pod is as it was, but that a call for it may have failed; one that had failed stays so
pub record IsConcluded (old new : HeldPod) : Type 0 where
  pub is : new ≡ with_failed new.failed old
  pub failed : old.failed ≡ true → new.failed ≡ true
