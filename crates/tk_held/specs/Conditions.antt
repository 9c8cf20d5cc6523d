-- What a kubelet, its journal and its host keep of each other.
use Rattle.std.specs.Prelude.{◌≡◌, ℕ, Bool, true, false, if◌then◌else◌, List, Option, Some, None, slice_get}
use Rattle.tk_types.specs.declared.run.Outcome.{Outcome}
use Rattle.tk_types.specs.declared.run.Outcome.TheVariants as outcomes
use Rattle.tk_edge.specs.declared.event.Event.{Event}
use Rattle.tk_edge.specs.declared.event.Arming.{Arming}
use Rattle.tk_edge.specs.History.{Has, arming_of}
use Rattle.tk_edge.specs.InOrder.{Claimed, Pods, IsSettled, IsKept}
use Rattle.tk_journal.specs.declared.entry.Entry.{Entry}
use Rattle.tk_journal.specs.declared.object.Claim.{Claim}
use Rattle.tk_journal.specs.declared.object.EndedPod.{EndedPod}
use Rattle.tk_journal.specs.declared.object.PodState.{PodState}
use Rattle.tk_journal.specs.Folders.{HaveRoot}
use Rattle.tk_journal.specs.History.{pod_of}
use Rattle.tk_journal.specs.PodRows.{claims_for}
use Rattle.tk_steps.specs.declared.held.HeldPod.{HeldPod}
use Rattle.tk_steps.specs.Held.{IsPlanOf}
use Rattle.tk_steps.specs.Paths.{layout_of}
use Rattle.tk_held.specs.Placed.{AreReady}
use Rattle.tk_held.specs.Pods.{KeepsAll, AreApart}

-- the claim of a kubelet in one of its lives
abbrev pub claim_of : ℕ → ℕ → Claim
claim_of number life = record { number = number; life = life }

-- the pod ended, other than as Lost
abbrev pub not_lost : Outcome → Bool
not_lost outcomes.Lost = false
not_lost _ = true

abbrev pub is_over : Option EndedPod → Bool
is_over None = false
is_over (Some ended) = not_lost ended.outcome

-- a pod as its kubelet has it on its host
abbrev pub claimed_with : PodState → Claimed
claimed_with pod = record { orders = pod.plan.orders; keep = pod.plan.keep; is_over = is_over pod.ended }

abbrev pub claimed_pod : ℕ → Option PodState → Option Claimed
claimed_pod number None = None
claimed_pod number (Some pod) = if claims_for number pod.claim then Some (claimed_with pod) else None

-- the pods that a kubelet claimed in a journal, in any life
abbrev pub pods_of : ℕ → List Entry → Pods
pods_of number history name = claimed_pod number (pod_of history name)

-- the pod is claimed by this kubelet in this life, and unended
pub record IsMine (number life : ℕ) (pod : HeldPod) (state : PodState) : Type 0 where
  pub claimed : state.claim ≡ Some (claim_of number life)
  pub unended : state.ended ≡ None
  pub plan : state.plan ≡ pod.plan

-- a held pod has this name
pub record IsHeld (held : List HeldPod) (name : List ℕ) : Type 0 where
  pub place : ℕ
  pub pod : HeldPod
  pub at : slice_get held place ≡ Some pod
  pub named : pod.name ≡ name

-- the held pods are those that the journal has as claimed by this kubelet in this life and unended, with their plans
pub record HoldsClaimed (number life : ℕ) (held : List HeldPod) (history : List Entry) : Type 0 where
  pub mine : (place : ℕ) (pod : HeldPod) → slice_get held place ≡ Some pod → Has (pod_of history pod.name) (IsMine number life pod)
  pub all : (name : List ℕ) (state : PodState) → pod_of history name ≡ Some state
      → state.claim ≡ Some (claim_of number life) → state.ended ≡ None → IsHeld held name
  pub apart : AreApart held
  -- only a later life ends a pod of this one as Lost
  pub none_lost : (name : List ℕ) (state : PodState) (ended : EndedPod) → pod_of history name ≡ Some state
      → state.claim ≡ Some (claim_of number life) → state.ended ≡ Some ended → not_lost ended.outcome ≡ true

-- each armed child of a pod that is over has an exit or was killed
abbrev pub AreArmedSettled : (ℕ → Bool) → Pods → List Event → Type 0
AreArmedSettled killed pods told =
    (child : ℕ) (arming : Arming) → arming_of child told ≡ Some arming
    → Has (pods arming.order.pod) (λ claimed. claimed.is_over ≡ true) → IsSettled killed child told

-- the three conditions of a kubelet's turn
pub record AreMet (number life : ℕ) (root : List ℕ) (held : List HeldPod) (history : List Entry) (killed : ℕ → Bool) (told : List Event) : Type 0 where
  -- the held pods are those that the journal gives this life
  pub claimed : HoldsClaimed number life held history
  -- what is held of their steps is what the host tells, and of their folders too where all that is admitted has the kubelet's root
  pub keeps : KeepsAll told held
  pub ready : HaveRoot root history → AreReady root held told
  -- the host's history is in order, and stays so
  pub kept : IsKept (layout_of root) killed (pods_of number history) told
  pub settled : AreArmedSettled killed (pods_of number history) told

-- a pod of the journal has a plan of its own, and has ended only once claimed
pub record IsSoundPod (name : List ℕ) (state : PodState) : Type 0 where
  pub planned : IsPlanOf name state.plan
  pub claimed_first : state.claim ≡ None → state.ended ≡ None

abbrev pub ArePlanned : List Entry → Type 0
ArePlanned history = (name : List ℕ) (state : PodState) → pod_of history name ≡ Some state → IsSoundPod name state
