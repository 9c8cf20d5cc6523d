-- Which entry a kubelet tries, by what it sees and by what it holds.
use Rattle.std.specs.Prelude.{◌≡◌, ◌≤◌, ◌<◌, ℕ, Bool, true, false, ◌&&◌, ◌||◌, nat_eq, nat_lt, bytes_eq, if◌then◌else◌, List, length, filter, find, Option, Some, None, is_some, slice_get}
use Rattle.tk_journal.specs.declared.object.Claim.{Claim}
use Rattle.tk_journal.specs.declared.object.PodState.{PodState}
use Rattle.tk_journal.specs.History.{View}
use Rattle.tk_journal.specs.PodRows.{is_held_by, is_unended}
use Rattle.tk_places.specs.Places.{IsNext, has}
pub use Rattle.tk_pod_cache.specs.Marks.{is_unclaimed}
use Rattle.tk_steps.specs.declared.held.HeldPod.{HeldPod}
use Rattle.tk_steps.specs.Held.{IsPlanOf}
use Rattle.tk_held.specs.Settled.{settled_in}
use Rattle.tk_outcome.specs.Exits.{is_walked}

-- a call for the pod failed, or its walk is over
abbrev pub is_over_pod : HeldPod → Bool
is_over_pod pod = pod.failed || is_walked pod

-- the kubelet ends this held pod: it is marked, late or over
abbrev pub ends_held : View → ℕ → HeldPod → Bool
ends_held view moment pod = is_some (settled_in view moment pod.name) || is_over_pod pod

abbrev pub held_named : List HeldPod → List ℕ → Option HeldPod
held_named held name = find (λ (pod : HeldPod). bytes_eq pod.name name) held

abbrev pub ends_of_held : View → ℕ → Option HeldPod → Bool
ends_of_held view moment None = false
ends_of_held view moment (Some pod) = ends_held view moment pod

-- claimed in an earlier life, or in this one and to be ended
abbrev pub ends_claim : ℕ → ℕ → Bool → Option Claim → Bool
ends_claim number life ends None = false
ends_claim number life ends (Some claim) = nat_eq claim.number number && (nat_lt claim.life life || (nat_eq claim.life life && ends))

abbrev pub ends_state : ℕ → ℕ → Bool → Option PodState → Bool
ends_state number life ends None = false
ends_state number life ends (Some state) = is_unended state.ended && ends_claim number life ends state.claim

-- an EndPod of the pod of this name is one of the kubelet's
abbrev pub ends_pod : ℕ → ℕ → View → ℕ → List HeldPod → List ℕ → Bool
ends_pod number life view moment held name = ends_state number life (ends_of_held view moment (held_named held name)) (view.pod name)

-- fewer than 8 unended pods are claimed by the kubelet
abbrev pub has_room : ℕ → View → Bool
has_room number view = nat_lt (length (filter (λ (name : List ℕ). is_held_by number (view.pod name)) view.pods)) 8

-- the first pod, in order of creation, that the kubelet ends
abbrev pub first_end : ℕ → ℕ → View → ℕ → List HeldPod → Option (List ℕ)
first_end number life view moment held = find (ends_pod number life view moment held) view.pods

-- the first one that it may claim
abbrev pub first_claim : ℕ → View → Option (List ℕ)
first_claim number view = if has_room number view then find (λ (name : List ℕ). is_unclaimed (view.pod name)) view.pods else None

-- the pod is claimed in an earlier life
abbrev pub is_before : ℕ → Option Claim → Bool
is_before life None = false
is_before life (Some claim) = nat_lt claim.life life

abbrev pub claimed_before : ℕ → Option PodState → Bool
claimed_before life None = false
claimed_before life (Some state) = is_before life state.claim

-- a held pod has a plan of its own, and at most as many steps, so that its walk can be read
pub record IsReadable (pod : HeldPod) : Type 0 where
  pub planned : IsPlanOf pod.name pod.plan
  pub within : length pod.steps.items ≤ length pod.plan.orders

abbrev pub AreReadable : List HeldPod → Type 0
AreReadable held = (place : ℕ) (pod : HeldPod) → slice_get held place ≡ Some pod → IsReadable pod

-- the first place of a set, from another one on, that is below a count
abbrev pub IsNextBelow : ℕ → ℕ → List ℕ → Option ℕ → Type 0
IsNextBelow count from places None = (other : ℕ) → from ≤ other → other < count → has places other ≡ false
IsNextBelow count from places (Some place) = (place < count) × IsNext from places (Some place)
