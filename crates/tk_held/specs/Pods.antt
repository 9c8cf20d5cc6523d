-- The pods that a kubelet holds, and what its calls for all of them come to.
use Rattle.std.specs.Prelude.{◌≡◌, ◌≢◌, ◌⊎◌, ◌≤◌, ◌+◌, ◌-◌, ◌^◌, ℕ, min, max, Bool, true, List, [], ◌∷◌, length, Some, None, if◌then◌else◌, slice_get}
use Rattle.tk_edge.specs.declared.event.Event.{Event}
use Rattle.tk_journal.specs.History.{View}
use Rattle.tk_steps.specs.declared.held.HeldPod.{HeldPod}
use Rattle.tk_steps.specs.Held.{IsPlanOf, HoldsPod}
use Rattle.tk_steps.specs.May.{May, Adds}
use Rattle.tk_held.specs.Settled.{settled_in}

-- what is kept of a held pod
pub record KeepsPod (told : List Event) (pod : HeldPod) : Type 0 where
  pub planned : IsPlanOf pod.name pod.plan
  pub holds : HoldsPod told pod
  pub within : length pod.steps.items ≤ length pod.plan.orders

abbrev pub KeepsAll : List Event → List HeldPod → Type 0
KeepsAll told held = (place : ℕ) (pod : HeldPod) → slice_get held place ≡ Some pod → KeepsPod told pod

-- no two held pods have one name
abbrev pub AreApart : List HeldPod → Type 0
AreApart held =
    (i j : ℕ) (a b : HeldPod) → slice_get held i ≡ Some a → slice_get held j ≡ Some b → a.name ≡ b.name → i ≡ j

-- what may be done for one of the pods
pub record MayAny (root : List ℕ) (held : List HeldPod) (e : Event) (older : List Event) : Type 0 where
  pub place : ℕ
  pub pod : HeldPod
  pub at : slice_get held place ≡ Some pod
  pub may : May root pod.name pod.plan e older

-- the pod at the place is the one that was there, by its name and its plan
pub record WasAt (old : List HeldPod) (place : ℕ) (pod : HeldPod) : Type 0 where
  pub was : HeldPod
  pub at : slice_get old place ≡ Some was
  pub name : pod.name ≡ was.name
  pub plan : pod.plan ≡ was.plan

-- the same pods, of which the kubelet still holds what its host tells, by what may be done for them
pub record MovesAll (root : List ℕ) (old new : List HeldPod) (told now : List Event) : Type 0 where
  pub same_length : length new ≡ length old
  pub same : (place : ℕ) (pod : HeldPod) → slice_get new place ≡ Some pod → WasAt old place pod
  pub keeps : KeepsAll now new
  pub adds : Adds (MayAny root old) told now

-- of how many pods a call failed
abbrev pub one_if : Bool → ℕ
one_if failed = if failed then 1 else 0

abbrev pub count_failed : List HeldPod → ℕ
count_failed [] = 0
count_failed (pod ∷ pods) = one_if pod.failed + count_failed pods

-- the count of faults after so many failed calls: it stands still at its end
abbrev pub raised_by : ℕ → ℕ → ℕ
raised_by many count = max count (min (count + many) (2 ^ 64 - 1))

-- the count rose by at least so many, or stands at its end
abbrev pub RoseBy : ℕ → ℕ → ℕ → Type 0
RoseBy many before now = min (before + many) (2 ^ 64 - 1) ≤ now

-- the count rose by one for each pod of which a call failed now
pub record Rises (old new : List HeldPod) (before now : ℕ) : Type 0 where
  pub grows : count_failed old ≤ count_failed new
  pub count : now ≡ raised_by (count_failed new - count_failed old) before

-- a pod of which a call failed keeps that
abbrev pub StayFailed : List HeldPod → List HeldPod → Type 0
StayFailed old new =
    (place : ℕ) (a b : HeldPod) → slice_get old place ≡ Some a → slice_get new place ≡ Some b → a.failed ≡ true → b.failed ≡ true

-- all steps of the pod are armed, or a call for it failed
abbrev pub IsDone : HeldPod → Type 0
IsDone pod = (pod.failed ≡ true) ⊎ (length pod.steps.items ≡ length pod.plan.orders)

abbrev pub StaysDone : List HeldPod → List HeldPod → Type 0
StaysDone old new =
    (place : ℕ) (a b : HeldPod) → slice_get old place ≡ Some a → slice_get new place ≡ Some b → IsDone a → IsDone b

-- the pod at the place is so where it is neither marked nor late
abbrev pub IsDoneAt : View → ℕ → List HeldPod → ℕ → Type 0
IsDoneAt view moment held place = (pod : HeldPod) → slice_get held place ≡ Some pod → settled_in view moment pod.name ≡ None → IsDone pod

-- so is each pod
abbrev pub AreDone : View → ℕ → List HeldPod → Type 0
AreDone view moment held = (place : ℕ) → IsDoneAt view moment held place

-- no pod changed but that at the place
abbrev pub SameBut : ℕ → List HeldPod → List HeldPod → Type 0
SameBut place old new = (other : ℕ) → other ≢ place → slice_get new other ≡ slice_get old other
