-- What a kubelet and its host keep where each call on the host is one for a pod with its own place.
use Rattle.std.specs.Prelude.{◌≡◌, ◌≢◌, ◌⊎◌, ℕ, Bool, true, false, List, [], ◌∷◌, Some, codes, slice_get}
use Rattle.tk_edge.specs.declared.event.Event.{Event}
use Rattle.tk_edge.specs.History.{Has, arming_of}
use Rattle.tk_journal.specs.declared.object.Plan.{Plan}
use Rattle.tk_space.specs.Apart.{IsName, LiesUnder}
use Rattle.tk_space.specs.Space.{claims_folder, spaces_folder}
use Rattle.tk_steps.specs.declared.held.HeldPod.{HeldPod}
use Rattle.tk_steps.specs.Held.{IsPlanOf}
use Rattle.tk_steps.specs.May.{May}
use Rattle.tk_kubelet.specs.Holding.{Holding}

-- the pod's name is a folder's, other than that of the claims, and its workspaces lie among its own or in the claims' folder
pub record IsSpaced (root name : List ℕ) (plan : Plan) : Type 0 where
  pub plain : IsName name
  pub no_claims : name ≢ codes "claims"
  pub folders : (place : ℕ) (folder : List ℕ) → slice_get plan.folders place ≡ Some folder
      → LiesUnder (spaces_folder root name) folder ⊎ LiesUnder (claims_folder root) folder

-- the event is one that may be added for such a pod, with a plan of its own
pub record MayOwn (root : List ℕ) (e : Event) (older : List Event) : Type 0 where
  pub name : List ℕ
  pub plan : Plan
  pub planned : IsPlanOf name plan
  pub spaced : IsSpaced root name plan
  pub may : May root name plan e older

-- so is each event of a history, with what stood before it
abbrev pub AreOwn : List ℕ → List Event → Type 0
AreOwn root [] = Unit {0}
AreOwn root (e ∷ older) = MayOwn root e older × AreOwn root older

-- what a turn keeps of a kubelet and its host
pub record IsOwn (kubelet : Holding) (killed : ℕ → Bool) (told : List Event) : Type 0 where
  -- no call for a held pod failed
  pub whole : (place : ℕ) (pod : HeldPod) → slice_get kubelet.held place ≡ Some pod → pod.failed ≡ false
  -- the host did only what may be done for pods
  pub own : AreOwn kubelet.root told
  -- only armed children were killed
  pub armed : (child : ℕ) → killed child ≡ true → Has (arming_of child told) (λ arming. Unit {0})
