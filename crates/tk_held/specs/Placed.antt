-- Where the files of held pods lie, and that the folder of each that is ready stays so.
use Rattle.std.specs.Prelude.{◌≡◌, ◌≢◌, ◌⊎◌, ℕ, List, Some, codes, slice_get}
use Rattle.tk_edge.specs.declared.event.Event.{Event}
use Rattle.tk_journal.specs.declared.object.Plan.{Plan}
use Rattle.tk_space.specs.Apart.{IsName, LiesUnder}
use Rattle.tk_space.specs.Space.{pod_folder, claims_folder}
use Rattle.tk_steps.specs.declared.held.HeldPod.{HeldPod}
use Rattle.tk_steps.specs.Ready.{ReadyIsSo}

-- the pod's name is a folder's, other than that of the claims, and its workspaces lie in its own folder or in that of the claims
pub record IsPlaced (root name : List ℕ) (plan : Plan) : Type 0 where
  pub plain : IsName name
  pub no_claims : name ≢ codes "claims"
  pub folders : (place : ℕ) (folder : List ℕ) → slice_get plan.folders place ≡ Some folder
      → LiesUnder (pod_folder root name) folder ⊎ LiesUnder (claims_folder root) folder

abbrev pub ArePlaced : List ℕ → List HeldPod → Type 0
ArePlaced root held = (place : ℕ) (pod : HeldPod) → slice_get held place ≡ Some pod → IsPlaced root pod.name pod.plan

-- the folder of each held pod that is ready is so
abbrev pub AreReady : List ℕ → List HeldPod → List Event → Type 0
AreReady root held told = (place : ℕ) (pod : HeldPod) → slice_get held place ≡ Some pod → ReadyIsSo root pod told

-- it is so of each held pod of which it was so before
abbrev pub StayReady : List ℕ → List HeldPod → List HeldPod → List Event → List Event → Type 0
StayReady root old new told now =
    (place : ℕ) (a b : HeldPod) → slice_get old place ≡ Some a → slice_get new place ≡ Some b → ReadyIsSo root a told → ReadyIsSo root b now
