-- What a kubelet's entries leave of what it holds.
use Rattle.std.specs.Prelude.{◌≡◌, ◌⊎◌, ℕ, false, List, [], ◌∷◌, ◌++◌, Some, slice_get}
use Rattle.std.specs.List.{remove}
use Rattle.tk_journal.specs.declared.object.PodState.{PodState}
use Rattle.tk_journal.specs.History.{View}
use Rattle.tk_journal.specs.Lists.{Has}
use Rattle.tk_steps.specs.declared.held.HeldPod.{HeldPod}
use Rattle.tk_kubelet.specs.declared.kubelet.KubeletTurn.{KubeletTurn}
use Rattle.tk_kubelet.specs.declared.kubelet.KubeletTurn.TheVariants as turns

-- nothing was done for the pod yet
pub record IsFresh (pod : HeldPod) : Type 0 where
  pub not_ready : pod.ready ≡ false
  pub no_steps : pod.steps.items ≡ []
  pub not_failed : pod.failed ≡ false

-- the pod of this name, with the plan that is seen
pub record IsClaimed (view : View) (name : List ℕ) (pod : HeldPod) : Type 0 where
  pub named : pod.name ≡ name
  pub planned : Has (view.pod name) (λ (state : PodState). pod.plan ≡ state.plan)
  pub fresh : IsFresh pod

-- a claim that was written adds the pod behind the others
abbrev pub HeldClaim : View → List ℕ → KubeletTurn → List HeldPod → List HeldPod → Type 0
HeldClaim view name (turns.Wrote version) old new = (pod : HeldPod) × IsClaimed view name pod × (new ≡ old ++ pod ∷ [])
HeldClaim view name _ old new = new ≡ old

-- an EndPod that was written takes the pod away
abbrev pub held_behind : KubeletTurn → ℕ → List HeldPod → List HeldPod
held_behind (turns.Wrote version) place held = remove held place
held_behind _ place held = held

-- behind a turn each held pod is one that was held before its entry, or was claimed by it
abbrev pub HeldAfter : List HeldPod → List HeldPod → Type 0
HeldAfter ready new = (place : ℕ) (pod : HeldPod) → slice_get new place ≡ Some pod → ((i : ℕ) × (slice_get ready i ≡ Some pod)) ⊎ IsFresh pod
