-- The laws of the conditions of a kubelet's turn.
use Rattle.std.specs.Prelude.{◌≡◌, ◌≢◌, ℕ, Bool, true, List, [], ◌∷◌, Some, All}
use Rattle.tk_edge.specs.declared.event.Event.{Event}
use Rattle.tk_journal.specs.declared.entry.Actor.TheVariants as actors
use Rattle.tk_journal.specs.declared.entry.Entry.{Entry}
use Rattle.tk_journal.specs.declared.object.PodState.{PodState}
use Rattle.tk_journal.specs.Folders.{HaveRoot}
use Rattle.tk_journal.specs.History.{pod_of}
use Rattle.tk_journal.specs.Legal.{IsLegal, is_admit}
use Rattle.tk_steps.specs.declared.held.HeldPod.{HeldPod}
use Rattle.tk_held.specs.Conditions.{claim_of, AreMet, ArePlanned}
use Rattle.tk_held.specs.Placed.{IsPlaced, ArePlaced, StayReady}
use Rattle.tk_held.specs.Pods.{MovesAll}
use Rattle.tk_held.specs.Settling.{StayKilled}

-- each legal journal has plans of their own for its pods
abbrev pub LegalIsPlanned : Type 0
LegalIsPlanned = (history : List Entry) → IsLegal history → ArePlanned history

-- the pods of a legal journal, all of whose admitted objects have this root, have their files apart
abbrev pub LegalIsPlaced : Type 0
LegalIsPlaced =
    (root : List ℕ) (history : List Entry) → IsLegal history → HaveRoot root history
    → (name : List ℕ) (state : PodState) → pod_of history name ≡ Some state → IsPlaced root name state.plan

-- no pod is claimed by this kubelet in this life
abbrev pub HasNoClaim : ℕ → ℕ → List Entry → Type 0
HasNoClaim number life history =
    (name : List ℕ) (state : PodState) → pod_of history name ≡ Some state → state.claim ≢ Some (claim_of number life)

-- nothing was done but to admit
abbrev pub AreAdmits : List Entry → Type 0
AreAdmits history = All (λ (e : Entry). is_admit e.act ≡ true) history

-- a new kubelet, whose host told nothing, over a journal without claims of its number and life: such as one that only admits
pub record NothingIsMet : Type 0 where
  pub any : (number life : ℕ) (root : List ℕ) (history : List Entry) (killed : ℕ → Bool) → HasNoClaim number life history
      → AreMet number life root [] history killed []
  pub admitted : (number life : ℕ) (history : List Entry) → AreAdmits history → HasNoClaim number life history

-- the calls of a turn for the held pods keep the conditions
abbrev pub MovesKeep : Type 0
MovesKeep =
    (number life : ℕ) (root : List ℕ) (held new : List HeldPod) (history : List Entry) (killed dead : ℕ → Bool) (told now : List Event)
    → IsLegal history → AreMet number life root held history killed told → MovesAll root held new told now
    → (ArePlaced root held → StayReady root held new told now) → StayKilled killed dead → AreMet number life root new history dead now

-- no kubelet of this number wrote it
abbrev pub IsOfOther : ℕ → Entry → Type 0
IsOfOther number e = (life : ℕ) → e.actor ≢ actors.Kubelet number life

-- so do the entries of all others
abbrev pub OthersKeep : Type 0
OthersKeep =
    (number life : ℕ) (root : List ℕ) (held : List HeldPod) (history : List Entry) (killed : ℕ → Bool) (told : List Event) (e : Entry)
    → IsLegal (e ∷ history) → IsOfOther number e → AreMet number life root held history killed told
    → AreMet number life root held (e ∷ history) killed told
