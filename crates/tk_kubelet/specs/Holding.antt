-- What a contract sees of a kubelet.
use Rattle.std.specs.Prelude.{◌≡◌, ℕ, Bool, List, Some}
use Rattle.tk_edge.specs.declared.event.Event.{Event}
use Rattle.tk_edge.specs.declared.event.Arming.{Arming}
use Rattle.tk_edge.specs.History.{Has, arming_of}
use Rattle.tk_edge.specs.InOrder.{IsSettled}
use Rattle.tk_journal.specs.declared.entry.Entry.{Entry}
use Rattle.tk_journal.specs.History.{pod_of}
use Rattle.tk_steps.specs.declared.held.HeldPod.{HeldPod}
use Rattle.tk_held.specs.Conditions.{AreMet, claim_of}

-- its number, its life, the folder of its pods, and what it holds of them
pub record Holding : Type 0 where
  pub number : ℕ
  pub life : ℕ
  pub root : List ℕ
  pub held : List HeldPod

abbrev pub holding_of : ℕ → ℕ → List ℕ → List HeldPod → Holding
holding_of number life root held = record { number = number; life = life; root = root; held = held }

-- the three conditions of its turn
abbrev pub IsMet : Holding → List Entry → (ℕ → Bool) → List Event → Type 0
IsMet kubelet history killed told = AreMet kubelet.number kubelet.life kubelet.root kubelet.held history killed told

-- the same kubelet, in the same life
pub record IsSameKubelet (old new : Holding) : Type 0 where
  pub number : new.number ≡ old.number
  pub life : new.life ≡ old.life
  pub root : new.root ≡ old.root

-- each child that it armed in this life has an exit or was killed, for each journal under which its conditions held
abbrev pub AreOwnSettled : Holding → (ℕ → Bool) → (ℕ → Bool) → List Event → Type 0
AreOwnSettled kubelet killed now told =
    (history : List Entry) → IsMet kubelet history killed told → (child : ℕ) (arming : Arming) → arming_of child told ≡ Some arming
    → Has (pod_of history arming.order.pod) (λ state. state.claim ≡ Some (claim_of kubelet.number kubelet.life)) → IsSettled now child told
