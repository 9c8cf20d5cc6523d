-- When a host's history is in order, for the pods that a kubelet claimed.
use Rattle.std.specs.Prelude.{◌≡◌, ◌⊎◌, ◌<◌, ◌^◌, ℕ, suc, Bool, true, false, List, [], ◌∷◌, Option, Some, slice_get}
use Rattle.tk_pod.specs.Exits.{passes, continues}
use Rattle.tk_edge.specs.declared.order.Order.{Order}
use Rattle.tk_edge.specs.declared.event.Event.{Event}
use Rattle.tk_edge.specs.declared.event.Event.TheVariants as events
use Rattle.tk_edge.specs.declared.event.Arming.{Arming}
use Rattle.tk_edge.specs.History.{Has, exit_of, order_of, arming_of, was_put, StartsArmed, IsTold}

-- A pod that the kubelet claimed: its orders, the word of the steps that go on after any exit, and whether it has
-- ended other than as Lost.
pub record Claimed : Type 0 where
  pub orders : List Order
  pub keep : ℕ
  pub is_over : Bool

-- the claimed pods by their names
abbrev pub Pods : Type 0
Pods = List ℕ → Option Claimed

-- no order of this pod and step was started
abbrev pub NotStarted : List ℕ → ℕ → List Event → Type 0
NotStarted pod step [] = Unit {0}
NotStarted pod step (events.Started child order ∷ older) = (order.pod ≡ pod → order.step ≡ step → ⊥) × NotStarted pod step older
NotStarted pod step (_ ∷ older) = NotStarted pod step older

-- the step was started, and ended with an exit that passes
pub record StepPassed (keep : ℕ) (pod : List ℕ) (step : ℕ) (history : List Event) : Type 0 where
  pub child : ℕ
  pub order : Order
  pub started : order_of child history ≡ Some order
  pub same_pod : order.pod ≡ pod
  pub same_step : order.step ≡ step
  pub exit : ℕ
  pub exited : exit_of child history ≡ Some exit
  pub passed : passes (continues keep step) exit ≡ true

-- the order is one of a claimed pod, and each step before it passed
pub record IsDue (pods : Pods) (order : Order) (history : List Event) : Type 0 where
  pub claimed : Claimed
  pub is_claimed : pods order.pod ≡ Some claimed
  pub own_order : slice_get claimed.orders order.step ≡ Some order
  pub earlier : (step : ℕ) → step < order.step → StepPassed claimed.keep order.pod step history

-- each start was due when it came, and no step starts twice
abbrev pub AreStartsDue : Pods → List Event → Type 0
AreStartsDue pods [] = Unit {0}
AreStartsDue pods (events.Started child order ∷ older) = IsDue pods order older × NotStarted order.pod order.step older × AreStartsDue pods older
AreStartsDue pods (_ ∷ older) = AreStartsDue pods older

-- the child has an exit, or was killed
abbrev pub IsSettled : (ℕ → Bool) → ℕ → List Event → Type 0
IsSettled killed child history = Has (exit_of child history) (λ _. Unit {0}) ⊎ (killed child ≡ true)

-- each started child of a pod that is over is settled
abbrev pub AreOverSettled : (ℕ → Bool) → Pods → List Event → Type 0
AreOverSettled killed pods history =
    (child : ℕ) (order : Order) → order_of child history ≡ Some order →
    Has (pods order.pod) (λ claimed. claimed.is_over ≡ true) → IsSettled killed child history

-- the child was armed or started
abbrev pub IsGiven : ℕ → List Event → Type 0
IsGiven child history = Has (arming_of child history) (λ _. Unit {0}) ⊎ Has (order_of child history) (λ _. Unit {0})

pub record IsInOrder (killed : ℕ → Bool) (pods : Pods) (history : List Event) : Type 0 where
  pub due : AreStartsDue pods history
  pub settled : AreOverSettled killed pods history

-- What a kubelet keeps so that its host's history stays in order.

-- where a pod's steps wait, and what each leaves when it is done
pub record Layout : Type 0 where
  pub wait_of : List ℕ → ℕ → List ℕ
  pub post_of : List ℕ → ℕ → List ℕ

pub record IsLayout (layout : Layout) : Type 0 where
  -- a step waits for the one before it
  pub next : (pod : List ℕ) (step : ℕ) → layout.wait_of pod (suc step) ≡ layout.post_of pod step
  pub apart : (pod : List ℕ) (m n : ℕ) → m < 2 ^ 32 → n < 2 ^ 32 → layout.post_of pod m ≡ layout.post_of pod n → m ≡ n

-- the entry is armed as a step of a claimed pod is
pub record ArmsStep (layout : Layout) (pods : Pods) (arming : Arming) : Type 0 where
  pub claimed : Claimed
  pub is_claimed : pods arming.order.pod ≡ Some claimed
  pub own_order : slice_get claimed.orders arming.order.step ≡ Some arming.order
  pub small : arming.order.step < 2 ^ 32
  pub keeps : arming.keep_going ≡ continues claimed.keep arming.order.step
  pub waits : arming.wait ≡ layout.wait_of arming.order.pod arming.order.step
  pub posts : arming.post ≡ layout.post_of arming.order.pod arming.order.step

-- nothing is started but by an armed entry
abbrev pub AreStartsArmed : List Event → Type 0
AreStartsArmed [] = Unit {0}
AreStartsArmed (events.Started child order ∷ older) = StartsArmed child order older × AreStartsArmed older
AreStartsArmed (_ ∷ older) = AreStartsArmed older

-- a step is armed at most once
abbrev pub IsArmedOnce : List Event → Type 0
IsArmedOnce history =
    (c d : ℕ) (a b : Arming) → arming_of c history ≡ Some a → arming_of d history ≡ Some b →
    a.order.pod ≡ b.order.pod → a.order.step ≡ b.order.step → c ≡ d

-- no child is armed with the order's step
abbrev pub IsUnarmed : Order → List Event → Type 0
IsUnarmed order history =
    (child : ℕ) (other : Arming) → arming_of child history ≡ Some other → other.order.pod ≡ order.pod →
    other.order.step ≡ order.step → ⊥

pub record IsArmedRight (layout : Layout) (pods : Pods) (history : List Event) : Type 0 where
  pub starts : AreStartsArmed history
  pub each : (child : ℕ) (arming : Arming) → arming_of child history ≡ Some arming → ArmsStep layout pods arming
  pub once : IsArmedOnce history
  -- the kubelet itself puts no post file
  pub no_posts : (pod : List ℕ) (step : ℕ) → was_put (layout.post_of pod step) history ≡ false

-- what each call of a kubelet on its host keeps
pub record IsKept (layout : Layout) (killed : ℕ → Bool) (pods : Pods) (history : List Event) : Type 0 where
  pub told : IsTold history
  pub in_order : IsInOrder killed pods history
  pub armed : IsArmedRight layout pods history

-- claimed pods stay claimed, with their plans; more may be claimed, and some may end
abbrev pub PodsGrow : Pods → Pods → Type 0
PodsGrow pods later =
    (name : List ℕ) (claimed : Claimed) → pods name ≡ Some claimed →
    (now : Claimed) × (later name ≡ Some now) × (now.orders ≡ claimed.orders) × (now.keep ≡ claimed.keep)
