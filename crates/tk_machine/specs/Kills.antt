-- Which children of its held pods a kubelet killed, and that a settled pod stays settled.
use Rattle.std.specs.Prelude.{◌≡◌, ◌≢◌, ◌⊎◌, ◌<◌, ◌≤◌, ℕ, Bool, true, false, List, ◌++◌, Some, None}
use Rattle.tk_pod.specs.Exits.{passes, continues}
use Rattle.tk_edge.specs.declared.order.Order.{Order}
use Rattle.tk_edge.specs.declared.event.Event.{Event as HostEvent}
use Rattle.tk_edge.specs.declared.event.Arming.{Arming}
use Rattle.tk_edge.specs.History.{arming_of, exit_of, order_of}
use Rattle.tk_journal.specs.declared.entry.Entry.{Entry}
use Rattle.tk_journal.specs.declared.entry.Fronts.{Fronts}
use Rattle.tk_journal.specs.declared.object.PodState.{PodState}
use Rattle.tk_journal.specs.History.{view_at, pod_of}
use Rattle.tk_journal.specs.Progress.{at_end}
use Rattle.tk_held.specs.Settled.{settled_in}
use Rattle.tk_machine.specs.Hosts.{IsHeldBy}

-- a step of the pod ended with an exit that doesn't pass
pub record StepBroke (keep : ℕ) (pod : List ℕ) (step : ℕ) (told : List HostEvent) : Type 0 where
  pub child : ℕ
  pub order : Order
  pub started : order_of child told ≡ Some order
  pub same_pod : order.pod ≡ pod
  pub same_step : order.step ≡ step
  pub exit : ℕ
  pub exited : exit_of child told ≡ Some exit
  pub broke : passes (continues keep step) exit ≡ false

-- so did one before this step
abbrev pub BrokeBefore : ℕ → List ℕ → ℕ → List HostEvent → Type 0
BrokeBefore keep pod step told = (earlier : ℕ) × (earlier < step) × StepBroke keep pod earlier told

-- the pod is marked or late at a moment, by all of the history
abbrev pub IsSettledBy : List Entry → ℕ → List ℕ → Type 0
IsSettledBy history moment name = settled_in (view_at (at_end history) history) moment name ≢ None

-- each killed child of a pod that the kubelet holds is of a settled one, or waits behind a step that broke
abbrev pub AreKilledRight : ℕ → ℕ → (ℕ → Bool) → List HostEvent → List Entry → ℕ → Type 0
AreKilledRight number life killed told history moment =
    (child : ℕ) (arming : Arming) (pod : PodState) → killed child ≡ true → arming_of child told ≡ Some arming
    → pod_of history arming.order.pod ≡ Some pod → IsHeldBy number life pod
    → IsSettledBy history moment arming.order.pod ⊎ BrokeBefore pod.plan.keep arming.order.pod arming.order.step told

-- A pod that was settled as some fronts showed it is settled at the end, there and wherever the history goes on, from
-- that moment on.
abbrev pub SettledLasts : Type 0
SettledLasts =
    (since history : List Entry) (fronts : Fronts) (moment later : ℕ) (name : List ℕ) → moment ≤ later
    → settled_in (view_at fronts history) moment name ≢ None → IsSettledBy (since ++ history) later name
