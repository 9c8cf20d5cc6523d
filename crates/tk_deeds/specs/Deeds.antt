-- The starts and ends of steps, which weigh as entries do.
use Rattle.std.specs.Prelude.{◌≢◌, ◌<◌, ◌≤◌, ◌+◌, ℕ, List, length, Bool, AllPairs, Contains}
use Rattle.tk_journal.specs.declared.entry.Entry.{Entry}
use Rattle.tk_journal.specs.declared.object.PodState.{PodState}
use Rattle.tk_journal.specs.Lists.{Has}
use Rattle.tk_journal.specs.History.{pod_of}
use Rattle.tk_journal.specs.Legal.{IsLegal}
use Rattle.tk_journal.specs.Weight.{weight}

-- the start of a step, or its end
pub record Deed : Type 0 where
  pub pod : List ℕ
  pub step : ℕ
  pub is_end : Bool

-- it is of a step of a pod that was made
abbrev pub IsOfPod : List Entry → Deed → Type 0
IsOfPod history deed = Has (pod_of history deed.pod) (λ (pod : PodState). deed.step < length pod.plan.orders)

-- entries, and such deeds, each at most once, are together at most the weight
abbrev pub DeedsWithinWeight : Type 0
DeedsWithinWeight =
    (history : List Entry) (deeds : List Deed) → IsLegal history → AllPairs (λ a b. a ≢ b) deeds
    → ((deed : Deed) → Contains deeds deed → IsOfPod history deed) → length history + length deeds ≤ weight history
