-- What the exits and the outcomes of held pods come to in the journal.
use Rattle.std.specs.Prelude.{◌≡◌, ◌≢◌, ◌≤◌, ℕ, Bool, List, length, Option, Some, AllPairs}
use Rattle.tk_types.specs.declared.run.Outcome.{Outcome}
use Rattle.tk_types.specs.declared.value.Param.{Param}
use Rattle.tk_types.specs.declared.value.ResultSpec.{ResultSpec}
use Rattle.tk_edge.specs.declared.event.Event.{Event}
use Rattle.tk_edge.specs.Files.{Files}
use Rattle.tk_edge.specs.InOrder.{Claimed, Pods, IsKept}
use Rattle.tk_results.specs.declared.files.Fetched.{Fetched}
use Rattle.tk_journal.specs.declared.object.PodState.{PodState}
use Rattle.tk_journal.specs.History.{View}
use Rattle.tk_journal.specs.PodRows.{AreExits, AreResults, EndCause}
use Rattle.tk_steps.specs.declared.held.HeldPod.{HeldPod}
use Rattle.tk_steps.specs.Held.{HoldsPod}
use Rattle.tk_steps.specs.Paths.{layout_of}
use Rattle.tk_outcome.specs.Exits.{exits_of}
use Rattle.tk_outcome.specs.Walked.{once_each, gathering, EndsWalked}

-- a claimed pod that is held as its host tells, whose history is in order
pub record IsHeldInOrder (root : List ℕ) (killed : ℕ → Bool) (pods : Pods) (told : List Event) (pod : HeldPod) : Type 0 where
  pub claimed : Claimed
  pub is_claimed : pods pod.name ≡ Some claimed
  pub same_keep : claimed.keep ≡ pod.plan.keep
  pub within : length pod.steps.items ≤ length pod.plan.orders
  pub holds : HoldsPod told pod
  pub kept : IsKept (layout_of root) killed pods told

-- its exits are at most as many as its steps, and none stands behind one that doesn't pass
abbrev pub ExitsAreWalked : Type 0
ExitsAreWalked = (root : List ℕ) (killed : ℕ → Bool) (pods : Pods) (told : List Event) (pod : HeldPod) → IsHeldInOrder root killed pods told pod → AreExits pod.plan (exits_of pod.steps.items)

-- where declared results are gathered, each is one of them, once, with a value of its type
abbrev pub GatheredAreResults : Type 0
GatheredAreResults = (specs : List ResultSpec) (found : List Fetched) (results : List Param) → gathering (once_each specs) found ≡ Some results → AreResults specs results

-- an outcome by walk and results is one that the row of the pod's EndPod allows
abbrev pub EndsFit : Type 0
EndsFit =
    (root : List ℕ) (told : List Event) (files : Option Files) (pod : HeldPod) (outcome : Outcome) → EndsWalked root told files pod outcome
    → (view : View) (moment : ℕ) (state : PodState) → state.plan ≡ pod.plan → EndCause view moment (exits_of pod.steps.items) state outcome

-- where the names of declared results differ, none is left out
abbrev pub NoneIsLeftOut : Type 0
NoneIsLeftOut = (specs : List ResultSpec) → AllPairs (λ (a b : ResultSpec). a.name ≢ b.name) specs → once_each specs ≡ specs
