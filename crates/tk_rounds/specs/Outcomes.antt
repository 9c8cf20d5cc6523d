-- How a kubelet's pods ended: with the exits that its host found, and by what its host fetched.
use Rattle.std.specs.Prelude.{◌≡◌, ◌⊎◌, ◌+◌, ℕ, List, [], ◌∷◌, length, Some, None, true}
use Rattle.std.specs.List.{Contains}
use Rattle.tk_types.specs.declared.run.Outcome.{Outcome}
use Rattle.tk_types.specs.declared.run.Outcome.TheVariants as outcomes
use Rattle.tk_edge.specs.declared.event.Event.{Event}
use Rattle.tk_edge.specs.History.{GoesOn}
use Rattle.tk_journal.specs.declared.entry.Entry.{Entry}
use Rattle.tk_journal.specs.declared.object.EndedPod.{EndedPod}
use Rattle.tk_journal.specs.declared.object.Plan.{Plan}
use Rattle.tk_journal.specs.declared.object.PodState.{PodState}
use Rattle.tk_journal.specs.History.{pod_of}
use Rattle.tk_journal.specs.PodRows.{claims_for}
use Rattle.tk_steps.specs.declared.held.HeldPod.{HeldPod}
use Rattle.tk_steps.specs.Held.{HoldsPod}
use Rattle.tk_steps.specs.May.{May}
use Rattle.tk_held.specs.Conditions.{claim_of}
use Rattle.tk_held.specs.Pods.{RoseBy, count_failed}
use Rattle.tk_outcome.specs.Exits.{exits_of}
use Rattle.tk_outcome.specs.Walked.{EndsWalked}

-- The outcome by the pod's exits, and by what was fetched for its results. A pod that failed without an exit is one of
-- `failed`, or its steps all passed and its results are refused. Which pods may be cancelled or late the journal's rows say.
abbrev pub EndsBy : List ℕ → List Event → List (List ℕ) → HeldPod → Outcome → Type 0
EndsBy root told failed pod (outcomes.Succeeded results) = EndsWalked root told None pod (outcomes.Succeeded results)
EndsBy root told failed pod (outcomes.Failed (Some exit) results) = EndsWalked root told None pod (outcomes.Failed (Some exit) results)
EndsBy root told failed pod (outcomes.Failed None results) = (Contains failed pod.name × (results ≡ [])) ⊎ EndsWalked root told None pod (outcomes.Failed None results)
EndsBy root told failed pod outcomes.Cancelled = Unit {0}
EndsBy root told failed pod outcomes.TimedOut = Unit {0}
EndsBy root told failed pod outcomes.Lost = ⊥

-- the pod of this name and plan ended so
pub record IsEndedBy (root : List ℕ) (told : List Event) (failed : List (List ℕ)) (name : List ℕ) (plan : Plan) (ended : EndedPod) : Type 0 where
  pub pod : HeldPod
  pub named : pod.name ≡ name
  pub planned : pod.plan ≡ plan
  -- this is what the host had told by then
  pub then : List Event
  pub since : GoesOn then told
  -- its steps are all that the host armed of the pod, with the exits that it found by then, and found none later
  pub held : HoldsPod then pod
  pub stays : HoldsPod told pod
  pub exits : ended.exits ≡ exits_of pod.steps.items
  pub by : EndsBy root then failed pod ended.outcome

-- so ended each pod that a kubelet claimed in a life and that has ended
abbrev pub AreEndedBy : ℕ → ℕ → List ℕ → List Event → List (List ℕ) → List Entry → Type 0
AreEndedBy number life root told failed history =
    (name : List ℕ) (state : PodState) (ended : EndedPod) → pod_of history name ≡ Some state → state.claim ≡ Some (claim_of number life)
    → state.ended ≡ Some ended → IsEndedBy root told failed name state.plan ended

-- So it is, and the pods for which a call on the host failed, those that ended so and those that are held, are at most as
-- many as the host's count of faults rose by, or that stands at its end.
pub record HasOutcomes (number life : ℕ) (root : List ℕ) (held : List HeldPod) (before now : ℕ) (told : List Event) (history : List Entry) : Type 0 where
  pub failed : List (List ℕ)
  pub few : RoseBy (length failed + count_failed held) before now
  pub each : AreEndedBy number life root told failed history

-- the event is one that may be added for a pod that the kubelet claimed, by the plan that the journal has for it
pub record MayClaimed (number : ℕ) (root : List ℕ) (history : List Entry) (e : Event) (older : List Event) : Type 0 where
  pub name : List ℕ
  pub state : PodState
  pub is : pod_of history name ≡ Some state
  pub claimed : claims_for number state.claim ≡ true
  pub may : May root name state.plan e older

-- so is each event of a host's history, with what stood before it
abbrev pub AreForClaimed : ℕ → List ℕ → List Entry → List Event → Type 0
AreForClaimed number root history [] = Unit {0}
AreForClaimed number root history (e ∷ older) = MayClaimed number root history e older × AreForClaimed number root history older
