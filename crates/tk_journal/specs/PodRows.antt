-- When an entry of a kubelet is justified, by what the kubelet sees.
use Rattle.std.specs.Prelude.{◌≡◌, ◌≢◌, ◌⊎◌, ◌<◌, ◌≤◌, ℕ, suc, ◌+◌, List, [], length, filter, Option, Some, None, Bool, true, false, ◌&&◌, nat_eq, slice_get, get_or, IsTrue, Contains, AllPairs}
use Rattle.tk_types.specs.declared.run.Outcome.{Outcome}
use Rattle.tk_types.specs.declared.value.Param.{Param}
use Rattle.tk_types.specs.declared.value.ResultSpec.{ResultSpec}
use Rattle.tk_journal.specs.declared.entry.Actor.{Actor}
use Rattle.tk_journal.specs.declared.object.Plan.{Plan}
use Rattle.tk_journal.specs.declared.object.PodState.{PodState}
use Rattle.tk_journal.specs.declared.object.Claim.{Claim}
use Rattle.tk_journal.specs.declared.object.EndedPod.{EndedPod}
use Rattle.tk_types.specs.Value.{is_of_type}
use Rattle.tk_pod.specs.Walk.{Walk, passes_at, walked}
use Rattle.tk_pod.specs.declared.walk.Walked.TheVariants.{Well, Broke}
use Rattle.tk_journal.specs.Lists.{Has}
use Rattle.tk_journal.specs.History.{View}
use Rattle.tk_journal.specs.Stops.{HasPassed}
use Rattle.tk_types.specs.declared.run.Outcome.TheVariants as outcomes
use Rattle.tk_journal.specs.declared.entry.Actor.TheVariants as actors

-- the walk of a plan with these exits
abbrev pub walk_of : Plan → List ℕ → Walk
walk_of plan exits = record { steps = length plan.orders; keep_going = plan.keep; exits = exits }

-- they are at most as many as the steps, and none stands behind one that doesn't pass
pub record AreExits (plan : Plan) (exits : List ℕ) : Type 0 where
  pub few : length exits ≤ length plan.orders
  pub before_last : (step : ℕ) → step + 1 < length exits → passes_at plan.keep step (get_or exits step 0) ≡ true

-- every step ran and passed
abbrev pub IsWell : Plan → List ℕ → Type 0
IsWell plan exits = walked (walk_of plan exits) ≡ Some Well

-- a step didn't pass, with this exit
abbrev pub IsBroke : Plan → List ℕ → ℕ → Type 0
IsBroke plan exits exit = (step : ℕ) × (walked (walk_of plan exits) ≡ Some (Broke step exit))

-- each is a declared result, once, with a value of its type
pub record AreResults (declared : List ResultSpec) (results : List Param) : Type 0 where
  pub once : AllPairs (λ a b. a.name ≢ b.name) results
  pub each : (param : Param) → Contains results param → (spec : ResultSpec) × Contains declared spec × (spec.name ≡ param.name)
      × IsTrue (is_of_type spec.kind param.value)

abbrev pub claims_for : ℕ → Option Claim → Bool
claims_for number None = false
claims_for number (Some claim) = nat_eq claim.number number

abbrev pub is_unended : Option EndedPod → Bool
is_unended None = true
is_unended (Some ended) = false

-- the kubelet claimed the pod, and hasn't ended it
abbrev pub is_held_by : ℕ → Option PodState → Bool
is_held_by number None = false
is_held_by number (Some pod) = claims_for number pod.claim && is_unended pod.ended

pub record ClaimRow (view : View) (actor : Actor) (pod : PodState) : Type 0 where
  pub unclaimed : pod.claim ≡ None
  pub number : ℕ
  pub life : ℕ
  pub by : actor ≡ actors.Kubelet number life
  pub room : length (filter (λ name. is_held_by number (view.pod name)) view.pods) < 8

abbrev pub EndCause : View → ℕ → List ℕ → PodState → Outcome → Type 0
EndCause view moment exits pod (outcomes.Succeeded results) = IsWell pod.plan exits × AreResults pod.plan.results results
EndCause view moment exits pod (outcomes.Failed (Some exit) results) = IsBroke pod.plan exits exit × AreResults pod.plan.results results
EndCause view moment exits pod (outcomes.Failed None results) = results ≡ []
EndCause view moment exits pod outcomes.TimedOut =
    Has (view.task_run pod.task_run) (λ task_run. (place : ℕ) × (pod.attempt ≡ suc place)
    × Has (slice_get task_run.attempts place) (λ attempt. HasPassed (Some attempt.moment) task_run.spec.timeout moment))
EndCause view moment exits pod outcomes.Cancelled = (pod.marked ≡ true) ⊎ Has (view.task_run pod.task_run) (λ task_run. task_run.marked ≡ true)
EndCause view moment exits pod outcomes.Lost = ⊥

pub record EndRow (view : View) (actor : Actor) (moment : ℕ) (exits : List ℕ) (outcome : Outcome) (pod : PodState) : Type 0 where
  pub number : ℕ
  pub life : ℕ
  pub by : actor ≡ actors.Kubelet number life
  pub claimed_in : ℕ
  pub claimed : pod.claim ≡ Some record { number = number; life = claimed_in }
  pub unended : pod.ended ≡ None
  pub fits : ((claimed_in ≡ life) × AreExits pod.plan exits × EndCause view moment exits pod outcome)
      ⊎ ((claimed_in < life) × (outcome ≡ outcomes.Lost) × (exits ≡ []))
