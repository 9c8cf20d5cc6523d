-- What a kubelet's host tells beside the journal, what a scenario's script gives, and how a held pod ends.
use Rattle.std.specs.Prelude.{◌≡◌, ℕ, zero, suc, true, false, ◌&&◌, nat_eq, bytes_eq, if◌then◌else◌, List, [], ◌∷◌, ◌++◌, length, Option, Some, None, codes, unwrap_or}
use Rattle.tk_types.specs.declared.run.Outcome.{Outcome}
use Rattle.tk_types.specs.declared.run.Outcome.TheVariants as outcomes
use Rattle.tk_types.specs.declared.value.Param.{Param}
use Rattle.tk_types.specs.declared.value.ResultSpec.{ResultSpec}
use Rattle.tk_edge.specs.declared.order.Order.{Order}
use Rattle.tk_edge.specs.declared.event.Event.{Event as HostEvent}
use Rattle.tk_edge.specs.declared.event.Event.TheVariants as tells
use Rattle.tk_edge.specs.History.{exit_of, order_of}
use Rattle.tk_edge.specs.InOrder.{Layout}
use Rattle.tk_journal.specs.declared.entry.Actor.TheVariants as actors
use Rattle.tk_journal.specs.declared.entry.Entry.{Entry}
use Rattle.tk_journal.specs.declared.act.Act.{Act}
use Rattle.tk_journal.specs.declared.act.Act.TheVariants as acts
use Rattle.tk_journal.specs.declared.object.PodState.{PodState}
use Rattle.tk_journal.specs.Lists.{Has}
use Rattle.tk_journal.specs.History.{View, pod_of}
use Rattle.tk_journal.specs.PodRows.{EndRow, ClaimRow, IsWell, IsBroke, AreResults}
use Rattle.tk_journal.specs.Choice.{order_of as place_in_order, IsBefore}
use Rattle.tk_steps.specs.Paths.{layout_of}
use Rattle.tk_deeds.specs.Deeds.{Deed}
use Rattle.tk_held.specs.declared.judging.Settled.TheVariants as settled
use Rattle.tk_held.specs.Settled.{settled_in}

-- the folders of pods stand in `/work`
abbrev pub layout : Layout
layout = layout_of (codes "/work")

-- the starts and ends of steps that a host tells, the newest first

abbrev pub end_of : Option Order → List Deed
end_of None = []
end_of (Some order) = record { pod = order.pod; step = order.step; is_end = true } ∷ []

abbrev pub deeds_of : List HostEvent → List Deed
deeds_of [] = []
deeds_of (tells.Started child order ∷ older) = record { pod = order.pod; step = order.step; is_end = false } ∷ deeds_of older
deeds_of (tells.Exited child exit ∷ older) = end_of (order_of child older) ++ deeds_of older
deeds_of (_ ∷ older) = deeds_of older

-- the exits of a pod's steps in order, as far as they are found

-- of the child that was started with the step
abbrev pub step_exit : List ℕ → ℕ → List HostEvent → List HostEvent → Option ℕ
step_exit pod step whole [] = None
step_exit pod step whole (tells.Started child order ∷ older) =
    if bytes_eq order.pod pod && nat_eq order.step step then exit_of child whole else step_exit pod step whole older
step_exit pod step whole (_ ∷ older) = step_exit pod step whole older

abbrev pub first_exit : Option ℕ → List ℕ → List ℕ
first_exit None rest = []
first_exit (Some exit) rest = exit ∷ rest

abbrev pub exits_from : List ℕ → List HostEvent → ℕ → ℕ → List ℕ
exits_from pod told step zero = []
exits_from pod told step (suc count) = first_exit (step_exit pod step told told) (exits_from pod told (suc step) count)

abbrev pub exits_in : List ℕ → PodState → List HostEvent → List ℕ
exits_in name pod told = exits_from name told 0 (length pod.plan.orders)

-- What a scenario's outcomes give.
pub record Script : Type 0 where
  -- the exit of a pod's step
  pub exit : List ℕ → ℕ → ℕ
  -- what the pod's files come to for these declared results, or None where they are refused
  pub gathered : List ℕ → List ResultSpec → Option (List Param)

-- what is gathered is of the declared results
abbrev pub AreGathered : Script → Type 0
AreGathered script =
    (pod : List ℕ) (declared : List ResultSpec) (results : List Param) → script.gathered pod declared ≡ Some results → AreResults declared results

-- each exit that a host found is the script's
abbrev pub IsExitOf : Script → ℕ → Option Order → Type 0
IsExitOf script exit None = Unit {0}
IsExitOf script exit (Some order) = exit ≡ script.exit order.pod order.step

abbrev pub IsScripted : Script → List HostEvent → Type 0
IsScripted script [] = Unit {0}
IsScripted script (tells.Exited child exit ∷ older) = IsExitOf script exit (order_of child older) × IsScripted script older
IsScripted script (_ ∷ older) = IsScripted script older

-- claimed by this kubelet in this life, and unended
pub record IsHeldBy (number life : ℕ) (pod : PodState) : Type 0 where
  pub claimed : pod.claim ≡ Some record { number = number; life = life }
  pub unended : pod.ended ≡ None

-- neither marked nor late, as the kubelet sees it
abbrev pub IsFree : View → ℕ → List ℕ → Type 0
IsFree view moment name = settled_in view moment name ≡ None

-- its walk is over with these exits, and the files give these results; no call on the host of a world fails
abbrev pub WalksSo : Script → List ℕ → PodState → List ℕ → Outcome → Type 0
WalksSo script name pod exits (outcomes.Succeeded results) = IsWell pod.plan exits × (script.gathered name pod.plan.results ≡ Some results)
WalksSo script name pod exits (outcomes.Failed (Some exit) results) =
    IsBroke pod.plan exits exit × (results ≡ unwrap_or (script.gathered name pod.plan.results) [])
WalksSo script name pod exits (outcomes.Failed None results) =
    IsWell pod.plan exits × (script.gathered name pod.plan.results ≡ None) × (results ≡ [])
WalksSo script name pod exits _ = ⊥

-- as Cancelled, as TimedOut, or by its walk
abbrev pub EndsSo : Script → View → ℕ → List ℕ → PodState → List ℕ → Outcome → Type 0
EndsSo script view moment name pod exits outcomes.Cancelled = settled_in view moment name ≡ Some settled.Cancelled
EndsSo script view moment name pod exits outcomes.TimedOut = settled_in view moment name ≡ Some settled.TimedOut
EndsSo script view moment name pod exits outcome = IsFree view moment name × WalksSo script name pod exits outcome

-- a held pod ends by what the host tells; one that is seen as held but has ended since isn't ended again
pub record EndsHeld (script : Script) (number life : ℕ) (history : List Entry) (view : View) (moment : ℕ) (told : List HostEvent) (name exits : List ℕ) (outcome : Outcome)
    (pod : PodState) : Type 0 where
  pub row : EndRow view (actors.Kubelet number life) moment exits outcome pod
  pub held : IsHeldBy number life pod
  pub still : Has (pod_of history name) (IsHeldBy number life)
  pub exits_told : exits ≡ exits_in name pod told
  pub ends : EndsSo script view moment name pod exits outcome

module _ (script : Script) (number life : ℕ) (history : List Entry) (view : View) (moment : ℕ) (told : List HostEvent) where
  -- one of an earlier life ends as Lost
  abbrev pub MayEnd : List ℕ → List ℕ → Outcome → Type 0
  MayEnd name exits outcomes.Lost = Has (view.pod name) (EndRow view (actors.Kubelet number life) moment exits outcomes.Lost)
  MayEnd name exits outcome = Has (view.pod name) (EndsHeld script number life history view moment told name exits outcome)

  -- a kubelet ends a pod, or claims one
  abbrev pub MayTry : Act → Type 0
  MayTry (acts.EndPod name exits outcome) = MayEnd name exits outcome
  MayTry (acts.ClaimPod name) = Has (view.pod name) (ClaimRow view (actors.Kubelet number life))
  MayTry _ = ⊥

  -- the first of them
  pub record IsFirst (act : Act) : Type 0 where
    pub may : MayTry act
    pub first : (other : Act) → MayTry other → IsBefore (place_in_order view act) (place_in_order view other)

  abbrev pub HasNone : Type 0
  HasNone = (act : Act) → MayTry act → ⊥
