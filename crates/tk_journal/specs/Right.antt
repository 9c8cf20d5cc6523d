-- What holds at a position of a right journal, and what more lasts in a legal one.
use Rattle.std.specs.Prelude.{◌≡◌, ◌≢◌, ◌⊎◌, ◌<◌, ◌≤◌, ℕ, suc, ◌+◌, List, [], ◌∷◌, length, Option, Some, None, true, slice_get, AllPairs, Contains, IsTrue}
use Rattle.tk_types.specs.declared.run.Facts.{Facts}
use Rattle.tk_types.specs.declared.run.Start.TheVariants.{Ready, Unstartable}
use Rattle.tk_types.specs.declared.run.Stop.{Stop}
use Rattle.tk_types.specs.declared.run.Stop.TheVariants as stops
use Rattle.tk_types.specs.declared.run.Outcome.{Outcome}
use Rattle.tk_types.specs.declared.run.Outcome.TheVariants as outcomes
use Rattle.tk_types.specs.declared.verdict.Binding.{Binding}
use Rattle.tk_types.specs.declared.verdict.Verdict.TheVariants as labels
use Rattle.tk_types.specs.declared.object.Asked.{Asked}
use Rattle.tk_types.specs.declared.object.Asked.TheVariants as asks
use Rattle.tk_journal.specs.declared.act.Closing.{Closing}
use Rattle.tk_journal.specs.declared.act.Act.{Act}
use Rattle.tk_journal.specs.declared.act.Act.TheVariants as acts
use Rattle.tk_journal.specs.declared.entry.Entry.{Entry}
use Rattle.tk_edge.specs.declared.order.Order.{Order}
use Rattle.tk_journal.specs.declared.object.RunState.{RunState}
use Rattle.tk_journal.specs.declared.object.Scheduled.{Scheduled}
use Rattle.tk_journal.specs.declared.object.TaskRunState.{TaskRunState}
use Rattle.tk_journal.specs.declared.object.Attempt.{Attempt}
use Rattle.tk_journal.specs.declared.object.Ending.{Ending}
use Rattle.tk_journal.specs.declared.object.Ending.TheVariants as endings
use Rattle.tk_journal.specs.declared.object.PodState.{PodState}
use Rattle.tk_journal.specs.declared.object.EndedPod.{EndedPod}
use Rattle.tk_types.specs.declared.task.PipelineTask.{PipelineTask}
use Rattle.tk_types.specs.declared.task.TaskBody.{TaskBody}
use Rattle.tk_journal.specs.Names.{task_at, child_name_of}
use Rattle.tk_journal.specs.Lists.{IsThere, Has}
use Rattle.tk_journal.specs.History.{run_of, task_run_of, pod_of, facts_of, outcome_of}
use Rattle.tk_journal.specs.Stops.{asked_stop, IsReached, HasPassed}
use Rattle.tk_journal.specs.RunRows.{BadChild, IsClosingOf, AreChildrenClosed}
use Rattle.tk_journal.specs.TaskRunRows.{IsOpenAttempt, NoneOpen}
use Rattle.tk_types.specs.Behaviour.{level_of}
use Rattle.tk_verdict.specs.Facts.{is_failure}
use Rattle.tk_bind.specs.Fits.{fits}
use Rattle.tk_types.specs.Limits.{most_retries, most_steps}
use Rattle.tk_journal.specs.Sound.{IsSoundSpec, HasSteps, ReadsSteps}
use Rattle.tk_names.specs.Children.{pod_name}
use Rattle.tk_verdict.specs.Gives.{Gives, label_of}

-- an earlier entry asks it of the object, or admits the object so
abbrev pub Asks : Act → List ℕ → Asked → Type 0
Asks (acts.Admit admitted spec pending asked root) name status = (admitted ≡ name) × (asked ≡ Some status)
Asks (acts.Ask asked_name asked) name status = (asked_name ≡ name) × (asked ≡ status)
Asks _ name status = ⊥

abbrev pub WasAsked : List Entry → List ℕ → Asked → Type 0
WasAsked [] name status = ⊥
WasAsked (e ∷ older) name status = Asks e.act name status ⊎ WasAsked older name status

-- the attempt at this place ended so
pub record EndedAttempt (attempts : List Attempt) (place : ℕ) (outcome : Outcome) : Type 0 where
  pub attempt : Attempt
  pub at : slice_get attempts place ≡ Some attempt
  pub ended : attempt.outcome ≡ Some outcome

-- ended by its last permitted attempt, after failures alone
pub record EndedFailing (task_run : TaskRunState) (outcome : Outcome) : Type 0 where
  pub all_used : length task_run.attempts ≡ suc task_run.spec.retries
  pub failing : (place : ℕ) (o : Outcome) → EndedAttempt task_run.attempts place o → is_failure o ≡ true
  pub last : EndedAttempt task_run.attempts task_run.spec.retries outcome

-- ended by one attempt that succeeded, the last
pub record EndedWell (task_run : TaskRunState) (outcome : Outcome) : Type 0 where
  pub place : ℕ
  pub is_last : suc place ≡ length task_run.attempts
  pub last : EndedAttempt task_run.attempts place outcome
  pub before : (p : ℕ) (o : Outcome) → p < place → EndedAttempt task_run.attempts p o → is_failure o ≡ true

-- a pod of this name ended so
abbrev pub HasEndedPod : List Entry → List ℕ → Outcome → Type 0
HasEndedPod history name outcome = Has (pod_of history name) (λ (pod : PodState). Has pod.ended (λ (ended : EndedPod). ended.outcome ≡ outcome))

-- the task of the run has these retries
abbrev pub HasRetries : List Entry → List ℕ → ℕ → ℕ → Type 0
HasRetries history run_name task retries =
    Has (run_of history run_name) (λ (run : RunState). Has (task_at run.spec task) (λ (t : PipelineTask). t.retries ≡ retries))

-- the run has this body for the task
abbrev pub HasBody : List Entry → List ℕ → ℕ → TaskBody → Type 0
HasBody history run_name task body = Has (run_of history run_name) (λ (run : RunState). slice_get run.spec.bodies task ≡ Some body)

-- a TaskRun of this name is marked
abbrev pub HasMarked : List Entry → List ℕ → Type 0
HasMarked history name = Has (task_run_of history name) (λ (task_run : TaskRunState). task_run.marked ≡ true)

abbrev pub facts_at : List Entry → RunState → Facts
facts_at history run = facts_of (task_run_of history) run

abbrev pub outcome_at : List Entry → RunState → ℕ → ℕ → Option Outcome
outcome_at history run task index = outcome_of (task_run_of history (child_name_of run.spec task index))

-- the TaskRun may be marked or cancelled: a recorded stop reaches it, or its cancelling was asked
abbrev pub MayBeMarkedIn : List Entry → List ℕ → ℕ → Option (List ℕ) → Type 0
MayBeMarkedIn history name task None = WasAsked history name asks.TaskRunCancelled
MayBeMarkedIn history name task (Some run_name) = Has (run_of history run_name) (λ run. IsReached run task)

abbrev pub MayBeMarked : List Entry → List ℕ → TaskRunState → Type 0
MayBeMarked history name task_run = MayBeMarkedIn history name task_run.task task_run.run

-- a child of its run, under its name, with the binding that the rules give it now
pub record IsChildOf (history : List Entry) (name : List ℕ) (task index : ℕ) (binding : Binding) (run : RunState) : Type 0 where
  pub named : name ≡ child_name_of run.spec task index
  pub part : Scheduled
  pub scheduled : Contains run.scheduled part
  pub of_task : part.task ≡ task
  pub at : slice_get part.bindings index ≡ Some binding
  pub given : Gives (facts_at history run) task part.bindings

abbrev pub RightEnding : List Entry → List ℕ → TaskRunState → Ending → Type 0
RightEnding history name task_run (endings.Of (outcomes.Succeeded results)) = EndedWell task_run (outcomes.Succeeded results)
RightEnding history name task_run (endings.Of (outcomes.Failed exit results)) = EndedFailing task_run (outcomes.Failed exit results)
RightEnding history name task_run (endings.Of outcomes.TimedOut) = EndedFailing task_run outcomes.TimedOut
RightEnding history name task_run (endings.Of outcomes.Lost) = EndedFailing task_run outcomes.Lost
RightEnding history name task_run (endings.Of outcomes.Cancelled) = MayBeMarked history name task_run
RightEnding history name task_run (endings.Unstartable reason) = task_run.spec.start ≡ Unstartable reason

-- a right position

pub record RightRun (history : List Entry) (name : List ℕ) (run : RunState) : Type 0 where
  pub rising : AllPairs (λ a b. level_of a < level_of b) run.stops
  pub asked : (status : Asked) (stop : Stop) → asked_stop status ≡ Some stop → Contains run.stops stop → WasAsked history name status
  pub failure : Contains run.stops stops.Failure → BadChild run.spec (outcome_at history run) run.scheduled
  pub none_wrong : (task : ℕ) → task < length run.spec.tasks + length run.spec.finally → label_of (facts_at history run) task ≢ labels.Wrong
  pub closed : (closing : Closing) → run.closed ≡ Some closing → IsClosingOf (facts_at history run) closing × AreChildrenClosed (task_run_of history) run

pub record RightTaskRun (history : List Entry) (name : List ℕ) (task_run : TaskRunState) : Type 0 where
  pub child : (run_name : List ℕ) → task_run.run ≡ Some run_name
      → Has (run_of history run_name) (IsChildOf history name task_run.task task_run.index task_run.binding)
  pub few : length task_run.attempts ≤ suc task_run.spec.retries
  pub last_open : (place : ℕ) → IsOpenAttempt task_run.attempts place → suc place ≡ length task_run.attempts
  pub ending : (ending : Ending) → task_run.closed ≡ Some ending → RightEnding history name task_run ending

pub record RightPod (name : List ℕ) (pod : PodState) : Type 0 where
  pub named : name ≡ pod_name pod.task_run pod.attempt
  pub claimed_first : IsThere pod.ended → IsThere pod.claim

-- what an entry may do to the state before it
abbrev pub RightEntry : List Entry → ℕ → Act → Type 0
RightEntry older moment (acts.Halt name stops.TasksTimeout) = Has (run_of older name) (λ run. HasPassed run.start run.spec.tasks_ms moment)
RightEntry older moment (acts.Halt name stops.FinallyTimeout) = Has (run_of older name) (λ run. HasPassed run.finally_start run.spec.finally_ms moment)
RightEntry older moment (acts.Halt name stops.PipelineTimeout) = Has (run_of older name) (λ run. HasPassed run.start run.spec.pipeline_ms moment)
RightEntry older moment (acts.ClaimPod name) = Has (pod_of older name) (λ pod. pod.claim ≡ None)
RightEntry older moment (acts.EndPod name exits outcome) = Has (pod_of older name) (λ pod. IsThere pod.claim × (pod.ended ≡ None))
RightEntry older moment _ = Unit {0}

abbrev pub RightEntries : List Entry → Type 0
RightEntries [] = Unit {0}
RightEntries (e ∷ older) = RightEntries older × RightEntry older e.moment e.act

-- of one run, task and index
abbrev pub HasOneTaskRun : List Entry → Type 0
HasOneTaskRun history =
    (run_name first second : List ℕ) (a b : TaskRunState) → task_run_of history first ≡ Some a → task_run_of history second ≡ Some b
    → a.run ≡ Some run_name → b.run ≡ Some run_name → a.task ≡ b.task → a.index ≡ b.index → first ≡ second

-- of one TaskRun's attempt
abbrev pub HasOnePod : List Entry → Type 0
HasOnePod history =
    (first second : List ℕ) (a b : PodState) → pod_of history first ≡ Some a → pod_of history second ≡ Some b → a.task_run ≡ b.task_run
    → a.attempt ≡ b.attempt → first ≡ second

pub record IsRight (history : List Entry) : Type 0 where
  pub runs : (name : List ℕ) (run : RunState) → run_of history name ≡ Some run → RightRun history name run
  pub task_runs : (name : List ℕ) (task_run : TaskRunState) → task_run_of history name ≡ Some task_run → RightTaskRun history name task_run
  pub pods : (name : List ℕ) (pod : PodState) → pod_of history name ≡ Some pod → RightPod name pod
  pub entries : RightEntries history
  pub one_task_run : HasOneTaskRun history
  pub one_pod : HasOnePod history

-- what lasts beside

pub record LastingRun (history : List Entry) (name : List ℕ) (run : RunState) : Type 0 where
  pub named : run.spec.name ≡ name
  pub sound : IsSoundSpec run.spec
  pub once : AllPairs (λ a b. a.task ≢ b.task) run.scheduled
  pub exist : (part : Scheduled) → Contains run.scheduled part → (0 < length part.bindings) × (part.task < length run.spec.tasks + length run.spec.finally)
  pub given : (part : Scheduled) → Contains run.scheduled part → Gives (facts_at history run) part.task part.bindings
  pub started : (part : Scheduled) → Contains run.scheduled part → IsThere run.start
  pub startable : IsThere run.start → run.spec.start ≡ Ready
  pub asked : (status : Asked) → Contains run.asked status → WasAsked history name status
  pub words : (status : Asked) → Contains run.asked status → status ≢ asks.TaskRunCancelled
  pub recorded : (status : Asked) (stop : Stop) → asked_stop status ≡ Some stop → Contains run.stops stop → Contains run.asked status
  pub rising : AllPairs (λ a b. level_of a < level_of b) run.stops
  pub failure : Contains run.stops stops.Failure → BadChild run.spec (outcome_at history run) run.scheduled
  pub closed : (closing : Closing) → run.closed ≡ Some closing → IsClosingOf (facts_at history run) closing × AreChildrenClosed (task_run_of history) run

pub record LastingTaskRun (history : List Entry) (name : List ℕ) (task_run : TaskRunState) : Type 0 where
  pub child : (run_name : List ℕ) → task_run.run ≡ Some run_name
      → Has (run_of history run_name) (IsChildOf history name task_run.task task_run.index task_run.binding)
  pub named : task_run.spec.name ≡ name
  pub starts : (run_name : List ℕ) → task_run.run ≡ Some run_name → task_run.spec.start ≡ Ready
  pub mark : task_run.marked ≡ true → MayBeMarked history name task_run
  pub fit : task_run.spec.start ≡ Ready → IsTrue (fits task_run.spec.body task_run.binding.params)
  pub steps : HasSteps task_run.spec.start task_run.spec.body
  pub readable : ReadsSteps task_run.spec.body
  pub sized : task_run.spec.retries ≤ most_retries
  pub retries : (run_name : List ℕ) → task_run.run ≡ Some run_name → HasRetries history run_name task_run.task task_run.spec.retries
  pub body : (run_name : List ℕ) → task_run.run ≡ Some run_name → HasBody history run_name task_run.task task_run.spec.body
  pub few : length task_run.attempts ≤ suc task_run.spec.retries
  pub last_open : (place : ℕ) → IsOpenAttempt task_run.attempts place → suc place ≡ length task_run.attempts
  pub tried : 0 < length task_run.attempts → task_run.spec.start ≡ Ready
  pub failing : task_run.closed ≡ None → (place : ℕ) (outcome : Outcome) → EndedAttempt task_run.attempts place outcome
      → (is_failure outcome ≡ true) × (place < task_run.spec.retries)
  pub over : (ending : Ending) → task_run.closed ≡ Some ending → NoneOpen task_run.attempts
  pub ending : (ending : Ending) → task_run.closed ≡ Some ending → RightEnding history name task_run ending
  pub pods : (place : ℕ) (outcome : Outcome) → EndedAttempt task_run.attempts place outcome → HasEndedPod history (pod_name name (suc place)) outcome

-- its TaskRun has the attempt, is marked where the pod is, or where it ended Cancelled, and has as many steps as the pod has orders
pub record LastingPod (history : List Entry) (name : List ℕ) (pod : PodState) : Type 0 where
  pub named : name ≡ pod_name pod.task_run pod.attempt
  pub attempt : Has (task_run_of history pod.task_run) (λ task_run. (place : ℕ) × (pod.attempt ≡ suc place) × (place < length task_run.attempts))
  pub mark : pod.marked ≡ true → HasMarked history pod.task_run
  pub cancelled : Has pod.ended (λ ended. ended.outcome ≡ outcomes.Cancelled) → HasMarked history pod.task_run
  pub claimed_first : IsThere pod.ended → IsThere pod.claim
  pub whole : Has (task_run_of history pod.task_run) (λ task_run. length pod.plan.orders ≡ length task_run.spec.body.spec.steps)
  pub steps : (0 < length pod.plan.orders) × (length pod.plan.orders ≤ most_steps)
  pub orders : (place : ℕ) (order : Order) → slice_get pod.plan.orders place ≡ Some order → (order.pod ≡ name) × (order.step ≡ place)

-- the TaskRun under a child's name is that child
abbrev pub AreOwnChildren : List Entry → Type 0
AreOwnChildren history =
    (name : List ℕ) (run : RunState) → run_of history name ≡ Some run → (part : Scheduled) → Contains run.scheduled part
    → (index : ℕ) → index < length part.bindings
    → (task_run : TaskRunState) → task_run_of history (child_name_of run.spec part.task index) ≡ Some task_run
    → (task_run.run ≡ Some name) × (task_run.task ≡ part.task) × (task_run.index ≡ index)

pub record Lasting (history : List Entry) : Type 0 where
  pub runs : (name : List ℕ) (run : RunState) → run_of history name ≡ Some run → LastingRun history name run
  pub task_runs : (name : List ℕ) (task_run : TaskRunState) → task_run_of history name ≡ Some task_run → LastingTaskRun history name task_run
  pub pods : (name : List ℕ) (pod : PodState) → pod_of history name ≡ Some pod → LastingPod history name pod
  pub entries : RightEntries history
