-- Which numbers fit the types that hold them, and which entries there are.
use Rattle.std.specs.Prelude.{ℕ, ◌<◌, ◌^◌, Option, IfSome}
use Rattle.std.specs.List.{AllByRecursion}
use Rattle.tk_payload.specs.Forms.{entry_json}
use Rattle.tk_payload.specs.Sound.{IsSound}
use Rattle.tk_types.specs.declared.task.PipelineTask.{PipelineTask}
use Rattle.tk_types.specs.declared.run.Start.{Start}
use Rattle.tk_types.specs.declared.run.RunSpec.{RunSpec}
use Rattle.tk_types.specs.declared.object.TaskRunSpec.{TaskRunSpec}
use Rattle.tk_types.specs.declared.run.Outcome.{Outcome}
use Rattle.tk_types.specs.declared.run.Outcome.TheVariants as outcomes
use Rattle.tk_edge.specs.declared.order.Order.{Order}
use Rattle.tk_journal.specs.declared.object.Plan.{Plan}
use Rattle.tk_journal.specs.declared.act.Skip.{Skip}
use Rattle.tk_journal.specs.declared.act.Admission.{Admission}
use Rattle.tk_journal.specs.declared.act.Admission.TheVariants as admissions
use Rattle.tk_journal.specs.declared.act.Closing.{Closing}
use Rattle.tk_journal.specs.declared.act.Closing.TheVariants as closings
use Rattle.tk_journal.specs.declared.act.Act.{Act}
use Rattle.tk_journal.specs.declared.act.Act.TheVariants as acts
use Rattle.tk_journal.specs.declared.entry.Fronts.{Fronts}
use Rattle.tk_journal.specs.declared.entry.Actor.{Actor}
use Rattle.tk_journal.specs.declared.entry.Actor.TheVariants as actors
use Rattle.tk_journal.specs.declared.entry.Entry.{Entry}

-- a number of so many bits
abbrev pub Below : ℕ → ℕ → Type 0
Below bits n = n < 2 ^ bits

abbrev pub Optional : {X : Type 0} → (X → Type 0) → Option X → Type 0
Optional fits o = IfSome o fits

-- a value without numbers
abbrev pub Plain : {X : Type 0} → X → Type 0
Plain x = Unit {0}

abbrev pub PipelineTaskFits : PipelineTask → Type 0
PipelineTaskFits x = (Below 32 x.retries) × (Below 64 x.timeout)

abbrev pub RunSpecFits : RunSpec → Type 0
RunSpecFits x = (AllByRecursion PipelineTaskFits x.tasks) × (AllByRecursion PipelineTaskFits x.finally) × (Below 64 x.pipeline_ms) × (Below 64 x.tasks_ms) × (Below 64 x.finally_ms)

abbrev pub TaskRunSpecFits : TaskRunSpec → Type 0
TaskRunSpecFits x = (Below 32 x.retries) × (Below 64 x.timeout)

abbrev pub OutcomeFits : Outcome → Type 0
OutcomeFits (outcomes.Succeeded x) = Unit {0}
OutcomeFits (outcomes.Failed exit results) = Optional (Below 8) exit
OutcomeFits outcomes.TimedOut = Unit {0}
OutcomeFits outcomes.Cancelled = Unit {0}
OutcomeFits outcomes.Lost = Unit {0}

abbrev pub OrderFits : Order → Type 0
OrderFits x = Below 32 x.step

abbrev pub PlanFits : Plan → Type 0
PlanFits x = (AllByRecursion OrderFits x.orders) × (Below 32 x.keep)

abbrev pub SkipFits : Skip → Type 0
SkipFits x = Below 32 x.task

abbrev pub AdmissionFits : Admission → Type 0
AdmissionFits (admissions.Run x) = RunSpecFits x
AdmissionFits (admissions.Task x) = TaskRunSpecFits x

abbrev pub ClosingFits : Closing → Type 0
ClosingFits (closings.Attempt x) = OutcomeFits x
ClosingFits closings.TaskRun = Unit {0}
ClosingFits (closings.Run condition skipped results) = AllByRecursion SkipFits skipped

abbrev pub ActFits : Act → Type 0
ActFits (acts.Admit name spec pending asked root) = AdmissionFits spec
ActFits (acts.Ask name status) = Unit {0}
ActFits (acts.Start name) = Unit {0}
ActFits (acts.Schedule name task bindings) = Below 32 task
ActFits (acts.MakeTaskRun name run task index mark) = (Below 32 task) × (Below 32 index)
ActFits (acts.Halt name stop) = Unit {0}
ActFits (acts.CancelTaskRun name) = Unit {0}
ActFits (acts.OpenAttempt name) = Unit {0}
ActFits (acts.MakePod name task_run attempt plan mark) = (Below 32 attempt) × (PlanFits plan)
ActFits (acts.ClaimPod name) = Unit {0}
ActFits (acts.EndPod name exits outcome) = (AllByRecursion (Below 8) exits) × (OutcomeFits outcome)
ActFits (acts.Close name closing) = ClosingFits closing

abbrev pub FrontsFits : Fronts → Type 0
FrontsFits x = (Below 64 x.runs) × (Below 64 x.task_runs) × (Below 64 x.pods)

abbrev pub ActorFits : Actor → Type 0
ActorFits actors.Admission = Unit {0}
ActorFits actors.User = Unit {0}
ActorFits (actors.Runs x) = Below 32 x
ActorFits (actors.Tasks x) = Below 32 x
ActorFits (actors.Kubelet number life) = (Below 32 number) × (Below 32 life)

abbrev pub EntryFits : Entry → Type 0
EntryFits x = (ActorFits x.actor) × (FrontsFits x.fronts) × (Below 64 x.moment) × (ActFits x.act)

-- an entry that a program can hold: its numbers fit their types, and its texts are UTF-8
pub record IsEntry (entry : Entry) : Type 0 where
  pub fits : EntryFits entry
  pub sound : IsSound (entry_json entry)
