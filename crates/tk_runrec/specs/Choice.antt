-- What a run worker does at what it sees: the first act of a run's table, of runs in order of admission.
use Rattle.std.specs.Prelude.{ℕ, Bool, not, ◌&&◌, ◌||◌, List, [], ◌∷◌, map, Option, Some, None, is_some, is_none, option_map, option_and_then, find, if◌then◌else◌}
use Rattle.std.specs.List.{list_all}
use Rattle.tk_types.specs.declared.run.Child.{Child}
use Rattle.tk_types.specs.declared.run.Facts.{Facts}
use Rattle.tk_types.specs.declared.run.Stop.{Stop}
use Rattle.tk_types.specs.declared.run.Stop.TheVariants as stops
use Rattle.tk_types.specs.declared.verdict.Condition.{Condition}
use Rattle.tk_types.specs.declared.verdict.Verdict.{Verdict}
use Rattle.tk_verdict.specs.Condition.{condition_of, results_of}
use Rattle.tk_verdict.specs.Labels.{labels_of, ready_bindings}
use Rattle.tk_verdict.specs.Verdict.{is_done}
use Rattle.tk_journal.specs.declared.act.Act.{Act}
use Rattle.tk_journal.specs.declared.act.Act.TheVariants as acts
use Rattle.tk_journal.specs.declared.act.Closing.{Closing}
use Rattle.tk_journal.specs.declared.act.Closing.TheVariants as closings
use Rattle.tk_journal.specs.declared.object.RunState.{RunState}
use Rattle.tk_journal.specs.declared.object.Scheduled.{Scheduled}
use Rattle.tk_journal.specs.declared.object.TaskRunState.{TaskRunState}
use Rattle.tk_journal.specs.History.{View, children_from}
use Rattle.tk_journal.specs.Names.{child_name_of}
use Rattle.tk_journal.specs.RunRows.{facts_in, outcome_in, skips_of}
use Rattle.tk_cache.specs.Children.{children_of}
use Rattle.tk_choice.specs.First.{first_act}
use Rattle.tk_runrec.specs.declared.found.Found.{Found}
use Rattle.tk_runrec.specs.Labels.{first_ready}
use Rattle.tk_runrec.specs.Found.{first_found}
use Rattle.tk_runrec.specs.Tests.{starts_ready, is_closed, is_recorded, is_reached, may_halt, may_schedule}

-- the run's children, as far as they are scheduled
abbrev pub seen_children : View → RunState → List Child
seen_children view run = (facts_in view run).children

-- those of one task
abbrev pub part_children : View → RunState → Scheduled → List Child
part_children view run part = children_from (outcome_in view run part.task) part.task 0 part.bindings

abbrev pub child_name : RunState → Child → List ℕ
child_name run child = child_name_of run.spec child.task child.index

-- Close

-- each child's TaskRun is there and closed
abbrev pub all_closed : View → RunState → Bool
all_closed view run = list_all (λ (child : Child). is_closed (view.task_run (child_name run child))) (seen_children view run)

-- all is over: it can't start; or it was started, and every task is done, every asked stop recorded and every child closed
abbrev pub is_over : View → RunState → List Verdict → Bool
is_over view run labels =
    not (starts_ready run.spec.start)
    || (is_some run.start && list_all is_done labels && list_all (is_recorded run.stops) run.asked && all_closed view run)

abbrev pub closing : Facts → Condition → Closing
closing facts condition = closings.Run condition (skips_of facts) (results_of facts)

abbrev pub closed_with : List ℕ → Facts → Condition → Act
closed_with name facts condition = acts.Close name (closing facts condition)

-- by the condition that the labels give
abbrev pub close : View → List ℕ → RunState → List Verdict → Option Act
close view name run labels =
    if not run.pending && is_over view run labels
    then option_map (closed_with name (facts_in view run)) (condition_of (facts_in view run) labels)
    else None

-- Halt

-- the order in which stops are recorded; of the asked ones at most one is the highest
abbrev pub halting_order : List Stop
halting_order =
    stops.Cancelled ∷ stops.CancelledRunFinally ∷ stops.StoppedRunFinally ∷ stops.PipelineTimeout ∷ stops.TasksTimeout ∷ stops.FinallyTimeout
    ∷ stops.Failure ∷ []

-- the first stop that may be recorded
abbrev pub halt : ℕ → List ℕ → RunState → List Child → List Verdict → Option Act
halt moment name run children labels = option_map (λ (stop : Stop). acts.Halt name stop) (find (may_halt moment run children labels) halting_order)

-- Start

abbrev pub start : List ℕ → RunState → Option Act
start name run = if starts_ready run.spec.start && not run.pending && is_none run.start then Some (acts.Start name) else None

-- CancelTaskRun

abbrev pub found_at : List ℕ → TaskRunState → Found
found_at name task_run = record { task = task_run.task; index = task_run.index; name = name }

-- a TaskRun that a recorded stop is to end
abbrev pub unmarked : List ℕ → RunState → Option TaskRunState → Option Found
unmarked name run None = None
unmarked name run (Some task_run) =
    if is_none task_run.closed && not task_run.marked && is_reached run task_run.task then Some (found_at name task_run) else None

-- the first of the run's TaskRuns that a recorded stop is to end
abbrev pub cancel : View → List ℕ → RunState → Option Act
cancel view name run =
    option_map (λ (found : Found). acts.CancelTaskRun found.name)
    (first_found (λ (child : List ℕ). unmarked child run (view.task_run child)) None (children_of view name))

-- MakeTaskRun

abbrev pub make : List ℕ → RunState → Found → Act
make name run found = acts.MakeTaskRun found.name name found.task found.index (is_reached run found.task)

-- a child without a TaskRun
abbrev pub missing : View → RunState → Child → Option Found
missing view run child =
    if is_none (view.task_run (child_name run child)) then Some record { task = child.task; index = child.index; name = child_name run child }
    else None

-- the first of the run's children without a TaskRun
abbrev pub make_first : View → List ℕ → RunState → Option Act
make_first view name run = option_map (make name run) (first_found (missing view run) None (seen_children view run))

-- Schedule

abbrev pub schedule_task : List ℕ → Facts → List Verdict → ℕ → Option Act
schedule_task name facts labels task = option_map (acts.Schedule name task) (ready_bindings facts labels task)

-- the first Ready task that nothing holds back, with the bindings that the rules give it
abbrev pub schedule : View → List ℕ → RunState → List Verdict → Option Act
schedule view name run labels =
    if is_some run.start
    then option_and_then (schedule_task name (facts_in view run) labels) (first_ready (may_schedule run (seen_children view run)) 0 labels)
    else None

-- runs

-- the rows of an open run, in order
abbrev pub table : View → ℕ → List ℕ → RunState → List Verdict → List (Option Act)
table view moment name run labels =
    close view name run labels
    ∷ halt moment name run (seen_children view run) labels
    ∷ start name run
    ∷ cancel view name run
    ∷ make_first view name run
    ∷ schedule view name run labels
    ∷ []

-- the first act of an open run
abbrev pub open_act : View → ℕ → List ℕ → RunState → Option Act
open_act view moment name run = first_act (table view moment name run (labels_of (facts_in view run)))

-- by the rows alone that look at no label
abbrev pub plain_act : View → List ℕ → RunState → Option Act
plain_act view name run = first_act (start name run ∷ cancel view name run ∷ make_first view name run ∷ [])

-- A closed run only cancels what its stops reach.
abbrev pub act_of : View → ℕ → List ℕ → RunState → Option Act
act_of view moment name run = if is_some run.closed then cancel view name run else open_act view moment name run

abbrev pub act_at : View → ℕ → List ℕ → Option RunState → Option Act
act_at view moment name None = None
act_at view moment name (Some run) = act_of view moment name run

-- of the run of this name
abbrev pub act_named : View → ℕ → List ℕ → Option Act
act_named view moment name = act_at view moment name (view.run name)

abbrev pub choice_among : View → ℕ → List (List ℕ) → Option Act
choice_among view moment names = first_act (map (act_named view moment) names)

-- the first act that a run gives rise to
abbrev pub choice : View → ℕ → Option Act
choice view moment = choice_among view moment view.runs
