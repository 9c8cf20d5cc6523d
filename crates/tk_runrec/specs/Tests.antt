-- The tests by which a run worker goes through the rows of one run.
use Rattle.std.specs.Prelude.{ℕ, ◌+◌, Bool, true, false, not, ◌&&◌, ◌||◌, nat_lt, nat_le, nat_eq, List, length, take, drop, Option, Some, None, is_some, if◌then◌else◌}
use Rattle.std.specs.List.{list_any, list_all, range_with_len}
use Rattle.tk_types.specs.declared.object.Asked.{Asked}
use Rattle.tk_types.specs.declared.object.Asked.TheVariants as asks
use Rattle.tk_types.specs.declared.run.Child.{Child}
use Rattle.tk_types.specs.declared.run.Start.{Start}
use Rattle.tk_types.specs.declared.run.Start.TheVariants.{Ready, Unstartable}
use Rattle.tk_types.specs.declared.run.Stop.{Stop}
use Rattle.tk_types.specs.declared.run.Stop.TheVariants as stops
use Rattle.tk_types.specs.declared.verdict.Verdict.{Verdict}
use Rattle.tk_types.specs.Lists.{is_empty}
use Rattle.tk_types.specs.Behaviour.{level_of}
use Rattle.tk_labels.specs.Kept.{is_bad}
use Rattle.tk_journal.specs.declared.object.RunState.{RunState}
use Rattle.tk_journal.specs.declared.object.Scheduled.{Scheduled}
use Rattle.tk_journal.specs.declared.object.TaskRunState.{TaskRunState}
use Rattle.tk_journal.specs.Effects.{is_final, bindings_for}
use Rattle.tk_journal.specs.Stops.{asked_level, reach_level}
use Rattle.tk_runrec.specs.Labels.{is_undone}

-- the run can start
abbrev pub starts_ready : Start → Bool
starts_ready Ready = true
starts_ready (Unstartable reason) = false

-- children

-- the TaskRun is there and closed
abbrev pub is_closed : Option TaskRunState → Bool
is_closed None = false
is_closed (Some task_run) = is_some task_run.closed

-- the task has no children
abbrev pub is_bare : List Scheduled → ℕ → Bool
is_bare scheduled task = is_empty (bindings_for task scheduled)

-- it is one of the first so many tasks, and has children
abbrev pub has_children : ℕ → Scheduled → Bool
has_children count part = nat_lt part.task count && not (is_empty part.bindings)

-- stops

abbrev pub asks_for : Stop → Asked → Bool
asks_for stops.StoppedRunFinally asks.StoppedRunFinally = true
asks_for stops.CancelledRunFinally asks.CancelledRunFinally = true
asks_for stops.Cancelled asks.Cancelled = true
asks_for _ _ = false

-- the stop is asked for, and no higher status is
abbrev pub is_highest : List Asked → Stop → Bool
is_highest asked stop = list_any (asks_for stop) asked && list_all (λ (a : Asked). nat_le (asked_level a) (level_of stop)) asked

-- the asked status is recorded, or of level 0
abbrev pub is_recorded : List Stop → Asked → Bool
is_recorded recorded status = nat_eq (asked_level status) 0 || list_any (λ (s : Stop). nat_le (asked_level status) (level_of s)) recorded

-- the stop's level is above all recorded
abbrev pub is_above : List Stop → Stop → Bool
is_above recorded stop = list_all (λ (s : Stop). nat_lt (level_of s) (level_of stop)) recorded

-- a recorded stop reaches the task's children
abbrev pub is_reached : RunState → ℕ → Bool
is_reached run task = list_any (λ (s : Stop). nat_le (reach_level run.spec task) (level_of s)) run.stops

-- the timeout is set, and the moment is late enough
abbrev pub has_passed : Option ℕ → ℕ → ℕ → Bool
has_passed None timeout moment = false
has_passed (Some from) timeout moment = nat_lt 0 timeout && nat_le (from + timeout) moment

-- what the stop's own row says
abbrev pub has_cause : ℕ → RunState → List Child → List Verdict → Stop → Bool
has_cause moment run children labels stops.PipelineTimeout = list_any is_undone labels && has_passed run.start run.spec.pipeline_ms moment
has_cause moment run children labels stops.TasksTimeout =
    list_any is_undone (take (length run.spec.tasks) labels) && has_passed run.start run.spec.tasks_ms moment
has_cause moment run children labels stops.FinallyTimeout =
    list_any is_undone (drop (length run.spec.tasks) labels) && has_passed run.finally_start run.spec.finally_ms moment
has_cause moment run children labels stops.Failure =
    is_empty run.stops && list_any (is_bad run.spec) children && list_any (is_bare run.scheduled) (range_with_len 0 (length run.spec.tasks))
has_cause moment run children labels stops.StoppedRunFinally = is_highest run.asked stops.StoppedRunFinally
has_cause moment run children labels stops.CancelledRunFinally = is_highest run.asked stops.CancelledRunFinally
has_cause moment run children labels stops.Cancelled = is_highest run.asked stops.Cancelled

-- of an open run: it was started, the stop is above all recorded, and has its cause
abbrev pub may_halt : ℕ → RunState → List Child → List Verdict → Stop → Bool
may_halt moment run children labels stop = is_some run.start && is_above run.stops stop && has_cause moment run children labels stop

-- schedules

-- nothing holds back the tasks of `tasks`
abbrev pub may_go_on : RunState → List Child → Bool
may_go_on run children =
    is_empty run.stops && list_all (λ (a : Asked). nat_eq (asked_level a) 0) run.asked && not (list_any (is_bad run.spec) children)

-- nothing holds back the tasks of `finally`
abbrev pub may_finish : RunState → Bool
may_finish run = list_all (λ (s : Stop). nat_lt (level_of s) 3) run.stops && list_all (λ (a : Asked). nat_lt (asked_level a) 3) run.asked

abbrev pub may_schedule : RunState → List Child → ℕ → Bool
may_schedule run children task = if is_final run.spec task then may_finish run else may_go_on run children
