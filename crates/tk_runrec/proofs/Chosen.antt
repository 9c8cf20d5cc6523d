-- The choice is the first of all acts that are justified for the worker.
use Rattle.std.proofs.Common.{◌≡◌, ◌≢◌, ℕ, zero, suc, ◌+◌, ◌<◌, ◌≤◌, List, [], ◌∷◌, length, map, take, drop, Option, Some, None, Bool, true, false, refl, sym, ◌∙◌, ap, subst, inl, inr, ◌⊎◌, arith, Contains}
use Rattle.std.specs.Prelude.{is_none, is_some, not, ◌&&◌, find, option_map, option_and_then, nat_eq, nat_lt, if◌then◌else◌}
use Rattle.std.specs.List.{list_any, list_all, range_with_len}
use Rattle.std.specs.Cmp.Lexicographic.{bytes_decides}
use Rattle.std.proofs.lemmas.Bool.{cases_Bool, cases_lt, and_from, eq-eqb}
use Rattle.std.proofs.lemmas.Option.{same_Some, slice_get_within}
use Rattle.std.proofs.lemmas.List.Elements.{Contains-append_left, Contains-push}
use Rattle.tk_types.specs.Lists.{is_empty}
use Rattle.tk_types.specs.declared.object.Asked.{Asked}
use Rattle.tk_types.specs.declared.run.Child.{Child}
use Rattle.tk_types.specs.declared.run.Facts.{Facts}
use Rattle.tk_types.specs.declared.run.Stop.{Stop}
use Rattle.tk_types.specs.declared.run.Stop.TheVariants as stops
use Rattle.tk_types.specs.declared.run.Start.TheVariants.{Ready}
use Rattle.tk_types.specs.declared.scenario.Kind.{Kind}
use Rattle.tk_types.specs.declared.scenario.Kind.TheVariants as kinds
use Rattle.tk_types.specs.declared.verdict.Binding.{Binding}
use Rattle.tk_types.specs.declared.verdict.Verdict.{Verdict}
use Rattle.tk_verdict.specs.Condition.{condition_of}
use Rattle.tk_types.specs.Behaviour.{level_of}
use Rattle.tk_verdict.specs.Gives.{label_of}
use Rattle.tk_verdict.specs.Labels.{labels_of, ready_bindings}
use Rattle.tk_verdict.specs.Progress.{AllDone}
use Rattle.tk_verdict.specs.Verdict.{is_done}
use Rattle.tk_journal.specs.declared.entry.Actor.TheVariants as actors
use Rattle.tk_journal.specs.declared.act.Act.{Act}
use Rattle.tk_journal.specs.declared.act.Act.TheVariants as acts
use Rattle.tk_journal.specs.declared.act.Closing.{Closing}
use Rattle.tk_journal.specs.declared.act.Closing.TheVariants as closings
use Rattle.tk_journal.specs.declared.act.Admission.TheVariants as admissions
use Rattle.tk_journal.specs.declared.entry.Entry.{Entry}
use Rattle.tk_journal.specs.declared.entry.Fronts.{Fronts}
use Rattle.tk_journal.specs.declared.object.RunState.{RunState}
use Rattle.tk_journal.specs.declared.object.TaskRunState.{TaskRunState}
use Rattle.tk_journal.specs.Lists.{IsThere}
use Rattle.tk_journal.specs.Effects.{task_count, is_final, bindings_for, writes, run_made, name_of}
use Rattle.tk_journal.specs.History.{View, view_at, past, run_of, run_written, creates, names_of}
use Rattle.tk_journal.specs.Names.{child_name_of}
use Rattle.tk_journal.specs.Rows.{IsJustified}
use Rattle.tk_journal.specs.RunRows.{facts_in, outcome_in, HaltCause, IsOver, MaySchedule, AreChildrenClosed, CloseRunRow, HaltRow, StartRow, MakeTaskRunRow, ScheduleRow}
use Rattle.tk_journal.specs.Stops.{asked_level, IsReached}
use Rattle.tk_journal.specs.Choice.{place_of, stop_order, child_order, order_of, IsBefore, MayChoose, IsChoice, HasNoChoice}
use Rattle.tk_journal.proofs.Basics.{writes_name}
use Rattle.tk_journal.proofs.Past.{state_cases}
use Rattle.tk_journal.proofs.Possible.{count_has}
use Rattle.tk_journal.proofs.Search.{task_run_named}
use Rattle.tk_journal.proofs.TaskRunLasts.{part_of}
use Rattle.tk_journal.proofs.Labels as rules
use Rattle.tk_cache.specs.Children as seen
use Rattle.tk_choice.specs.First.{first_act}
use Rattle.tk_choice.proofs.First.{first_is, none_first, IsFirst, first_of, none_of}
use Rattle.tk_runrec.specs.declared.found.Found.{Found}
use Rattle.tk_runrec.specs.Labels.{is_undone, first_ready}
use Rattle.tk_runrec.specs.Found.{first_found}
use Rattle.tk_labels.specs.Kept.{is_bad}
use Rattle.tk_runrec.specs.Tests.{starts_ready, is_closed, is_recorded, is_reached, is_above, has_cause, has_passed, may_halt, may_schedule, may_go_on, may_finish, is_bare}
use Rattle.tk_runrec.specs.Choice.{halting_order, halt, start, found_at, unmarked, cancel, make, missing, make_first, close, closed_with, all_closed, is_over, schedule, schedule_task, table, act_of, act_at, choice, child_name, seen_children}
use Rattle.tk_runrec.specs.Fit.{IsFit, AreFit}
use Rattle.tk_runrec.specs.Laws.{ChoiceIsFirst, NoneIsLeft}
use Rattle.tk_runrec.proofs.Meaning as says
use Rattle.tk_runrec.proofs.Listed as listed
use Rattle.tk_runrec.proofs.Labelled as labelled
use Rattle.tk_runrec.proofs.Earliest as earliest
use Rattle.tk_runrec.proofs.Justified.{made_for, unmarked_is, may_choice}
use Rattle.tk_runrec.proofs.Fit.{fit_at}

-- orders

head_before : (a b : ℕ) (t : List ℕ) → a ≤ b → IsBefore (a ∷ []) (b ∷ t)
head_before a b t le = elim (cases_lt a b) [
  | inl less ↦ inl less
  | inr more ↦ inr (omega (arith, le, more), tt)
]

pair_before : (a t i b u j : ℕ) → a ≡ b → IsBefore (t ∷ i ∷ []) (u ∷ j ∷ []) → IsBefore (a ∷ t ∷ i ∷ []) (b ∷ u ∷ j ∷ [])
pair_before a t i b u j same before = inr (same, before)

order_low : (stop : Stop) → 1 ≤ stop_order stop
order_low stops.StoppedRunFinally = omega arith
order_low stops.CancelledRunFinally = omega arith
order_low stops.Cancelled = omega arith
order_low stops.PipelineTimeout = omega arith
order_low stops.TasksTimeout = omega arith
order_low stops.FinallyTimeout = omega arith
order_low stops.Failure = omega arith

order_high : (stop : Stop) → stop_order stop ≤ 5
order_high stops.StoppedRunFinally = omega arith
order_high stops.CancelledRunFinally = omega arith
order_high stops.Cancelled = omega arith
order_high stops.PipelineTimeout = omega arith
order_high stops.TasksTimeout = omega arith
order_high stops.FinallyTimeout = omega arith
order_high stops.Failure = omega arith

in_order : (stop : Stop) → Contains halting_order stop
in_order stops.Cancelled = (0, omega arith, refl)
in_order stops.CancelledRunFinally = (1, omega arith, refl)
in_order stops.StoppedRunFinally = (2, omega arith, refl)
in_order stops.PipelineTimeout = (3, omega arith, refl)
in_order stops.TasksTimeout = (4, omega arith, refl)
in_order stops.FinallyTimeout = (5, omega arith, refl)
in_order stops.Failure = (6, omega arith, refl)

child_place : (view : View) (order : ℕ) (o : Option TaskRunState) (task_run : TaskRunState) (run : List ℕ) → o ≡ Some task_run → task_run.run ≡ Some run → child_order view order o ≡ place_of run view.runs ∷ order ∷ task_run.task ∷ task_run.index ∷ []
child_place view order o task_run run is child = ap (child_order view order) is ∙ (rw child refl)

made_for_it : (name : List ℕ) (task_run : TaskRunState) → task_run.run ≡ Some name → seen.is_made_for name (Some task_run) ≡ true
made_for_it name task_run child = ap (seen.is_name name) child ∙ (bytes_decides name name).1 refl

is_unmarked : (name : List ℕ) (run : RunState) (task_run : TaskRunState) → task_run.closed ≡ None → task_run.marked ≡ false → IsReached run task_run.task → unmarked name run (Some task_run) ≡ Some (found_at name task_run)
is_unmarked name run task_run unclosed no_mark reached =
    let hit : (is_none task_run.closed && not task_run.marked && is_reached run task_run.task) ≡ true =
    and_from (is_none task_run.closed && not task_run.marked) (is_reached run task_run.task) (and_from (is_none task_run.closed) (not task_run.marked) (says.is_none_of task_run.closed unclosed) (ap not no_mark)) (says.is_reached_of run task_run.task reached) in
    rw hit refl

-- each TaskRun and each run that is seen is listed
pub record AreListed (view : View) : Type 0 where
  pub runs : (name : List ℕ) (run : RunState) → view.run name ≡ Some run → Contains view.runs name
  pub task_runs : (name : List ℕ) (task_run : TaskRunState) → view.task_run name ≡ Some task_run → Contains view.task_runs name

module _ (view : View) (number moment : ℕ) where
  -- an act that is justified of a run
  data Row (name : List ℕ) (run : RunState) : Type 0 where
    closes : (closing_ : Closing) → CloseRunRow view closing_ run → Row name run
    halts : (stop : Stop) → HaltRow view moment stop run → Row name run
    starts : StartRow run → Row name run
    cancels : (child : List ℕ) (task_run : TaskRunState) → view.task_run child ≡ Some task_run → task_run.run ≡ Some name → task_run.closed ≡ None → task_run.marked ≡ false → IsReached run task_run.task → Row name run
    makes : (child : List ℕ) (task index : ℕ) (mark : Bool) → MakeTaskRunRow view child task index mark run → Row name run
    schedules : (task : ℕ) (bindings : List Binding) → ScheduleRow view task bindings run → Row name run

  abbrev tail_of : {name : List ℕ} {run : RunState} → Row name run → List ℕ
  tail_of (closes closing_ row) = 0 ∷ []
  tail_of (halts stop row) = stop_order stop ∷ []
  tail_of (starts row) = 6 ∷ []
  tail_of (cancels child task_run is child_of unclosed no_mark reached) = 7 ∷ task_run.task ∷ task_run.index ∷ []
  tail_of (makes child task index mark row) = 8 ∷ task ∷ index ∷ []
  tail_of (schedules task bindings row) = 9 ∷ task ∷ []

  record IsOf (act : Act) : Type 0 where
    name : List ℕ
    run : RunState
    is : view.run name ≡ Some run
    row : Row name run
    order : order_of view act ≡ place_of name view.runs ∷ tail_of row

  of : (act : Act) → MayChoose act → IsJustified view (actors.Runs number) moment act → IsOf act
  of (acts.Admit name spec pending asked root) mine justified = absurd mine
  of (acts.Ask name status) mine justified = absurd mine
  of (acts.Start name) mine justified = record { name = name; run = justified.1.it; is = justified.1.is; row = starts justified.1.has; order = refl }
  of (acts.Schedule name task bindings) mine justified = record { name = name; run = justified.1.it; is = justified.1.is; row = schedules task bindings justified.1.has; order = refl }
  of (acts.MakeTaskRun name run task index mark) mine justified = record { name = run; run = justified.1.it; is = justified.1.is; row = makes name task index mark justified.1.has; order = refl }
  of (acts.Halt name stop) mine justified = record { name = name; run = justified.1.it; is = justified.1.is; row = halts stop justified.1.has; order = refl }
  of (acts.CancelTaskRun name) mine justified =
      let row = justified.1.has in
      record {
        name = row.run_name;
        run = row.reached.it;
        is = row.reached.is;
        row = cancels name justified.1.it justified.1.is row.child row.not_closed row.not_marked row.reached.has;
        order = child_place view 7 (view.task_run name) justified.1.it row.run_name justified.1.is row.child;
      }
  of (acts.OpenAttempt name) mine justified = absurd justified.0
  of (acts.MakePod name task_run attempt plan mark) mine justified = absurd justified.0
  of (acts.ClaimPod name) mine justified = let by = justified.has.by in absurd (cc (by))
  of (acts.EndPod name exits outcome) mine justified = let by = justified.has.by in absurd (cc (by))
  of (acts.Close name (closings.Attempt outcome)) mine justified = absurd justified.0
  of (acts.Close name closings.TaskRun) mine justified = absurd justified.0
  of (acts.Close name (closings.Run condition skipped results)) mine justified = record { name = name; run = justified.1.it; is = justified.1.is; row = closes (closings.Run condition skipped results) justified.1.has; order = refl }

  -- nothing that is justified of the run comes before, and nothing at all is where nothing is found
  abbrev NoneBefore : List ℕ → RunState → Option Act → Type 0
  NoneBefore name run None = Row name run → ⊥
  NoneBefore name run (Some act) = (tail : List ℕ) × (order_of view act ≡ place_of name view.runs ∷ tail) × ((row : Row name run) → IsBefore tail (tail_of row))

  module _ (names : AreListed view) (name : List ℕ) (run : RunState) (fit : IsFit view run) where
    abbrev facts : Facts
    facts = facts_in view run

    abbrev labels : List Verdict
    labels = labels_of facts

    abbrev children : List Child
    children = seen_children view run

    -- Close

    all_done : AllDone facts → list_all is_done labels ≡ true
    all_done done = subst (λ (l : List Verdict). list_all is_done l ≡ true) (sym (labelled.labels_are facts)) (done_from 0 (task_count run.spec) (λ task from below. done task (omega (arith, below))))
      where
        done_from : (first n : ℕ) → ((task : ℕ) → first ≤ task → task < first + n → is_done (label_of facts task) ≡ true) → list_all is_done (map (label_of facts) (range_with_len first n)) ≡ true
        done_from first zero each = refl
        done_from first (suc n) each =
            and_from (is_done (label_of facts first)) (list_all is_done (map (label_of facts) (range_with_len (first + 1) n))) (each first (omega arith) (omega arith))
            (done_from (first + 1) n (λ task from below. each task (omega (arith, from)) (omega (arith, below))))

    closed_of : AreChildrenClosed view.task_run run → all_closed view run ≡ true
    closed_of closed = says.every_from (λ (child : Child). is_closed (view.task_run (child_name run child))) children (λ child has.
        let it = listed.listed (outcome_in view run) run.scheduled child has in
        ap (λ (c : Child). is_closed (view.task_run (child_name run c))) it.is ∙ says.is_closed_of (view.task_run (child_name_of run.spec it.part.task it.index)) (closed it.part it.has it.index it.within))

    is_over_of : (run.spec.start ≢ Ready) ⊎ IsOver view run → is_over view run labels ≡ true
    is_over_of (inl unstartable) = elim (cases_Bool (starts_ready run.spec.start)) [
      | inl ready ↦ absurd (unstartable (says.startable_is run.spec.start ready))
      | inr unready ↦ says.or_left (not (starts_ready run.spec.start)) _ (ap not unready)
    ]
    is_over_of (inr over) =
        says.or_right (not (starts_ready run.spec.start)) _
        (and_from (is_some run.start && list_all is_done labels && list_all (is_recorded run.stops) run.asked) _
        (and_from (is_some run.start && list_all is_done labels) (list_all (is_recorded run.stops) run.asked)
        (and_from (is_some run.start) (list_all is_done labels) (says.is_some_of run.start over.started) (all_done over.tasks))
        (says.every_from (is_recorded run.stops) run.asked (λ status has. says.is_recorded_of run.stops status (over.asked status has))))
        (closed_of over.children))

    abbrev NoClose : Type 0
    NoClose = (closing_ : Closing) → CloseRunRow view closing_ run → ⊥

    no_close : close view name run labels ≡ None → NoClose
    no_close none closing_ row =
        let hit : (not run.pending && is_over view run labels) ≡ true = and_from (not run.pending) (is_over view run labels) (ap not row.not_pending) (is_over_of row.over) in
        let now = listed.map_none (closed_with name facts) (condition_of facts labels) (listed.when_none (not run.pending && is_over view run labels) (option_map (closed_with name facts) (condition_of facts labels)) hit none) in
        let decided = row.is_closing.decided in
        absurd (cc (now, decided))

    -- Halt

    undone_as : (xs ys : List Verdict) → xs ≡ ys → list_any is_undone ys ≡ true → list_any is_undone xs ≡ true
    undone_as xs ys same is = subst (λ (l : List Verdict). list_any is_undone l ≡ true) (sym same) is

    is_cause_of : (stop : Stop) → HaltCause view moment run stop → has_cause moment run children labels stop ≡ true
    is_cause_of stops.StoppedRunFinally cause = says.is_highest_of run stops.StoppedRunFinally cause
    is_cause_of stops.CancelledRunFinally cause = says.is_highest_of run stops.CancelledRunFinally cause
    is_cause_of stops.Cancelled cause = says.is_highest_of run stops.Cancelled cause
    is_cause_of stops.PipelineTimeout cause =
        let undone = cause.0 in
        and_from (list_any is_undone labels) (has_passed run.start run.spec.pipeline_ms moment)
        (undone_as labels _ (labelled.labels_are facts) (says.is_undone_from (label_of facts) 0 (task_count run.spec) undone.0 undone.1 undone.2 undone.3))
        (says.is_passed_of run.start run.spec.pipeline_ms moment cause.1)
    is_cause_of stops.TasksTimeout cause =
        let undone = cause.0 in
        and_from (list_any is_undone (take (length run.spec.tasks) labels)) (has_passed run.start run.spec.tasks_ms moment)
        (undone_as (take (length run.spec.tasks) labels) _ (labelled.first_part facts) (says.is_undone_from (label_of facts) 0 (length run.spec.tasks) undone.0 undone.1 undone.2 undone.3))
        (says.is_passed_of run.start run.spec.tasks_ms moment cause.1)
    is_cause_of stops.FinallyTimeout cause =
        let undone = cause.0 in
        and_from (list_any is_undone (drop (length run.spec.tasks) labels)) (has_passed run.finally_start run.spec.finally_ms moment)
        (undone_as (drop (length run.spec.tasks) labels) _ (labelled.last_part facts) (says.is_undone_from (label_of facts) (length run.spec.tasks) (length run.spec.finally) undone.0 undone.1 undone.2 undone.3))
        (says.is_passed_of run.finally_start run.spec.finally_ms moment cause.1)
    is_cause_of stops.Failure cause =
        let bare = cause.2 in
        let below = bare.1 in
        and_from (is_empty run.stops && list_any (is_bad run.spec) children) (list_any (is_bare run.scheduled) (range_with_len 0 (length run.spec.tasks)))
        (and_from (is_empty run.stops) (list_any (is_bad run.spec) children) (says.is_empty_of run.stops cause.0) (listed.is_bad_of run.spec (outcome_in view run) run.scheduled cause.1))
        (says.any_from (is_bare run.scheduled) (range_with_len 0 (length run.spec.tasks)) bare.0 (count_has 0 (length run.spec.tasks) bare.0 (omega arith) (omega (arith, below))) (says.is_empty_of (bindings_for bare.0 run.scheduled) bare.2))

    may_of : (stop : Stop) → HaltRow view moment stop run → may_halt moment run children labels stop ≡ true
    may_of stop row =
        and_from (is_some run.start && is_above run.stops stop) (has_cause moment run children labels stop)
        (and_from (is_some run.start) (is_above run.stops stop) (says.is_some_of run.start row.started) (says.is_above_of run.stops stop row.above))
        (is_cause_of stop row.cause)

    abbrev NoHalt : Type 0
    NoHalt = (stop : Stop) → HaltRow view moment stop run → ⊥

    no_halt : halt moment name run children labels ≡ None → NoHalt
    no_halt none stop row =
        let nothing = listed.map_none (λ (s : Stop). acts.Halt name s) (find (may_halt moment run children labels) halting_order) none in
        says.true_and_false (may_halt moment run children labels stop) (may_of stop row) (listed.find_none (may_halt moment run children labels) halting_order stop nothing (in_order stop))

    -- Start

    abbrev NoStart : Type 0
    NoStart = StartRow run → ⊥

    no_start : start name run ≡ None → NoStart
    no_start none row =
        let hit : (starts_ready run.spec.start && not run.pending && is_none run.start) ≡ true =
        and_from (starts_ready run.spec.start && not run.pending) (is_none run.start) (and_from (starts_ready run.spec.start) (not run.pending) (says.is_startable_of run.spec.start row.startable) (ap not row.not_pending)) (says.is_none_of run.start row.not_started) in
        let now : Some (acts.Start name) ≡ None = rw hit at none in
        absurd (cc (now))

    -- CancelTaskRun

    abbrev finds : List ℕ → Option Found
    finds child = unmarked child run (view.task_run child)

    finds_of : (child : List ℕ) (task_run : TaskRunState) → view.task_run child ≡ Some task_run → task_run.closed ≡ None → task_run.marked ≡ false → IsReached run task_run.task → finds child ≡ Some (found_at child task_run)
    finds_of child task_run is unclosed no_mark reached = ap (unmarked child run) is ∙ is_unmarked child run task_run unclosed no_mark reached

    among : (child : List ℕ) (task_run : TaskRunState) → view.task_run child ≡ Some task_run → task_run.run ≡ Some name → Contains (seen.children_of view name) child
    among child task_run is child_of = listed.is_filtered (λ (n : List ℕ). seen.is_made_for name (view.task_run n)) view.task_runs child (names.task_runs child task_run is) (ap (seen.is_made_for name) is ∙ made_for_it name task_run child_of)

    abbrev NoCancel : Type 0
    NoCancel = (child : List ℕ) (task_run : TaskRunState) → view.task_run child ≡ Some task_run → task_run.run ≡ Some name → task_run.closed ≡ None → task_run.marked ≡ false → IsReached run task_run.task → ⊥

    no_cancel : cancel view name run ≡ None → NoCancel
    no_cancel none child task_run is child_of unclosed no_mark reached =
        earliest.found_none finds (seen.children_of view name) child _ (listed.map_none (λ (found : Found). acts.CancelTaskRun found.name) (first_found finds None (seen.children_of view name)) none) (among child task_run is child_of) (finds_of child task_run is unclosed no_mark reached)

    -- MakeTaskRun

    made_of : (child : List ℕ) (task index : ℕ) (mark : Bool) → MakeTaskRunRow view child task index mark run → (c : Child) × Contains children c × (missing view run c ≡ Some record { task = task; index = index; name = child_name_of run.spec task index })
    made_of child task index mark row =
        let part = part_of run.scheduled task index row.child.0 row.child.1 in
        let within = slice_get_within part.0.bindings index row.child.0 part.3 in
        let absent : view.task_run (child_name_of run.spec task index) ≡ None = subst (λ (n : List ℕ). view.task_run n ≡ None) row.named row.absent in (
          record { task = task; index = index; outcome = outcome_in view run task index },
          subst (λ (t : ℕ). Contains children record { task = t; index = index; outcome = outcome_in view run t index }) part.2 (listed.is_listed (outcome_in view run) run.scheduled part.0 index part.1 within),
          listed.when_true (is_none (view.task_run (child_name_of run.spec task index))) (Some record { task = task; index = index; name = child_name_of run.spec task index }) (says.is_none_of (view.task_run (child_name_of run.spec task index)) absent),
        )

    abbrev NoMake : Type 0
    NoMake = (child : List ℕ) (task index : ℕ) (mark : Bool) → MakeTaskRunRow view child task index mark run → ⊥

    no_make : make_first view name run ≡ None → NoMake
    no_make none child task index mark row =
        let it = made_of child task index mark row in
        earliest.found_none (missing view run) children it.0 _ (listed.map_none (make name run) (first_found (missing view run) None children) none) it.1 it.2

    -- Schedule

    may_so : (final : Bool) → MaySchedule final view run → (if final then may_finish run else may_go_on run children) ≡ true
    may_so true may =
        and_from (list_all (λ (s : Stop). nat_lt (level_of s) 3) run.stops) (list_all (λ (a : Asked). nat_lt (asked_level a) 3) run.asked)
        (says.is_all (λ (s : Stop). nat_lt (level_of s) 3) (λ (s : Stop). level_of s < 3) (λ s less. says.is_lt (level_of s) 3 less) run.stops may.0)
        (says.is_all (λ (a : Asked). nat_lt (asked_level a) 3) (λ (a : Asked). asked_level a < 3) (λ a less. says.is_lt (asked_level a) 3 less) run.asked may.1)
    may_so false may =
        and_from (is_empty run.stops && list_all (λ (a : Asked). nat_eq (asked_level a) 0) run.asked) (not (list_any (is_bad run.spec) children))
        (and_from (is_empty run.stops) (list_all (λ (a : Asked). nat_eq (asked_level a) 0) run.asked) (says.is_empty_of run.stops may.0) (says.is_all (λ (a : Asked). nat_eq (asked_level a) 0) (λ (a : Asked). asked_level a ≡ 0) (λ a none. eq-eqb (asked_level a) 0 none) run.asked may.1))
        (not_any (list_any (is_bad run.spec) children) (λ hit. may.2 (listed.bad_is run.spec (outcome_in view run) run.scheduled hit)))
      where
        not_any : (b : Bool) → (b ≡ true → ⊥) → not b ≡ true
        not_any true never = absurd (never refl)
        not_any false never = refl

    ready_of : (task : ℕ) (bindings : List Binding) → ScheduleRow view task bindings run → (found : ℕ) × (first_ready (may_schedule run children) 0 labels ≡ Some found) × (found ≤ task)
    ready_of task bindings row =
        let given = rules.ready_given facts task bindings fit.well_formed row.own_bindings in
        let exists = rules.gives_place facts task bindings given.1 in
        let least = earliest.ready_least (label_of facts) (may_schedule run children) 0 (task_count run.spec) task (omega arith) (omega (arith, exists)) given.0 (may_so (is_final run.spec task) row.may) in
        (least.0, subst (λ (l : List Verdict). first_ready (may_schedule run children) 0 l ≡ Some least.0) (sym (labelled.labels_are facts)) least.1, least.2)

    abbrev NoSchedule : Type 0
    NoSchedule = (task : ℕ) (bindings : List Binding) → ScheduleRow view task bindings run → ⊥

    no_schedule : schedule view name run labels ≡ None → NoSchedule
    no_schedule none task bindings row =
        let hit = says.is_some_of run.start row.started in
        let it = ready_of task bindings row in
        let ready = labelled.ready_found facts (may_schedule run children) it.0 it.1 in
        let given = rules.ready_gives facts it.0 fit.well_formed ready.ready in
        let left = listed.when_none (is_some run.start) (option_and_then (schedule_task name facts labels) (first_ready (may_schedule run children) 0 labels)) hit none in
        let nothing : schedule_task name facts labels it.0 ≡ None = ap (option_and_then (schedule_task name facts labels)) (sym it.1) ∙ left in
        let lost = listed.map_none (acts.Schedule name it.0) (ready_bindings facts labels it.0) nothing in
        let found = given.1 in
        absurd (cc (lost, found))

    -- what comes after

    abbrev rank_of : Row name run → ℕ
    rank_of (closes closing_ row) = 0
    rank_of (halts stop row) = stop_order stop
    rank_of (starts row) = 6
    rank_of (cancels child task_run is child_of unclosed no_mark reached) = 7
    rank_of (makes child task index mark row) = 8
    rank_of (schedules task bindings row) = 9

    at_most : (row : Row name run) (a : ℕ) → a ≤ rank_of row → IsBefore (a ∷ []) (tail_of row)
    at_most (closes closing_ row) a le = head_before a 0 [] le
    at_most (halts stop row) a le = head_before a (stop_order stop) [] le
    at_most (starts row) a le = head_before a 6 [] le
    at_most (cancels child task_run is child_of unclosed no_mark reached) a le = head_before a 7 (task_run.task ∷ task_run.index ∷ []) le
    at_most (makes child task index mark row) a le = head_before a 8 (task ∷ index ∷ []) le
    at_most (schedules task bindings row) a le = head_before a 9 (task ∷ []) le

    abbrev NoneEarlier : Act → Type 0
    NoneEarlier act = NoneBefore name run (Some act)

    close_first : (act : Act) → close view name run labels ≡ Some act → NoneEarlier act
    close_first act is =
        let both = listed.when_is (not run.pending && is_over view run labels) (option_map (closed_with name facts) (condition_of facts labels)) act is in
        let found = listed.map_is (closed_with name facts) (condition_of facts labels) act both.1 in
        subst NoneEarlier found.2 (0 ∷ [], refl, λ row. at_most row 0 (omega arith))

    halt_first : (act : Act) → NoClose → halt moment name run children labels ≡ Some act → NoneEarlier act
    halt_first act none_close is =
        let found = listed.map_is (λ (stop : Stop). acts.Halt name stop) (find (may_halt moment run children labels) halting_order) act is in
        let stop = found.0 in
        let high = order_high stop in
        subst NoneEarlier found.2 (stop_order stop ∷ [], refl, after stop found.1 high)
      where
        after : (stop : Stop) → find (may_halt moment run children labels) halting_order ≡ Some stop → stop_order stop ≤ 5 → (row : Row name run) → IsBefore (stop_order stop ∷ []) (tail_of row)
        after stop at high (closes closing_ row) = absurd (none_close closing_ row)
        after stop at high (halts other row) = head_before (stop_order stop) (stop_order other) [] (earliest.find_least (may_halt moment run children labels) stop_order halting_order stop other refl at (in_order other) (may_of other row))
        after stop at high (starts row) = head_before (stop_order stop) 6 [] (omega (arith, high))
        after stop at high (cancels child task_run is child_of unclosed no_mark reached) = head_before (stop_order stop) 7 (task_run.task ∷ task_run.index ∷ []) (omega (arith, high))
        after stop at high (makes child task index mark row) = head_before (stop_order stop) 8 (task ∷ index ∷ []) (omega (arith, high))
        after stop at high (schedules task bindings row) = head_before (stop_order stop) 9 (task ∷ []) (omega (arith, high))

    start_first : (act : Act) → NoClose → NoHalt → start name run ≡ Some act → NoneEarlier act
    start_first act none_close none_halt is = elim (cases_Bool (starts_ready run.spec.start && not run.pending && is_none run.start)) [
      | inr miss ↦ let now : None ≡ Some act = rw miss at is in absurd (cc (now))
      | inl hit ↦
          let now : Some (acts.Start name) ≡ Some act = rw hit at is in
          subst NoneEarlier (same_Some (acts.Start name) act now) (6 ∷ [], refl, after)
    ]
      where
        after : (row : Row name run) → IsBefore (6 ∷ []) (tail_of row)
        after (closes closing_ row) = absurd (none_close closing_ row)
        after (halts other row) = absurd (none_halt other row)
        after (starts row) = head_before 6 6 [] (omega arith)
        after (cancels child task_run is child_of unclosed no_mark reached) = head_before 6 7 (task_run.task ∷ task_run.index ∷ []) (omega arith)
        after (makes child task index mark row) = head_before 6 8 (task ∷ index ∷ []) (omega arith)
        after (schedules task bindings row) = head_before 6 9 (task ∷ []) (omega arith)

    cancel_first : (act : Act) → NoClose → NoHalt → NoStart → cancel view name run ≡ Some act → NoneEarlier act
    cancel_first act none_close none_halt none_start is =
        let found = listed.map_is (λ (f : Found). acts.CancelTaskRun f.name) (first_found finds None (seen.children_of view name)) act is in
        subst NoneEarlier found.2 (7 ∷ found.0.task ∷ found.0.index ∷ [], order found.0 found.1, after found.0 found.1)
      where
        order : (f : Found) → first_found finds None (seen.children_of view name) ≡ Some f → child_order view 7 (view.task_run f.name) ≡ place_of name view.runs ∷ 7 ∷ f.task ∷ f.index ∷ []
        order f at = elim (listed.found_is finds None (seen.children_of view name) f at) [
          | inl none ↦ absurd (cc (none))
          | inr one ↦
              let child = listed.filter_is (λ (n : List ℕ). seen.is_made_for name (view.task_run n)) view.task_runs one.0 one.1 in
              let made = made_for name (view.task_run one.0) child.1 in
              let it = unmarked_is one.0 run made.task_run f (ap (unmarked one.0 run) (sym made.is) ∙ one.2) in
              subst (λ (g : Found). child_order view 7 (view.task_run g.name) ≡ place_of name view.runs ∷ 7 ∷ g.task ∷ g.index ∷ []) (sym it.same) (child_place view 7 (view.task_run one.0) made.task_run name made.is made.child)
        ]

        after : (f : Found) → first_found finds None (seen.children_of view name) ≡ Some f → (row : Row name run) → IsBefore (7 ∷ f.task ∷ f.index ∷ []) (tail_of row)
        after f at (closes closing_ row) = absurd (none_close closing_ row)
        after f at (halts other row) = absurd (none_halt other row)
        after f at (starts row) = absurd (none_start row)
        after f at (cancels child task_run is child_of unclosed no_mark reached) = inr (refl, earliest.least_found finds None (seen.children_of view name) f child _ at (among child task_run is child_of) (finds_of child task_run is unclosed no_mark reached))
        after f at (makes child task index mark row) = inl (omega arith)
        after f at (schedules task bindings row) = inl (omega arith)

    make_before : (act : Act) → NoClose → NoHalt → NoStart → NoCancel → make_first view name run ≡ Some act → NoneEarlier act
    make_before act none_close none_halt none_start none_cancel is =
        let found = listed.map_is (make name run) (first_found (missing view run) None children) act is in
        subst NoneEarlier found.2 (8 ∷ found.0.task ∷ found.0.index ∷ [], refl, after found.0 found.1)
      where
        after : (f : Found) → first_found (missing view run) None children ≡ Some f → (row : Row name run) → IsBefore (8 ∷ f.task ∷ f.index ∷ []) (tail_of row)
        after f at (closes closing_ row) = absurd (none_close closing_ row)
        after f at (halts other row) = absurd (none_halt other row)
        after f at (starts row) = absurd (none_start row)
        after f at (cancels child task_run is child_of unclosed no_mark reached) = absurd (none_cancel child task_run is child_of unclosed no_mark reached)
        after f at (makes child task index mark row) =
            let it = made_of child task index mark row in
            inr (refl, earliest.least_found (missing view run) None children f it.0 _ at it.1 it.2)
        after f at (schedules task bindings row) = inl (omega arith)

    schedule_before : (act : Act) → NoClose → NoHalt → NoStart → NoCancel → NoMake → schedule view name run labels ≡ Some act → NoneEarlier act
    schedule_before act none_close none_halt none_start none_cancel none_make is =
        let both = listed.when_is (is_some run.start) (option_and_then (schedule_task name facts labels) (first_ready (may_schedule run children) 0 labels)) act is in
        let found = listed.then_is (schedule_task name facts labels) (first_ready (may_schedule run children) 0 labels) act both.1 in
        let given = listed.map_is (acts.Schedule name found.0) (ready_bindings facts labels found.0) act found.2 in
        subst NoneEarlier given.2 (9 ∷ found.0 ∷ [], refl, after found.0 found.1)
      where
        after : (t : ℕ) → first_ready (may_schedule run children) 0 labels ≡ Some t → (row : Row name run) → IsBefore (9 ∷ t ∷ []) (tail_of row)
        after t at (closes closing_ row) = absurd (none_close closing_ row)
        after t at (halts other row) = absurd (none_halt other row)
        after t at (starts row) = absurd (none_start row)
        after t at (cancels child task_run is child_of unclosed no_mark reached) = absurd (none_cancel child task_run is child_of unclosed no_mark reached)
        after t at (makes child task index mark row) = absurd (none_make child task index mark row)
        after t at (schedules task bindings row) =
            let it = ready_of task bindings row in
            let same = same_Some it.0 t (sym it.1 ∙ at) in
            let le = it.2 in
            inr (refl, head_before t task [] (omega (arith, same, le)))

    none_row : NoClose → NoHalt → NoStart → NoCancel → NoMake → NoSchedule → Row name run → ⊥
    none_row none_close none_halt none_start none_cancel none_make none_schedule (closes closing_ row) = none_close closing_ row
    none_row none_close none_halt none_start none_cancel none_make none_schedule (halts other row) = none_halt other row
    none_row none_close none_halt none_start none_cancel none_make none_schedule (starts row) = none_start row
    none_row none_close none_halt none_start none_cancel none_make none_schedule (cancels child task_run is child_of unclosed no_mark reached) = none_cancel child task_run is child_of unclosed no_mark reached
    none_row none_close none_halt none_start none_cancel none_make none_schedule (makes child task index mark row) = none_make child task index mark row
    none_row none_close none_halt none_start none_cancel none_make none_schedule (schedules task bindings row) = none_schedule task bindings row

    -- the table

    by_table : (o : Option Act) → first_act (table view moment name run labels) ≡ o → NoneBefore name run o
    by_table None is =
        let a = none_first (close view name run labels) _ is in
        let b = none_first (halt moment name run children labels) _ a.1 in
        let c = none_first (start name run) _ b.1 in
        let d = none_first (cancel view name run) _ c.1 in
        let e = none_first (make_first view name run) _ d.1 in
        let f = none_first (schedule view name run labels) [] e.1 in
        none_row (no_close a.0) (no_halt b.0) (no_start c.0) (no_cancel d.0) (no_make e.0) (no_schedule f.0)
    by_table (Some act) is = elim (first_is (close view name run labels) _ act is) [
      | inl closing_now ↦ close_first act closing_now
      | inr after_close ↦ elim (first_is (halt moment name run children labels) _ act after_close.1) [
        | inl halting ↦ halt_first act (no_close after_close.0) halting
        | inr after_halt ↦ elim (first_is (start name run) _ act after_halt.1) [
          | inl starting ↦ start_first act (no_close after_close.0) (no_halt after_halt.0) starting
          | inr after_start ↦ elim (first_is (cancel view name run) _ act after_start.1) [
            | inl cancelling ↦ cancel_first act (no_close after_close.0) (no_halt after_halt.0) (no_start after_start.0) cancelling
            | inr after_cancel ↦ elim (first_is (make_first view name run) _ act after_cancel.1) [
              | inl making ↦ make_before act (no_close after_close.0) (no_halt after_halt.0) (no_start after_start.0) (no_cancel after_cancel.0) making
              | inr after_make ↦ elim (first_is (schedule view name run labels) [] act after_make.1) [
                | inl scheduling ↦ schedule_before act (no_close after_close.0) (no_halt after_halt.0) (no_start after_start.0) (no_cancel after_cancel.0) (no_make after_make.0) scheduling
                | inr nothing ↦ let none = nothing.1 in absurd (cc (none))
              ]
            ]
          ]
        ]
      ]
    ]

    -- a closed run

    closed_no : IsThere run.closed → run.closed ≡ None → ⊥
    closed_no closed unclosed = let there = closed.1 in absurd (cc (there, unclosed))

    by_closed : IsThere run.closed → (o : Option Act) → cancel view name run ≡ o → NoneBefore name run o
    by_closed closed None is = none_row (λ closing_ row. closed_no closed row.not_closed) (λ stop row. closed_no closed row.not_closed) (λ row. closed_no closed row.not_closed) (no_cancel is) (λ child task index mark row. closed_no closed row.not_closed) (λ task bindings row. closed_no closed row.not_closed)
    by_closed closed (Some act) is = cancel_first act (λ closing_ row. closed_no closed row.not_closed) (λ stop row. closed_no closed row.not_closed) (λ row. closed_no closed row.not_closed) is

    least_of : (o : Option Act) → act_of view moment name run ≡ o → NoneBefore name run o
    least_of o is = elim (cases_Bool (is_some run.closed)) [
      | inl closed ↦ by_closed (says.some_is run.closed closed) o (listed.if_true (is_some run.closed) (cancel view name run) (first_act (table view moment name run labels)) o closed is)
      | inr unclosed ↦ by_table o (listed.if_false (is_some run.closed) (cancel view name run) (first_act (table view moment name run labels)) o unclosed is)
    ]

  abbrev gives : List ℕ → Option Act
  gives name = act_at view moment name (view.run name)

  module _ (names : AreListed view) (fit : AreFit view) where
    least_at : (name : List ℕ) (run : RunState) (o : Option Act) → view.run name ≡ Some run → gives name ≡ o → NoneBefore name run o
    least_at name run o there given = least_of names name run (fit name run there) o (ap (act_at view moment name) (sym there) ∙ given)

    none_at : (act : Act) (it : IsOf act) → gives it.name ≡ None → ⊥
    none_at act it none = least_at it.name it.run None it.is none it.row

    pub none_left : choice view moment ≡ None → HasNoChoice view (actors.Runs number) moment
    none_left none act mine justified =
        let it = of act mine justified in
        none_at act it (none_of gives view.runs it.name none (names.runs it.name it.run it.is))

    before_same : (name : List ℕ) (act other : Act) (it : IsOf other) → it.name ≡ name → gives name ≡ Some act → IsBefore (order_of view act) (order_of view other)
    before_same name act other it same given =
        let least = least_at it.name it.run (Some act) it.is (ap gives same ∙ given) in
        subst (λ (o : List ℕ). IsBefore o (order_of view other)) (sym least.1) (subst (IsBefore (place_of it.name view.runs ∷ least.0)) (sym it.order) (inr (refl, least.2 it.row)))

    place_first : (name : List ℕ) (o : Option RunState) (act : Act) → view.run name ≡ o → act_at view moment name o ≡ Some act → (tail : List ℕ) × (order_of view act ≡ place_of name view.runs ∷ tail)
    place_first name None act there given = absurd (cc (given))
    place_first name (Some run) act there given =
        let least = least_of names name run (fit name run there) (Some act) given in
        (least.0, least.1)

    before_other : (act : Act) → IsFirst gives view.runs act → (other : Act) → IsOf other → IsBefore (order_of view act) (order_of view other)
    before_other act chosen other it = elim (chosen.later it.name) [
      | inr (inl same) ↦ before_same chosen.name act other it same chosen.given
      | inr (inr none) ↦ absurd (none_at other it none)
      | inl less ↦
          let mine = place_first chosen.name (view.run chosen.name) act refl chosen.given in
          subst (λ (o : List ℕ). IsBefore o (order_of view other)) (sym mine.1) (subst (IsBefore (place_of chosen.name view.runs ∷ mine.0)) (sym it.order) (inl less))
    ]

    chosen_may : (act : Act) → IsJustified view (actors.Runs number) moment act → MayChoose act
    chosen_may (acts.Admit name spec pending asked root) justified = absurd (cc (justified))
    chosen_may (acts.Ask name status) justified = let by = justified.0 in absurd (cc (by))
    chosen_may act justified = tt

    pub is_choice : (act : Act) → choice view moment ≡ Some act → IsChoice view (actors.Runs number) moment act
    is_choice act is =
        let may = may_choice view number moment fit act is in
        record {
          mine = chosen_may act may;
          justified = may;
          first = λ other mine justified. before_other act (first_of gives view.runs act is) other (of other mine justified);
        }

-- all objects of a history are listed

keep_name : (kind : Kind) (e : Entry) (older : List Entry) (name : List ℕ) → Contains (names_of kind older) name → Contains (names_of kind (e ∷ older)) name
keep_name kind e older name has = elim (cases_Bool (creates kind e.act)) [
  | inl hit ↦ rw hit (Contains-append_left (names_of kind older) (name_of e.act ∷ []) name has)
  | inr miss ↦ rw miss has
]

new_name : (kind : Kind) (e : Entry) (older : List Entry) (name : List ℕ) → creates kind e.act ≡ true → name_of e.act ≡ name → Contains (names_of kind (e ∷ older)) name
new_name kind e older name hit same = rw (hit, same) (Contains-push (names_of kind older) name)

run_made_creates : (act : Act) (run : RunState) → run_made act ≡ Some run → creates kinds.Runs act ≡ true
run_made_creates (acts.Admit name (admissions.Run spec) pending asked root) run is = refl
run_made_creates act run is = cc

run_named : (history : List Entry) (name : List ℕ) (run : RunState) → run_of history name ≡ Some run → Contains (names_of kinds.Runs history) name
run_named [] name run is = cc
run_named (e ∷ older) name run is =
    state_cases (writes kinds.Runs name) (λ (before : List Entry) d was. run_written d was) (λ (o : Option RunState). (r : RunState) → o ≡ Some r → Contains (names_of kinds.Runs (e ∷ older)) name) e older
    (λ miss r there. keep_name kinds.Runs e older name (run_named older name r there))
    (λ hit r there. by_before (run_of older name) (run_named older name) hit r there)
    run is
  where
    by_before : (o : Option RunState) → ((r : RunState) → o ≡ Some r → Contains (names_of kinds.Runs older) name) → writes kinds.Runs name e ≡ true → (r : RunState) → run_written e o ≡ Some r → Contains (names_of kinds.Runs (e ∷ older)) name
    by_before None earlier hit r there = new_name kinds.Runs e older name (run_made_creates e.act r there) (writes_name kinds.Runs name e hit)
    by_before (Some before) earlier hit r there = keep_name kinds.Runs e older name (earlier before refl)

listed_at : (fronts : Fronts) (history : List Entry) → AreListed (view_at fronts history)
listed_at fronts history = record {
  runs = λ name run is. run_named (past fronts.runs history) name run is;
  task_runs = λ name task_run is. task_run_named (past fronts.task_runs history) name task_run is;
}

pub choice_is_first : ChoiceIsFirst
choice_is_first history legal fronts number moment act is = is_choice (view_at fronts history) number moment (listed_at fronts history) (fit_at fronts history legal) act is

pub none_is_left : NoneIsLeft
none_is_left history legal fronts number moment none = none_left (view_at fronts history) number moment (listed_at fronts history) (fit_at fronts history legal) none
