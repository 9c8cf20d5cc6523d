-- What a run gives rise to is justified for the worker that sees it.
use Rattle.std.proofs.Common.{◌≡◌, ◌≢◌, ℕ, zero, suc, ◌+◌, ◌<◌, List, [], ◌∷◌, length, map, take, drop, Option, Some, None, Bool, true, false, refl, sym, ◌∙◌, ap, subst, inl, inr, ◌⊎◌, arith, Contains}
use Rattle.std.specs.Prelude.{is_none, is_some, not, ◌&&◌, find, option_map, option_and_then, nat_eq, nat_lt, slice_get, if◌then◌else◌}
use Rattle.std.specs.List.{list_any, list_all, range_with_len}
use Rattle.std.specs.Cmp.Lexicographic.{bytes_decides}
use Rattle.std.proofs.lemmas.Bool.{cases_Bool, and_parts, eqb-true}
use Rattle.std.proofs.lemmas.Option.{same_Some}
use Rattle.tk_types.specs.Lists.{is_empty}
use Rattle.tk_types.specs.declared.object.Asked.{Asked}
use Rattle.tk_types.specs.declared.run.Child.{Child}
use Rattle.tk_types.specs.declared.run.Facts.{Facts}
use Rattle.tk_types.specs.declared.run.Stop.{Stop}
use Rattle.tk_types.specs.declared.run.Stop.TheVariants as stops
use Rattle.tk_types.specs.declared.run.Start.TheVariants.{Ready}
use Rattle.tk_types.specs.declared.verdict.Binding.{Binding}
use Rattle.tk_types.specs.declared.verdict.Verdict.{Verdict}
use Rattle.tk_verdict.specs.Condition.{condition_of}
use Rattle.tk_types.specs.Behaviour.{level_of}
use Rattle.tk_verdict.specs.Gives.{label_of}
use Rattle.tk_verdict.specs.Labels.{labels_of, ready_bindings}
use Rattle.tk_verdict.specs.Progress.{AllDone}
use Rattle.tk_verdict.specs.Verdict.{is_done}
use Rattle.tk_journal.specs.declared.entry.Actor.TheVariants as actors
use Rattle.tk_journal.specs.declared.act.Act.{Act}
use Rattle.tk_journal.specs.declared.act.Act.TheVariants as acts
use Rattle.tk_journal.specs.declared.object.RunState.{RunState}
use Rattle.tk_journal.specs.declared.object.TaskRunState.{TaskRunState}
use Rattle.tk_journal.specs.Lists.{IsThere}
use Rattle.tk_journal.specs.Effects.{task_count, is_final, bindings_for}
use Rattle.tk_journal.specs.History.{View}
use Rattle.tk_journal.specs.Names.{child_name_of}
use Rattle.tk_journal.specs.Rows.{IsJustified}
use Rattle.tk_journal.specs.RunRows.{facts_in, outcome_in, HaltCause, IsOver, MaySchedule, AreChildrenClosed, IsSomeUndone}
use Rattle.tk_journal.specs.Stops.{asked_level}
use Rattle.tk_journal.proofs.Stuck.{bindings_of_part}
use Rattle.tk_cache.specs.Children as seen
use Rattle.tk_choice.specs.First.{first_act}
use Rattle.tk_choice.proofs.First.{first_is}
use Rattle.tk_runrec.specs.declared.found.Found.{Found}
use Rattle.tk_runrec.specs.Labels.{is_undone, first_ready}
use Rattle.tk_runrec.specs.Found.{first_found}
use Rattle.tk_labels.specs.Kept.{is_bad}
use Rattle.tk_runrec.specs.Tests.{starts_ready, is_closed, is_recorded, is_reached, is_above, has_cause, has_passed, may_halt, may_schedule, may_go_on, may_finish, is_bare}
use Rattle.tk_runrec.specs.Choice.{halting_order, halt, start, found_at, unmarked, cancel, make, missing, make_first, close, closed_with, all_closed, is_over, schedule, schedule_task, table, act_of, act_at, choice, choice_among, child_name, seen_children}
use Rattle.tk_runrec.specs.Fit.{IsFit, AreFit}
use Rattle.tk_runrec.proofs.Meaning as says
use Rattle.tk_runrec.proofs.Listed as listed
use Rattle.tk_runrec.proofs.Labelled as labelled

name_is : (name : List ℕ) (o : Option (List ℕ)) → seen.is_name name o ≡ true → o ≡ Some name
name_is name None is = absurd (cc (is))
name_is name (Some other) is = ap (λ (n : List ℕ). Some n) ((bytes_decides other name).0 is)

-- the TaskRun is there, and was made for the run
pub record IsMadeFor (run : List ℕ) (o : Option TaskRunState) : Type 0 where
  pub task_run : TaskRunState
  pub is : o ≡ Some task_run
  pub child : task_run.run ≡ Some run

pub made_for : (run : List ℕ) (o : Option TaskRunState) → seen.is_made_for run o ≡ true → IsMadeFor run o
made_for run None is = absurd (cc (is))
made_for run (Some task_run) is = record { task_run = task_run; is = refl; child = name_is run task_run.run is }

-- a TaskRun that a stop is to end
pub record IsUnmarked (name : List ℕ) (run : RunState) (task_run : TaskRunState) (found : Found) : Type 0 where
  pub not_closed : task_run.closed ≡ None
  pub not_marked : task_run.marked ≡ false
  pub reached : is_reached run task_run.task ≡ true
  pub same : found ≡ found_at name task_run

pub unmarked_is : (name : List ℕ) (run : RunState) (task_run : TaskRunState) (found : Found) → unmarked name run (Some task_run) ≡ Some found → IsUnmarked name run task_run found
unmarked_is name run task_run found is = elim (cases_Bool (is_none task_run.closed && not task_run.marked && is_reached run task_run.task)) [
  | inl hit ↦
      let now : Some _ ≡ Some found = rw hit at is in
      let both = and_parts (is_none task_run.closed && not task_run.marked) (is_reached run task_run.task) hit in
      let first = and_parts (is_none task_run.closed) (not task_run.marked) both.0 in
      record { not_closed = says.none_is task_run.closed first.0; not_marked = says.not_is task_run.marked first.1; reached = both.1; same = sym (same_Some _ found now) }
  | inr miss ↦ let now : None ≡ Some found = rw miss at is in absurd (cc (now))
]

there_at : (bindings : List Binding) (index : ℕ) → index < length bindings → IsThere (slice_get bindings index)
there_at [] index less = absurd (omega (arith, less))
there_at (binding ∷ bindings) zero less = (binding, refl)
there_at (binding ∷ bindings) (suc index) less = there_at bindings index (omega (arith, less))

there_same : (bindings other : List Binding) (index place : ℕ) → bindings ≡ other → index ≡ place → place < length other → IsThere (slice_get bindings index)
there_same bindings other index place same at less = rw (same, at) (there_at other place less)

module _ (view : View) (number moment : ℕ) where
  abbrev May : Act → Type 0
  May act = IsJustified view (actors.Runs number) moment act

  module _ (name : List ℕ) (run : RunState) (there : view.run name ≡ Some run) (fit : IsFit view run) where
    abbrev facts : Facts
    facts = facts_in view run

    abbrev labels : List Verdict
    labels = labels_of facts

    -- Close

    tasks_done : list_all is_done labels ≡ true → AllDone facts
    tasks_done is task below = says.every_is is_done labels is (label_of facts task) (labelled.label_in facts task below)

    children_closed : all_closed view run ≡ true → AreChildrenClosed view.task_run run
    children_closed is part has index below = says.closed_is (view.task_run (child_name_of run.spec part.task index)) (says.every_is (λ (child : Child). is_closed (view.task_run (child_name run child))) (seen_children view run) is _ (listed.is_listed (outcome_in view run) run.scheduled part index has below))

    over_is : is_over view run labels ≡ true → (run.spec.start ≢ Ready) ⊎ IsOver view run
    over_is is = elim (cases_Bool (starts_ready run.spec.start)) [
      | inr unstartable ↦ inl (says.unstartable_is run.spec.start unstartable)
      | inl startable ↦
          let now = says.or_then (starts_ready run.spec.start) (is_some run.start && list_all is_done labels && list_all (is_recorded run.stops) run.asked && all_closed view run) startable is in
          let closed = and_parts _ (all_closed view run) now in
          let recorded = and_parts _ (list_all (is_recorded run.stops) run.asked) closed.0 in
          let done = and_parts (is_some run.start) (list_all is_done labels) recorded.0 in
          inr record {
            startable = says.startable_is run.spec.start startable;
            started = says.some_is run.start done.0;
            children = children_closed closed.1;
            tasks = tasks_done done.1;
            asked = λ status has. says.recorded_is run.stops status (says.every_is (is_recorded run.stops) run.asked recorded.1 status has);
          }
    ]

    may_close : (act : Act) → run.closed ≡ None → close view name run labels ≡ Some act → May act
    may_close act unclosed is =
        let both = listed.when_is (not run.pending && is_over view run labels) (option_map (closed_with name facts) (condition_of facts labels)) act is in
        let parts = and_parts (not run.pending) (is_over view run labels) both.0 in
        let found = listed.map_is (closed_with name facts) (condition_of facts labels) act both.1 in
        subst May found.2 (tt, record { it = run; is = there; has = record { not_closed = unclosed; not_pending = says.not_is run.pending parts.0; over = over_is parts.1; is_closing = record { condition = found.0; decided = found.1; same = refl } } })

    -- Halt

    some_undone : (first count : ℕ) → list_any is_undone (map (label_of facts) (range_with_len first count)) ≡ true → IsSomeUndone facts first count
    some_undone first count is = says.undone_from (label_of facts) first count is

    undone_as : (xs ys : List Verdict) → xs ≡ ys → list_any is_undone xs ≡ true → list_any is_undone ys ≡ true
    undone_as xs ys same is = subst (λ (l : List Verdict). list_any is_undone l ≡ true) same is

    bare_is : list_any (is_bare run.scheduled) (range_with_len 0 (length run.spec.tasks)) ≡ true → (task : ℕ) × (task < length run.spec.tasks) × (bindings_for task run.scheduled ≡ [])
    bare_is is = let found = bare_from 0 (length run.spec.tasks) is in let less = found.1 in (found.0, omega (arith, less), found.2)
      where
        bare_from : (first n : ℕ) → list_any (is_bare run.scheduled) (range_with_len first n) ≡ true → (task : ℕ) × (task < first + n) × (bindings_for task run.scheduled ≡ [])
        bare_from first zero is = absurd (cc (is))
        bare_from first (suc n) is = elim (cases_Bool (is_bare run.scheduled first)) [
          | inl hit ↦ (first, omega arith, says.empty_is (bindings_for first run.scheduled) hit)
          | inr miss ↦ let rest = bare_from (first + 1) n (rw miss at is) in let less = rest.1 in (rest.0, omega (arith, less), rest.2)
        ]

    cause_is : (stop : Stop) → has_cause moment run (seen_children view run) labels stop ≡ true → HaltCause view moment run stop
    cause_is stops.StoppedRunFinally is = says.highest_is run stops.StoppedRunFinally is
    cause_is stops.CancelledRunFinally is = says.highest_is run stops.CancelledRunFinally is
    cause_is stops.Cancelled is = says.highest_is run stops.Cancelled is
    cause_is stops.PipelineTimeout is =
        let parts = and_parts (list_any is_undone labels) (has_passed run.start run.spec.pipeline_ms moment) is in
        (some_undone 0 (task_count run.spec) (undone_as labels _ (labelled.labels_are facts) parts.0), says.passed_is run.start run.spec.pipeline_ms moment parts.1)
    cause_is stops.TasksTimeout is =
        let parts = and_parts (list_any is_undone (take (length run.spec.tasks) labels)) (has_passed run.start run.spec.tasks_ms moment) is in
        (some_undone 0 (length run.spec.tasks) (undone_as (take (length run.spec.tasks) labels) _ (labelled.first_part facts) parts.0), says.passed_is run.start run.spec.tasks_ms moment parts.1)
    cause_is stops.FinallyTimeout is =
        let parts = and_parts (list_any is_undone (drop (length run.spec.tasks) labels)) (has_passed run.finally_start run.spec.finally_ms moment) is in
        (some_undone (length run.spec.tasks) (length run.spec.finally) (undone_as (drop (length run.spec.tasks) labels) _ (labelled.last_part facts) parts.0), says.passed_is run.finally_start run.spec.finally_ms moment parts.1)
    cause_is stops.Failure is =
        let bare = and_parts (is_empty run.stops && list_any (is_bad run.spec) (seen_children view run)) (list_any (is_bare run.scheduled) (range_with_len 0 (length run.spec.tasks))) is in
        let bad = and_parts (is_empty run.stops) (list_any (is_bad run.spec) (seen_children view run)) bare.0 in
        (says.empty_is run.stops bad.0, listed.bad_is run.spec (outcome_in view run) run.scheduled bad.1, bare_is bare.1)

    may_halt_it : (act : Act) → run.closed ≡ None → halt moment name run (seen_children view run) labels ≡ Some act → May act
    may_halt_it act unclosed is =
        let found = listed.map_is (λ (stop : Stop). acts.Halt name stop) (find (may_halt moment run (seen_children view run) labels) halting_order) act is in
        let stop = found.0 in
        let hit = (listed.find_is (may_halt moment run (seen_children view run) labels) halting_order stop found.1).1 in
        let caused = and_parts (is_some run.start && is_above run.stops stop) (has_cause moment run (seen_children view run) labels stop) hit in
        let above = and_parts (is_some run.start) (is_above run.stops stop) caused.0 in
        subst May found.2 (tt, record { it = run; is = there; has = record { started = says.some_is run.start above.0; not_closed = unclosed; above = says.above_is run.stops stop above.1; cause = cause_is stop caused.1 } })

    -- Start

    may_start : (act : Act) → run.closed ≡ None → start name run ≡ Some act → May act
    may_start act unclosed is = elim (cases_Bool (starts_ready run.spec.start && not run.pending && is_none run.start)) [
      | inr miss ↦ let now : None ≡ Some act = rw miss at is in absurd (cc (now))
      | inl hit ↦
          let now : Some (acts.Start name) ≡ Some act = rw hit at is in
          let both = and_parts (starts_ready run.spec.start && not run.pending) (is_none run.start) hit in
          let first = and_parts (starts_ready run.spec.start) (not run.pending) both.0 in
          subst May (same_Some (acts.Start name) act now) (tt, record { it = run; is = there; has = record { startable = says.startable_is run.spec.start first.0; not_pending = says.not_is run.pending first.1; not_started = says.none_is run.start both.1; not_closed = unclosed } })
    ]

    -- CancelTaskRun

    may_unmarked : (child : List ℕ) (found : Found) → IsMadeFor name (view.task_run child) → unmarked child run (view.task_run child) ≡ Some found → May (acts.CancelTaskRun found.name)
    may_unmarked child found made is =
        let it = unmarked_is child run made.task_run found (ap (unmarked child run) (sym made.is) ∙ is) in
        subst (λ (f : Found). May (acts.CancelTaskRun f.name)) (sym it.same) (tt, record { it = made.task_run; is = made.is; has = record { not_closed = it.not_closed; not_marked = it.not_marked; run_name = name; child = made.child; reached = record { it = run; is = there; has = says.reached_is run made.task_run.task it.reached } } })

    may_cancel : (act : Act) → cancel view name run ≡ Some act → May act
    may_cancel act is =
        let found = listed.map_is (λ (f : Found). acts.CancelTaskRun f.name) (first_found (λ (child : List ℕ). unmarked child run (view.task_run child)) None (seen.children_of view name)) act is in
        elim (listed.found_is (λ (child : List ℕ). unmarked child run (view.task_run child)) None (seen.children_of view name) found.0 found.1) [
          | inl none ↦ absurd (cc (none))
          | inr one ↦
              let child = listed.filter_is (λ (n : List ℕ). seen.is_made_for name (view.task_run n)) view.task_runs one.0 one.1 in
              subst May found.2 (may_unmarked one.0 found.0 (made_for name (view.task_run one.0) child.1) one.2)
        ]

    -- MakeTaskRun

    may_missing : (child : Child) (found : Found) → Contains (seen_children view run) child → run.closed ≡ None → missing view run child ≡ Some found → May (make name run found)
    may_missing child found has unclosed is =
        let both = listed.when_is (is_none (view.task_run (child_name run child))) (Some record { task = child.task; index = child.index; name = child_name run child }) found is in
        let part = listed.listed (outcome_in view run) run.scheduled child has in
        let in_part : bindings_for child.task run.scheduled ≡ part.part.bindings = ap (λ (c : Child). bindings_for c.task run.scheduled) part.is ∙ bindings_of_part run.scheduled part.part fit.once part.has in
        let index : child.index ≡ part.index = ap (λ (c : Child). c.index) part.is in
        let bound = there_same (bindings_for child.task run.scheduled) part.part.bindings child.index part.index in_part index part.within in
        subst (λ (f : Found). May (make name run f)) (same_Some _ found both.1) (tt, record { it = run; is = there; has = record { child = bound; not_closed = unclosed; named = refl; absent = says.none_is (view.task_run (child_name run child)) both.0; marked = (says.reached_is run child.task, says.is_reached_of run child.task) } })

    may_make : (act : Act) → run.closed ≡ None → make_first view name run ≡ Some act → May act
    may_make act unclosed is =
        let found = listed.map_is (make name run) (first_found (missing view run) None (seen_children view run)) act is in
        elim (listed.found_is (missing view run) None (seen_children view run) found.0 found.1) [
          | inl none ↦ absurd (cc (none))
          | inr one ↦ subst May found.2 (may_missing one.0 found.0 one.1 unclosed one.2)
        ]

    -- Schedule

    may_is : (final : Bool) → (if final then may_finish run else may_go_on run (seen_children view run)) ≡ true → MaySchedule final view run
    may_is true is =
        let parts = and_parts (list_all (λ (s : Stop). nat_lt (level_of s) 3) run.stops) (list_all (λ (a : Asked). nat_lt (asked_level a) 3) run.asked) is in
        (says.all_is (λ (s : Stop). nat_lt (level_of s) 3) (λ (s : Stop). level_of s < 3) (λ s at. says.lt_is (level_of s) 3 at) run.stops parts.0, says.all_is (λ (a : Asked). nat_lt (asked_level a) 3) (λ (a : Asked). asked_level a < 3) (λ a at. says.lt_is (asked_level a) 3 at) run.asked parts.1)
    may_is false is =
        let good = and_parts (is_empty run.stops && list_all (λ (a : Asked). nat_eq (asked_level a) 0) run.asked) (not (list_any (is_bad run.spec) (seen_children view run))) is in
        let calm = and_parts (is_empty run.stops) (list_all (λ (a : Asked). nat_eq (asked_level a) 0) run.asked) good.0 in (
          says.empty_is run.stops calm.0,
          says.all_is (λ (a : Asked). nat_eq (asked_level a) 0) (λ (a : Asked). asked_level a ≡ 0) (λ a at. eqb-true (asked_level a) 0 at) run.asked calm.1,
          λ bad. says.true_and_false (list_any (is_bad run.spec) (seen_children view run)) (listed.is_bad_of run.spec (outcome_in view run) run.scheduled bad) (says.not_is (list_any (is_bad run.spec) (seen_children view run)) good.1),
        )

    may_schedule_it : (act : Act) → run.closed ≡ None → schedule view name run labels ≡ Some act → May act
    may_schedule_it act unclosed is =
        let both = listed.when_is (is_some run.start) (option_and_then (schedule_task name facts labels) (first_ready (may_schedule run (seen_children view run)) 0 labels)) act is in
        let found = listed.then_is (schedule_task name facts labels) (first_ready (may_schedule run (seen_children view run)) 0 labels) act both.1 in
        let ready = labelled.ready_found facts (may_schedule run (seen_children view run)) found.0 found.1 in
        let given = listed.map_is (acts.Schedule name found.0) (ready_bindings facts labels found.0) act found.2 in
        subst May given.2 (tt, record { it = run; is = there; has = record { started = says.some_is run.start both.0; not_closed = unclosed; own_bindings = given.1; may = may_is (is_final run.spec found.0) ready.may_go } })

    -- the table

    may_table : (act : Act) → run.closed ≡ None → first_act (table view moment name run labels) ≡ Some act → May act
    may_table act unclosed is = elim (first_is (close view name run labels) _ act is) [
      | inl closing_now ↦ may_close act unclosed closing_now
      | inr after_close ↦ elim (first_is (halt moment name run (seen_children view run) labels) _ act after_close.1) [
        | inl halting ↦ may_halt_it act unclosed halting
        | inr after_halt ↦ elim (first_is (start name run) _ act after_halt.1) [
          | inl starting ↦ may_start act unclosed starting
          | inr after_start ↦ elim (first_is (cancel view name run) _ act after_start.1) [
            | inl cancelling ↦ may_cancel act cancelling
            | inr after_cancel ↦ elim (first_is (make_first view name run) _ act after_cancel.1) [
              | inl making ↦ may_make act unclosed making
              | inr after_make ↦ elim (first_is (schedule view name run labels) [] act after_make.1) [
                | inl scheduling ↦ may_schedule_it act unclosed scheduling
                | inr nothing ↦ let none = nothing.1 in absurd (cc (none))
              ]
            ]
          ]
        ]
      ]
    ]

    may_of : (act : Act) → act_of view moment name run ≡ Some act → May act
    may_of act is = elim (cases_Bool (is_some run.closed)) [
      | inl closed ↦ may_cancel act (listed.if_true (is_some run.closed) (cancel view name run) (first_act (table view moment name run labels)) (Some act) closed is)
      | inr unclosed ↦ may_table act (not_some run.closed unclosed) (listed.if_false (is_some run.closed) (cancel view name run) (first_act (table view moment name run labels)) (Some act) unclosed is)
    ]
      where
        not_some : {X : Type 0} (o : Option X) → is_some o ≡ false → o ≡ None
        not_some None is = refl
        not_some (Some x) is = absurd (cc (is))

  pub may_at : AreFit view → (name : List ℕ) (o : Option RunState) (act : Act) → view.run name ≡ o → act_at view moment name o ≡ Some act → May act
  may_at fit name None act there is = absurd (cc (is))
  may_at fit name (Some run) act there is = may_of name run there (fit name run there) act is

  may_among : AreFit view → (names : List (List ℕ)) (act : Act) → choice_among view moment names ≡ Some act → May act
  may_among fit [] act is = absurd (cc (is))
  may_among fit (name ∷ names) act is = elim (first_is (act_at view moment name (view.run name)) _ act is) [
    | inl first ↦ may_at fit name (view.run name) act refl first
    | inr later ↦ may_among fit names act later.1
  ]

  -- the choice may be tried
  pub may_choice : AreFit view → (act : Act) → choice view moment ≡ Some act → IsJustified view (actors.Runs number) moment act
  may_choice fit act is = may_among fit view.runs act is
