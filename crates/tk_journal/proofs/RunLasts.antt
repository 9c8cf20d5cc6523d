-- What lasts of runs, entry by entry.
use Rattle.std.proofs.Common.{◌≡◌, ◌≢◌, ℕ, zero, suc, ◌<◌, ◌+◌, List, [], ◌∷◌, ◌++◌, length, Option, Some, None, Bool, true, refl, sym, ◌∙◌, ap, subst, arith, inl, inr, Contains, get_or}
use Rattle.std.proofs.lemmas.Option.{same_Some}
use Rattle.std.proofs.lemmas.List.Elements.{All-nil, All-cons, All-weaker, Contains-push_cases, Contains-append_left, All-contains_itself, Contains-get_or}
use Rattle.std.proofs.lemmas.List.Quantifiers.{all_pairs_push}
use Rattle.tk_types.specs.declared.run.Facts.{Facts}
use Rattle.tk_types.specs.declared.run.Outcome.{Outcome}
use Rattle.tk_types.specs.declared.run.RunSpec.{RunSpec}
use Rattle.tk_types.specs.declared.run.Stop.{Stop}
use Rattle.tk_types.specs.declared.run.Stop.TheVariants as stops
use Rattle.tk_types.specs.declared.verdict.Binding.{Binding}
use Rattle.tk_types.specs.declared.verdict.Verdict.TheVariants as labels
use Rattle.tk_verdict.specs.WellFormed.{IsWellFormed}
use Rattle.tk_verdict.specs.Moves.{GainsOutcomes, Moves, by_outcomes, by_stop, by_children}
use Rattle.tk_verdict.specs.Gives.{HasNoChildren, Gives, label_of}
use Rattle.tk_types.specs.Behaviour.{level_of}
use Rattle.tk_verdict.specs.Facts.{children_at}
use Rattle.tk_types.specs.declared.scenario.Kind.TheVariants as kinds
use Rattle.tk_types.specs.declared.object.Asked.{Asked}
use Rattle.tk_types.specs.declared.object.Asked.TheVariants as asks
use Rattle.tk_journal.specs.declared.act.Admission.TheVariants as admissions
use Rattle.tk_journal.specs.declared.act.Closing.{Closing}
use Rattle.tk_journal.specs.declared.act.Act.{Act}
use Rattle.tk_journal.specs.declared.act.Act.TheVariants as acts
use Rattle.tk_journal.specs.declared.entry.Entry.{Entry}
use Rattle.tk_journal.specs.declared.object.RunState.{RunState}
use Rattle.tk_journal.specs.declared.object.Scheduled.{Scheduled}
use Rattle.tk_journal.specs.declared.object.TaskRunState.{TaskRunState}
use Rattle.tk_journal.specs.Lists.{IsThere, IsPrefixOf}
use Rattle.tk_journal.specs.Effects.{name_of, kind_of, kind_of_asked, writes, run_after, run_made, admitted_run, asked_list}
use Rattle.tk_journal.specs.Names.{child_name_of}
use Rattle.tk_journal.specs.History.{View, past, run_of, run_written, task_run_of, view_at, facts_of, outcome_of, children_in}
use Rattle.tk_journal.specs.Stops.{asked_stop}
use Rattle.tk_journal.specs.RunRows.{BadChild, ScheduleRow, HaltRow, CloseRunRow, StartRow, IsClosingOf, AreChildrenClosed, HaltCause, facts_in, IsHighestAsked}
use Rattle.tk_journal.specs.AskRows.{RunAskRow}
use Rattle.tk_journal.specs.Right.{WasAsked, Asks, facts_at, outcome_at, LastingRun}
use Rattle.tk_journal.specs.Legal.{IsLegal, Fits}
use Rattle.tk_journal.specs.Grows.{Grows}
use Rattle.tk_journal.proofs.Basics.{none_there, prefix_refl, prefix_push, prefix_contains, writes_name, writes_kind}
use Rattle.tk_journal.proofs.Facts.{TaskRunsGrow, closed_stays, outcome_stays, facts_gain, facts_same, children_in-append}
use Rattle.tk_journal.proofs.WellFormed.{well_formed, AreOnce, has_child, children_all}
use Rattle.tk_journal.proofs.Past.{state_cases}
use Rattle.tk_journal.proofs.Present.{RunRow}
use Rattle.tk_journal.proofs.Grows.{grows_trans, run_row_of}
use Rattle.tk_journal.proofs.Claimed.{grows_one, grows_past}
use Rattle.tk_journal.proofs.Labels.{ready_given, gives_some, gives_stays, ready_has_none, ready_stays, gives_place}
use Rattle.tk_journal.specs.Sound.{IsSoundSpec}

-- which stops are asked for, and by which word
pub asked_stop_one : (a b : Asked) (s : Stop) → asked_stop a ≡ Some s → asked_stop b ≡ Some s → a ≡ b
asked_stop_one asks.StoppedRunFinally asks.StoppedRunFinally s first second = refl
asked_stop_one asks.CancelledRunFinally asks.CancelledRunFinally s first second = refl
asked_stop_one asks.Cancelled asks.Cancelled s first second = refl
asked_stop_one _ _ s first second = cc

abbrev pub IsNeverAsked : Stop → Type 0
IsNeverAsked stops.StoppedRunFinally = ⊥
IsNeverAsked stops.CancelledRunFinally = ⊥
IsNeverAsked stops.Cancelled = ⊥
IsNeverAsked _ = Unit {0}

pub never_asked : (status : Asked) (s : Stop) → asked_stop status ≡ Some s → IsNeverAsked s → ⊥
never_asked asks.Start s is never = cc
never_asked asks.TaskRunCancelled s is never = cc
never_asked asks.StoppedRunFinally s is never = subst IsNeverAsked (sym (same_Some stops.StoppedRunFinally s is)) never
never_asked asks.CancelledRunFinally s is never = subst IsNeverAsked (sym (same_Some stops.CancelledRunFinally s is)) never
never_asked asks.Cancelled s is never = subst IsNeverAsked (sym (same_Some stops.Cancelled s is)) never

is_word : (status : Asked) → IsThere (asked_stop status) → status ≢ asks.TaskRunCancelled
is_word asks.TaskRunCancelled there is = let none = there.1 in cc (none)
is_word asks.Start there is = cc
is_word _ there is = cc

not_word : (status : Asked) → status ≡ asks.TaskRunCancelled → kind_of_asked status ≡ kinds.Runs → ⊥
not_word asks.TaskRunCancelled is kind = cc
not_word _ is kind = cc

-- the facts of such a run are well formed, whatever is seen of its children
pub facts_well_formed : (task_runs : List ℕ → Option TaskRunState) (run : RunState) → IsSoundSpec run.spec → AreOnce run.scheduled → ((part : Scheduled) → Contains run.scheduled part → (0 < length part.bindings) × (part.task < length run.spec.tasks + length run.spec.finally)) → IsWellFormed (facts_of task_runs run)
facts_well_formed task_runs run sound once exist =
    well_formed (facts_of task_runs run) (λ task index. outcome_of (task_runs (child_name_of run.spec task index))) run.scheduled refl sound once
    (All-weaker (Contains run.scheduled) (λ (s : Scheduled). s.task < length run.spec.tasks + length run.spec.finally) (λ part has. (exist part has).1) run.scheduled (All-contains_itself run.scheduled))

pub lasting_facts : (history : List Entry) (name : List ℕ) (run : RunState) (task_runs : List ℕ → Option TaskRunState) → LastingRun history name run → IsWellFormed (facts_of task_runs run)
lasting_facts history name run task_runs lasting = facts_well_formed task_runs run lasting.sound lasting.once lasting.exist

-- where all children are closed the facts don't move
pub closed_facts : (old new : List ℕ → Option TaskRunState) → TaskRunsGrow old new → (run : RunState) → AreChildrenClosed old run → facts_of old run ≡ facts_of new run
closed_facts old new grow run closed = facts_same old new run
    (λ part has index below. let child = closed part has index below in child.is ∙ sym (closed_stays old new grow (child_name_of run.spec part.task index) child.it child.is child.has))

pub children_stay_closed : (old new : List ℕ → Option TaskRunState) → TaskRunsGrow old new → (run : RunState) → AreChildrenClosed old run → AreChildrenClosed new run
children_stay_closed old new grow run closed part has index below =
    let child = closed part has index below in
    record { it = child.it; is = closed_stays old new grow (child_name_of run.spec part.task index) child.it child.is child.has; has = child.has }

pub bad_stays : (spec : RunSpec) (f g : ℕ → ℕ → Option Outcome) (xs ys : List Scheduled) → ((task index : ℕ) (outcome : Outcome) → f task index ≡ Some outcome → g task index ≡ Some outcome) → IsPrefixOf xs ys → BadChild spec f xs → BadChild spec g ys
bad_stays spec f g xs ys keep front bad = record {
  part = bad.part;
  scheduled_part = prefix_contains xs ys bad.part front bad.scheduled_part;
  index = bad.index;
  within = bad.within;
  task = bad.task;
  of_tasks = bad.of_tasks;
  outcome = bad.outcome;
  ended = keep bad.part.task bad.index bad.outcome bad.ended;
  bad = bad.bad;
}

-- the run itself is as it was, while the history goes on
pub lift_run : (old new : List Entry) → Grows old new → (name : List ℕ) (run : RunState) → LastingRun old name run → LastingRun new name run
lift_run old new grows name run lasting =
    let f = task_run_of old in
    let g = task_run_of new in
    record {
      named = lasting.named;
      sound = lasting.sound;
      once = lasting.once;
      exist = lasting.exist;
      given = λ part has. gives_stays (facts_at old run) (facts_at new run) part.task part.bindings (lasting_facts old name run f lasting)
          (by_outcomes (facts_gain f g grows.task_runs run)) (lasting.given part has);
      started = lasting.started;
      startable = lasting.startable;
      asked = λ status has. grows.asked name status (lasting.asked status has);
      words = lasting.words;
      recorded = lasting.recorded;
      rising = lasting.rising;
      failure = λ has. bad_stays run.spec (outcome_at old run) (outcome_at new run) run.scheduled run.scheduled (λ task index. outcome_stays f g grows.task_runs (child_name_of run.spec task index)) (prefix_refl run.scheduled) (lasting.failure has);
      closed = λ closing is. let was = lasting.closed closing is in
          (subst (λ (facts : Facts). IsClosingOf facts closing) (closed_facts f g grows.task_runs run was.1) was.0, children_stay_closed f g grows.task_runs run was.1);
    }

-- an entry changes the run, in a history that has moved on already
module _ (history : List Entry) (name : List ℕ) (run : RunState) (lasting : LastingRun history name run)
    (view : View) (seen : TaskRunsGrow view.task_run (task_run_of history)) (moment : ℕ) where
  abbrev mixed : Facts
  mixed = facts_in view run

  ask_lasts : (status : Asked) → status ≢ asks.TaskRunCancelled → RunAskRow status run → WasAsked history name status → LastingRun history name (run_after moment (acts.Ask name status) run)
  ask_lasts status word row was = record {
    named = lasting.named;
    sound = lasting.sound;
    once = lasting.once;
    exist = lasting.exist;
    given = lasting.given;
    started = lasting.started;
    startable = lasting.startable;
    asked = λ other has. elim (Contains-push_cases run.asked status other has) [ inl before ↦ lasting.asked other before | inr same ↦ subst (WasAsked history name) same was ];
    words = λ other has. elim (Contains-push_cases run.asked status other has) [ inl before ↦ lasting.words other before | inr same ↦ subst (λ (s : Asked). s ≢ asks.TaskRunCancelled) same word ];
    recorded = λ other stop is has. Contains-append_left run.asked (status ∷ []) other (lasting.recorded other stop is has);
    rising = lasting.rising;
    failure = lasting.failure;
    closed = lasting.closed;
  }

  start_lasts : StartRow run → LastingRun history name (run_after moment (acts.Start name) run)
  start_lasts row = record {
    named = lasting.named;
    sound = lasting.sound;
    once = lasting.once;
    exist = lasting.exist;
    given = lasting.given;
    started = λ part has. (moment, refl);
    startable = λ started. row.startable;
    asked = lasting.asked;
    words = lasting.words;
    recorded = lasting.recorded;
    rising = lasting.rising;
    failure = lasting.failure;
    closed = lasting.closed;
  }

  close_lasts : (closing : Closing) → CloseRunRow view closing run → LastingRun history name (run_after moment (acts.Close name closing) run)
  close_lasts closing row = record {
    named = lasting.named;
    sound = lasting.sound;
    once = lasting.once;
    exist = lasting.exist;
    given = lasting.given;
    started = lasting.started;
    startable = lasting.startable;
    asked = lasting.asked;
    words = lasting.words;
    recorded = lasting.recorded;
    rising = lasting.rising;
    failure = lasting.failure;
    closed = λ other is. (
      subst (λ (c : Closing). IsClosingOf (facts_at history run) c) (same_Some closing other is)
          (subst (λ (facts : Facts). IsClosingOf facts closing) (closed_facts view.task_run (task_run_of history) seen run all_closed) row.is_closing),
      children_stay_closed view.task_run (task_run_of history) seen run all_closed,
    );
  }
    where
      -- a run that can't start has no children
      all_closed : AreChildrenClosed view.task_run run
      all_closed = elim row.over [
        | inl unstartable ↦ λ part has index below. absurd (unstartable (lasting.startable (lasting.started part has)))
        | inr over ↦ over.children
      ]

  -- a stop is added, and stops rise
  halt_lasts : (stop : Stop) → HaltRow view moment stop run → LastingRun history name (run_after moment (acts.Halt name stop) run)
  halt_lasts stop row = record {
    named = lasting.named;
    sound = lasting.sound;
    once = lasting.once;
    exist = lasting.exist;
    given = λ part has. gives_stays (facts_at history run) (facts_at history (run_after moment (acts.Halt name stop) run)) part.task part.bindings
        (lasting_facts history name run (task_run_of history) lasting)
        (by_stop (record { spec = refl; children = refl; stop = stop; stops = refl })) (lasting.given part has);
    started = lasting.started;
    startable = lasting.startable;
    asked = lasting.asked;
    words = lasting.words;
    recorded = λ status other is has. elim (Contains-push_cases run.stops stop other has) [
      | inl before ↦ lasting.recorded status other is before
      | inr same ↦ was_asked stop row.cause status (is ∙ ap Some (sym same))
    ];
    rising = all_pairs_push (λ a b. level_of a < level_of b) run.stops stop lasting.rising row.above;
    failure = λ has. elim (Contains-push_cases run.stops stop stops.Failure has) [
      | inl before ↦ lasting.failure before
      | inr same ↦ failed stop same row.cause
    ];
    closed = λ closing is. absurd (none_there run.closed row.not_closed (closing, is));
  }
    where
      highest : (status : Asked) (s : Stop) → asked_stop status ≡ Some s → IsHighestAsked run s → Contains run.asked status
      highest status s is cause = subst (Contains run.asked) (asked_stop_one cause.status status s cause.same is) cause.asked

      was_asked : (s : Stop) → HaltCause view moment run s → (status : Asked) → asked_stop status ≡ Some s → Contains run.asked status
      was_asked stops.StoppedRunFinally cause status is = highest status stops.StoppedRunFinally is cause
      was_asked stops.CancelledRunFinally cause status is = highest status stops.CancelledRunFinally is cause
      was_asked stops.Cancelled cause status is = highest status stops.Cancelled is cause
      was_asked stops.Failure cause status is = absurd (never_asked status stops.Failure is tt)
      was_asked stops.TasksTimeout cause status is = absurd (never_asked status stops.TasksTimeout is tt)
      was_asked stops.FinallyTimeout cause status is = absurd (never_asked status stops.FinallyTimeout is tt)
      was_asked stops.PipelineTimeout cause status is = absurd (never_asked status stops.PipelineTimeout is tt)

      failed : (s : Stop) → s ≡ stops.Failure → HaltCause view moment run s → BadChild run.spec (outcome_at history run) run.scheduled
      failed stops.Failure same cause = bad_stays run.spec _ (outcome_at history run) run.scheduled run.scheduled (λ task index. outcome_stays view.task_run (task_run_of history) seen (child_name_of run.spec task index)) (prefix_refl run.scheduled) cause.1
      failed _ same cause = cc

  -- a task that is Ready at a stale front is Ready now
  ready_still : (task : ℕ) (bindings : List Binding) → ScheduleRow view task bindings run → label_of (facts_at history run) task ≡ labels.Ready
  ready_still task bindings row = ready_stays mixed (facts_at history run) task (lasting_facts history name run view.task_run lasting)
      (facts_gain view.task_run (task_run_of history) seen run) (ready_given mixed task bindings (lasting_facts history name run view.task_run lasting) row.own_bindings).0

  pub schedule_moves : (task : ℕ) (bindings : List Binding) → ScheduleRow view task bindings run → Moves (facts_at history run) (facts_at history (run_after moment (acts.Schedule name task bindings) run))
  schedule_moves task bindings row = by_children (record {
    spec = refl;
    stops = refl;
    place = task;
    ready = ready_still task bindings row;
    more = children_in (outcome_at history run) (record { task = task; bindings = bindings } ∷ []);
    of_task = children_all (λ t. t ≡ task) (outcome_at history run) (record { task = task; bindings = bindings } ∷ []) (All-cons (λ (s : Scheduled). s.task ≡ task) (record { task = task; bindings = bindings }) [] refl (All-nil (λ (s : Scheduled). s.task ≡ task)));
    children = children_in-append (outcome_at history run) run.scheduled (record { task = task; bindings = bindings } ∷ []);
  })

  -- a Ready task gets its children
  schedule_lasts : (task : ℕ) (bindings : List Binding) → ScheduleRow view task bindings run → LastingRun history name (run_after moment (acts.Schedule name task bindings) run)
  schedule_lasts task bindings row = record {
    named = lasting.named;
    sound = lasting.sound;
    once = once;
    exist = exist;
    given = λ p has. elim (Contains-push_cases run.scheduled part p has) [
      | inl before ↦ gives_stays now after p.task p.bindings now_formed moves (lasting.given p before)
      | inr same ↦ subst (λ (q : Scheduled). Gives after q.task q.bindings) same (gives_stays now after task bindings now_formed moves gives_now)
    ];
    started = λ p has. row.started;
    startable = lasting.startable;
    asked = lasting.asked;
    words = lasting.words;
    recorded = lasting.recorded;
    rising = lasting.rising;
    failure = λ has. bad_stays run.spec (outcome_at history run) (outcome_at history run) run.scheduled (run.scheduled ++ part ∷ []) (λ t index outcome is. is) (prefix_push run.scheduled (part ∷ [])) (lasting.failure has);
    closed = λ closing is. absurd (none_there run.closed row.not_closed (closing, is));
  }
    where
      part : Scheduled
      part = record { task = task; bindings = bindings }

      outcomes : ℕ → ℕ → Option Outcome
      outcomes = outcome_at history run

      now : Facts
      now = facts_at history run

      after : Facts
      after = facts_at history (run_after moment (acts.Schedule name task bindings) run)

      stale_formed : IsWellFormed mixed
      stale_formed = lasting_facts history name run view.task_run lasting

      now_formed : IsWellFormed now
      now_formed = lasting_facts history name run (task_run_of history) lasting

      gain : GainsOutcomes mixed now
      gain = facts_gain view.task_run (task_run_of history) seen run

      gives_now : Gives now task bindings
      gives_now = gives_stays mixed now task bindings stale_formed (by_outcomes gain) (ready_given mixed task bindings stale_formed row.own_bindings).1

      none_now : HasNoChildren now task
      none_now = ready_has_none now task (ready_still task bindings row)

      -- a task that was scheduled has a child
      apart : (p : Scheduled) → Contains run.scheduled p → p.task ≡ task → ⊥
      apart p has same = has_child outcomes run.scheduled p lasting.once has (lasting.exist p has).0 (subst (λ (t : ℕ). children_at (children_in outcomes run.scheduled) t ≡ []) (sym same) none_now)

      once : AreOnce (run.scheduled ++ part ∷ [])
      once = all_pairs_push (λ (a b : Scheduled). a.task ≢ b.task) run.scheduled part lasting.once (λ k d below same. apart (get_or run.scheduled k d) (Contains-get_or run.scheduled k d below) same)

      exist : (p : Scheduled) → Contains (run.scheduled ++ part ∷ []) p → (0 < length p.bindings) × (p.task < length run.spec.tasks + length run.spec.finally)
      exist p has = elim (Contains-push_cases run.scheduled part p has) [
        | inl before ↦ lasting.exist p before
        | inr same ↦ subst (λ (q : Scheduled). (0 < length q.bindings) × (q.task < length run.spec.tasks + length run.spec.finally)) same (gives_some now task bindings lasting.sound.entries gives_now, gives_place now task bindings gives_now)
      ]

      moves : Moves now after
      moves = schedule_moves task bindings row

-- an admitted run
admitted_lasts : (history : List Entry) (name : List ℕ) (spec : RunSpec) (pending : Bool) (asked : Option Asked) (root : List ℕ) → spec.name ≡ name → IsSoundSpec spec → ((status : Asked) → asked ≡ Some status → IsThere (asked_stop status)) → ((status : Asked) → asked ≡ Some status → WasAsked history name status) → LastingRun history name (admitted_run spec pending asked root)
admitted_lasts history name spec pending asked root named sound word was = record {
  named = named;
  sound = sound;
  once = λ i j d less below. absurd (omega arith);
  exist = λ part has. absurd (omega (arith, has.1));
  given = λ part has. absurd (omega (arith, has.1));
  started = λ part has. absurd (omega (arith, has.1));
  startable = λ started. cc;
  asked = λ status has. was status (only asked status has);
  words = λ status has. is_word status (word status (only asked status has));
  recorded = λ status stop is has. absurd (omega (arith, has.1));
  rising = λ i j d less below. absurd (omega arith);
  failure = λ has. absurd (omega (arith, has.1));
  closed = λ closing is. cc;
}
  where
    only : (a : Option Asked) (status : Asked) → Contains (asked_list a) status → a ≡ Some status
    only None status has = absurd (omega (arith, has.1))
    only (Some word) status (zero, below, is) = ap Some is
    only (Some word) status (suc k, below, is) = absurd (omega arith)

module _ (older : List Entry) (e : Entry) (legal : IsLegal (e ∷ older)) (lasting : (name : List ℕ) (run : RunState) → run_of older name ≡ Some run → LastingRun older name run) where
  abbrev now : List Entry
  now = e ∷ older

  abbrev seen_now : View
  seen_now = view_at e.fronts older

  grown : Grows older now
  grown = grows_one e older legal

  stale_grown : Grows (past e.fronts.task_runs older) now
  stale_grown = grows_trans (past e.fronts.task_runs older) older now (grows_past e.fronts.task_runs older legal.0) grown

  changed : (act : Act) (name : List ℕ) (run : RunState) → name_of act ≡ name → kind_of act ≡ kinds.Runs → ((status : Asked) → Asks act name status → WasAsked now name status) → RunRow seen_now e.actor e.moment act run → LastingRun now name run → LastingRun now name (run_after e.moment act run)
  changed (acts.Ask named status) name run same kind was row before = ask_lasts now name run before seen_now stale_grown.task_runs e.moment status (λ is. not_word status is kind) row (was status (same, refl))
  changed (acts.Start named) name run same kind was row before = start_lasts now name run before seen_now stale_grown.task_runs e.moment row
  changed (acts.Schedule named task bindings) name run same kind was row before = schedule_lasts now name run before seen_now stale_grown.task_runs e.moment task bindings row
  changed (acts.Halt named stop) name run same kind was row before = halt_lasts now name run before seen_now stale_grown.task_runs e.moment stop row
  changed (acts.Close named closing) name run same kind was row before = close_lasts now name run before seen_now stale_grown.task_runs e.moment closing row
  changed _ name run same kind was row before = absurd row

  made : (act : Act) (name : List ℕ) (run : RunState) → name_of act ≡ name → Fits older e act → ((status : Asked) → Asks act name status → WasAsked now name status) → run_made act ≡ Some run → LastingRun now name run
  made (acts.Admit named (admissions.Run spec) pending asked root) name run same fits was is =
      subst (LastingRun now name) (same_Some (admitted_run spec pending asked root) run is)
      (admitted_lasts now name spec pending asked root (fits.1.named ∙ same) fits.1.tasks fits.1.asked_stops (λ status asks. was status (same, asks)))
  made act name run same fits was is = cc

  pub runs_last : (name : List ℕ) (run : RunState) → run_of now name ≡ Some run → LastingRun now name run
  runs_last name run is =
      state_cases (writes kinds.Runs name) (λ (before : List Entry) d was. run_written d was) (λ (o : Option RunState). (r : RunState) → o ≡ Some r → LastingRun now name r) e older
      (λ miss r there. lift_run older now grown name r (lasting name r there))
      (λ hit. written (run_of older name) refl hit) run is
    where
      written : (was : Option RunState) → run_of older name ≡ was → writes kinds.Runs name e ≡ true → (r : RunState) → run_written e was ≡ Some r → LastingRun now name r
      written None there hit r out = made e.act name r (writes_name kinds.Runs name e hit) legal.1.fits (λ status asks. inl asks) out
      written (Some before) there hit r out =
          subst (LastingRun now name) (same_Some (run_after e.moment e.act before) r out)
          (changed e.act name before (writes_name kinds.Runs name e hit) (writes_kind kinds.Runs name e hit) (λ status asks. inl asks) (run_row_of older e legal.1 name before hit there) (lift_run older now grown name before (lasting name before there)))
