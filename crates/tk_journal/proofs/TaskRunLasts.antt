-- What lasts of TaskRuns and pods, entry by entry.
use Rattle.std.proofs.Common.{IsTrue, ◌≡◌, ℕ, suc, ◌<◌, ◌≤◌, ◌+◌, List, [], ◌∷◌, ◌++◌, length, Option, Some, None, true, refl, sym, ◌∙◌, ap, subst, arith, inl, inr, ◌⊎◌, Contains, slice_get, length-append, nat_eq}
use Rattle.std.specs.Prelude.{nat_lt}
use Rattle.std.proofs.lemmas.Option.{same_Some}
use Rattle.std.proofs.lemmas.Bool.{cases_Bool, ltb-true, ltb-false, eqb-true}
use Rattle.std.proofs.lemmas.List.{length-map}
use Rattle.std.proofs.lemmas.List.Elements.{Contains-append_right}
use Rattle.tk_types.specs.declared.run.Outcome.{Outcome}
use Rattle.tk_types.specs.declared.run.Outcome.TheVariants as outcomes
use Rattle.tk_types.specs.declared.run.Start.{Start}
use Rattle.tk_types.specs.declared.run.Start.TheVariants.{Ready, Unstartable}
use Rattle.tk_types.specs.declared.verdict.Binding.{Binding}
use Rattle.tk_types.specs.declared.object.Asked.TheVariants as asks
use Rattle.tk_journal.specs.declared.act.Closing.TheVariants as closings
use Rattle.tk_journal.specs.declared.act.Act.TheVariants as acts
use Rattle.tk_journal.specs.declared.entry.Entry.{Entry}
use Rattle.tk_journal.specs.declared.object.RunState.{RunState}
use Rattle.tk_journal.specs.declared.object.Scheduled.{Scheduled}
use Rattle.tk_journal.specs.declared.object.TaskRunState.{TaskRunState}
use Rattle.tk_journal.specs.declared.object.Attempt.{Attempt}
use Rattle.tk_journal.specs.declared.object.Ending.{Ending}
use Rattle.tk_journal.specs.declared.object.Ending.TheVariants as endings
use Rattle.tk_journal.specs.declared.object.PodState.{PodState}
use Rattle.tk_journal.specs.Lists.{Has}
use Rattle.tk_journal.specs.Effects.{task_run_after, attempts_closed, attempt_closed, ending_of_attempt, ending_after, ending_without_attempt, bindings_for}
use Rattle.tk_journal.specs.Names.{task_at, child_name_of}
use Rattle.tk_journal.specs.History.{run_of}
use Rattle.tk_journal.specs.Stops.{IsReached}
use Rattle.tk_journal.specs.TaskRunRows.{IsOpenAttempt, OpenRow, CloseTaskRunRow}
use Rattle.tk_verdict.specs.Facts.{is_failure}
use Rattle.tk_journal.specs.Right.{facts_at, EndedAttempt, MayBeMarked, MayBeMarkedIn, IsChildOf, EndedFailing, EndedWell, RightEnding, HasEndedPod, HasBody, HasMarked, HasRetries, LastingRun, LastingTaskRun, LastingPod}
use Rattle.tk_journal.specs.Grows.{Grows, RunGrows}
use Rattle.tk_journal.proofs.Basics.{none_there, prefix_contains}
use Rattle.tk_journal.proofs.Attempts.{get_below, closed_cases, none_open_closed, open_closed, push_ended_cases, push_open_last}
use Rattle.tk_names.specs.Children.{pod_name}
use Rattle.tk_verdict.specs.Gives.{Gives}
use Rattle.tk_bind.specs.Fits.{fits}
use Rattle.tk_types.specs.declared.object.TaskRunSpec.{TaskRunSpec}
use Rattle.tk_types.specs.declared.run.RunSpec.{RunSpec}
use Rattle.tk_types.specs.declared.task.TaskBody.{TaskBody}
use Rattle.tk_types.specs.Limits.{most_retries}
use Rattle.tk_journal.specs.Sound.{HasSteps, ReadsSteps}

-- a stop that reaches a child reaches it later too
pub reached_stays : (old new : RunState) (task : ℕ) → RunGrows old new → IsReached old task → IsReached new task
reached_stays old new task grows reached =
    (reached.0, prefix_contains old.stops new.stops reached.0 grows.stops reached.1, rw grows.spec reached.2)

-- the bindings that a run has for a task are those of one scheduled part
pub part_of : (scheduled : List Scheduled) (task index : ℕ) (binding : Binding) → slice_get (bindings_for task scheduled) index ≡ Some binding → (part : Scheduled) × Contains scheduled part × (part.task ≡ task) × (slice_get part.bindings index ≡ Some binding)
part_of [] task index binding is = cc
part_of (s ∷ ss) task index binding is = elim (cases_Bool (nat_eq s.task task)) [
  | inl hit ↦ (s, (0, omega arith, refl), eqb-true s.task task hit, rw hit at is)
  | inr miss ↦ let found = part_of ss task index binding (rw miss at is) in (found.0, Contains-append_right (s ∷ []) ss found.0 found.1, found.2, found.3)
]

pub mark_stays : (old new : List Entry) → Grows old new → (name : List ℕ) (task : ℕ) (run : Option (List ℕ)) → MayBeMarkedIn old name task run → MayBeMarkedIn new name task run
mark_stays old new grows name task None was = grows.asked name asks.TaskRunCancelled was
mark_stays old new grows name task (Some run_name) reached =
    let later = grows.runs run_name reached.it reached.is in
    record { it = later.it; is = later.is; has = reached_stays reached.it later.it task later.has reached.has }

pub ending_stays : (old new : List Entry) → Grows old new → (name : List ℕ) (task_run : TaskRunState) (ending : Ending) → RightEnding old name task_run ending → RightEnding new name task_run ending
ending_stays old new grows name task_run (endings.Of (outcomes.Succeeded results)) right = right
ending_stays old new grows name task_run (endings.Of (outcomes.Failed exit results)) right = right
ending_stays old new grows name task_run (endings.Of outcomes.TimedOut) right = right
ending_stays old new grows name task_run (endings.Of outcomes.Lost) right = right
ending_stays old new grows name task_run (endings.Of outcomes.Cancelled) right = mark_stays old new grows name task_run.task task_run.run right
ending_stays old new grows name task_run (endings.Unstartable reason) right = right

-- a pod that ended is the same later
pub pod_ended_stays : (old new : List Entry) → Grows old new → (name : List ℕ) (outcome : Outcome) → HasEndedPod old name outcome → HasEndedPod new name outcome
pod_ended_stays old new grows name outcome has =
    let later = grows.pods name has.it has.is in
    record { it = has.it; is = later.is ∙ ap Some (later.has.ended (has.has.it, has.has.is)); has = has.has }

pub lift_child : (old new : List Entry) → Grows old new → ((run_name : List ℕ) (run : RunState) → run_of new run_name ≡ Some run → LastingRun new run_name run) → (name run_name : List ℕ) (task index : ℕ) (binding : Binding) → Has (run_of old run_name) (IsChildOf old name task index binding) → Has (run_of new run_name) (IsChildOf new name task index binding)
lift_child old new grows runs name run_name task index binding child =
    let later = grows.runs run_name child.it child.is in
    let part : Contains later.it.scheduled child.has.part = prefix_contains child.it.scheduled later.it.scheduled child.has.part later.has.scheduled child.has.scheduled in
    record {
      it = later.it;
      is = later.is;
      has = record {
        named = child.has.named ∙ ap (λ spec. child_name_of spec task index) (sym later.has.spec);
        part = child.has.part;
        scheduled = part;
        of_task = child.has.of_task;
        at = child.has.at;
        given = subst (λ (t : ℕ). Gives (facts_at new later.it) t child.has.part.bindings) child.has.of_task ((runs run_name later.it later.is).given child.has.part part);
      };
    }

body_stays : (old new : List Entry) → Grows old new → (run_name : List ℕ) (task : ℕ) (body : TaskBody) → HasBody old run_name task body → HasBody new run_name task body
body_stays old new grows run_name task body has =
    let later = grows.runs run_name has.it has.is in
    record { it = later.it; is = later.is; has = ap (λ (s : RunSpec). slice_get s.bodies task) later.has.spec ∙ has.has }

retries_stay : (old new : List Entry) → Grows old new → (run_name : List ℕ) (task retries : ℕ) → HasRetries old run_name task retries → HasRetries new run_name task retries
retries_stay old new grows run_name task retries has =
    let later = grows.runs run_name has.it has.is in
    record { it = later.it; is = later.is; has = record { it = has.has.it; is = ap (λ spec. task_at spec task) later.has.spec ∙ has.has.is; has = has.has.has } }

-- the TaskRun itself is as it was
pub lift_task_run : (old new : List Entry) → Grows old new → ((run_name : List ℕ) (run : RunState) → run_of new run_name ≡ Some run → LastingRun new run_name run) → (name : List ℕ) (task_run : TaskRunState) → LastingTaskRun old name task_run → LastingTaskRun new name task_run
lift_task_run old new grows runs name task_run lasting = record {
  child = λ run_name is. lift_child old new grows runs name run_name task_run.task task_run.index task_run.binding (lasting.child run_name is);
  starts = lasting.starts;
  mark = λ marked. mark_stays old new grows name task_run.task task_run.run (lasting.mark marked);
  named = lasting.named;
  fit = lasting.fit;
  steps = lasting.steps;
  readable = lasting.readable;
  sized = lasting.sized;
  body = λ run_name is. body_stays old new grows run_name task_run.task task_run.spec.body (lasting.body run_name is);
  retries = λ run_name is. retries_stay old new grows run_name task_run.task task_run.spec.retries (lasting.retries run_name is);
  few = lasting.few;
  last_open = lasting.last_open;
  tried = lasting.tried;
  failing = lasting.failing;
  over = lasting.over;
  ending = λ ending closed. ending_stays old new grows name task_run ending (lasting.ending ending closed);
  pods = λ place outcome ended. pod_ended_stays old new grows (pod_name name (suc place)) outcome (lasting.pods place outcome ended);
}

-- an entry changes the TaskRun, in a history that has moved on already
module _ (history : List Entry) (name : List ℕ) (task_run : TaskRunState) (lasting : LastingTaskRun history name task_run) (moment : ℕ) where
  pub mark_lasts : task_run.closed ≡ None → MayBeMarked history name task_run → LastingTaskRun history name (record task_run { marked = true })
  mark_lasts not_closed may = record {
    child = lasting.child;
    starts = lasting.starts;
    mark = λ marked. may;
    named = lasting.named;
    fit = lasting.fit;
    steps = lasting.steps;
    readable = lasting.readable;
    sized = lasting.sized;
    body = lasting.body;
    retries = lasting.retries;
    few = lasting.few;
    last_open = lasting.last_open;
    tried = lasting.tried;
    failing = lasting.failing;
    over = lasting.over;
    ending = λ ending closed. absurd (none_there task_run.closed not_closed (ending, closed));
    pods = lasting.pods;
  }

  pub open_lasts : OpenRow task_run → LastingTaskRun history name (task_run_after moment (acts.OpenAttempt name) task_run)
  open_lasts row =
      let fresh : Attempt = record { moment = moment; outcome = None } in
      let longer : length (task_run.attempts ++ fresh ∷ []) ≡ length task_run.attempts + 1 = length-append task_run.attempts (fresh ∷ []) in
      record {
        child = lasting.child;
        starts = lasting.starts;
        mark = lasting.mark;
        named = lasting.named;
        fit = lasting.fit;
        steps = lasting.steps;
        readable = lasting.readable;
        sized = lasting.sized;
        body = lasting.body;
        retries = lasting.retries;
        few = omega (arith, longer, row.more);
        last_open = λ place o. omega (arith, longer, push_open_last task_run.attempts moment place row.none_open o);
        tried = λ some. row.startable;
        failing = λ not_closed place outcome ended. lasting.failing not_closed place outcome (push_ended_cases task_run.attempts moment place outcome ended);
        over = λ ending closed. absurd (none_there task_run.closed row.not_closed (ending, closed));
        ending = λ ending closed. absurd (none_there task_run.closed row.not_closed (ending, closed));
        pods = λ place outcome ended. lasting.pods place outcome (push_ended_cases task_run.attempts moment place outcome ended);
      }

  -- it ends without an attempt that is open: marked, or not startable
  pub end_lasts : CloseTaskRunRow task_run → LastingTaskRun history name (task_run_after moment (acts.Close name closings.TaskRun) task_run)
  end_lasts row = record {
    child = lasting.child;
    starts = lasting.starts;
    mark = lasting.mark;
    named = lasting.named;
    fit = lasting.fit;
    steps = lasting.steps;
    readable = lasting.readable;
    sized = lasting.sized;
    body = lasting.body;
    retries = lasting.retries;
    few = lasting.few;
    last_open = lasting.last_open;
    tried = lasting.tried;
    failing = λ not_closed. cc;
    over = λ ending closed. row.none_open;
    ending = λ ending closed. ends task_run.spec.start refl ending (same_Some (ending_without_attempt task_run.spec.start) ending closed);
    pods = lasting.pods;
  }
    where
      ends : (start : Start) → task_run.spec.start ≡ start → (ending : Ending) → ending_without_attempt start ≡ ending → RightEnding history name (task_run_after moment (acts.Close name closings.TaskRun) task_run) ending
      ends Ready is ending same = subst (RightEnding history name (task_run_after moment (acts.Close name closings.TaskRun) task_run)) same (elim row.over [ inl marked ↦ lasting.mark marked | inr unstartable ↦ absurd (unstartable is) ])
      ends (Unstartable reason) is ending same = subst (RightEnding history name (task_run_after moment (acts.Close name closings.TaskRun) task_run)) same is

  -- its attempt gets an outcome
  module _ (now : Outcome) (place : ℕ) (not_closed : task_run.closed ≡ None) (is_open : IsOpenAttempt task_run.attempts place)
      (pod_ended : HasEndedPod history (pod_name name (suc place)) now)
      (cancelled : now ≡ outcomes.Cancelled → task_run.marked ≡ true) where
    abbrev pub after : TaskRunState
    after = task_run_after moment (acts.Close name (closings.Attempt now)) task_run

    last : suc place ≡ length task_run.attempts
    last = lasting.last_open place is_open

    same_length : length (attempts_closed now task_run.attempts) ≡ length task_run.attempts
    same_length = length-map task_run.attempts (attempt_closed now)

    -- an attempt that has ended then: it had before, or it is this one
    ended_then : (q : ℕ) (o : Outcome) → EndedAttempt (attempts_closed now task_run.attempts) q o → EndedAttempt task_run.attempts q o ⊎ ((q ≡ place) × (now ≡ o))
    ended_then q o ended = elim (closed_cases now task_run.attempts q o ended) [
      | inl before ↦ inl before
      | inr fresh ↦ inr (omega (arith, last, lasting.last_open q fresh.0), fresh.1)
    ]

    ends_failing : is_failure now ≡ true → task_run.spec.retries < length task_run.attempts → EndedFailing after now
    ends_failing fails used = record {
      all_used = omega (arith, same_length, lasting.few);
      failing = λ q o ended. elim (ended_then q o ended) [
        | inl before ↦ (lasting.failing not_closed q o before).0
        | inr this ↦ subst (λ (x : Outcome). is_failure x ≡ true) this.1 fails
      ];
      last = subst (λ (p : ℕ). EndedAttempt (attempts_closed now task_run.attempts) p now) (omega (arith, last, lasting.few)) (open_closed now task_run.attempts place is_open);
    }

    -- as ending_after says
    after_failure : is_failure now ≡ true → (ending : Ending) → ending_after task_run now ≡ Some ending → (task_run.spec.retries < length task_run.attempts → RightEnding history name after (endings.Of now)) → RightEnding history name after ending
    after_failure fails ending is used = elim (cases_Bool (nat_lt task_run.spec.retries (length task_run.attempts))) [
      | inl hit ↦ subst (RightEnding history name after) (same_Some _ ending (rw hit at is)) (used (ltb-true _ _ hit))
      | inr miss ↦ elim (cases_Bool task_run.marked) [
        | inl marked ↦ subst (RightEnding history name after) (same_Some _ ending (rw (miss, marked) at is)) (lasting.mark marked)
        | inr unmarked ↦ let none = rw (miss, unmarked) at is in cc (none)
      ]
    ]

    well : EndedWell after now
    well = record {
      place = place;
      is_last = last ∙ sym same_length;
      last = open_closed now task_run.attempts place is_open;
      before = λ q o below ended. elim (ended_then q o ended) [
        | inl before ↦ (lasting.failing not_closed q o before).0
        | inr this ↦ absurd (omega (arith, this.0))
      ];
    }

    failed_ending : (o : Outcome) → now ≡ o → is_failure o ≡ true → (EndedFailing after o → RightEnding history name after (endings.Of o)) → (ending : Ending) → ending_after task_run o ≡ Some ending → RightEnding history name after ending
    failed_ending o is fails right ending closed =
        let fails_now : is_failure now ≡ true = ap is_failure is ∙ fails in
        after_failure fails_now ending (subst (λ (x : Outcome). ending_after task_run x ≡ Some ending) (sym is) closed)
        (λ used. subst (λ (x : Outcome). RightEnding history name after (endings.Of x)) (sym is) (right (subst (EndedFailing after) is (ends_failing fails_now used))))

    left : (o : Outcome) → ending_after task_run o ≡ None → length task_run.attempts ≤ task_run.spec.retries
    left o open_still = elim (cases_Bool (nat_lt task_run.spec.retries (length task_run.attempts))) [
      | inl hit ↦ let some = rw hit at open_still in cc (some)
      | inr miss ↦ ltb-false task_run.spec.retries (length task_run.attempts) miss
    ]

    right_ending : (o : Outcome) → now ≡ o → (ending : Ending) → ending_of_attempt task_run o ≡ Some ending → RightEnding history name after ending
    right_ending (outcomes.Succeeded results) is ending closed = subst (RightEnding history name after) (same_Some _ ending closed) (subst (EndedWell after) is well)
    right_ending outcomes.Cancelled is ending closed = subst (RightEnding history name after) (same_Some _ ending closed) (lasting.mark (cancelled is))
    right_ending (outcomes.Failed exit results) is ending closed = failed_ending (outcomes.Failed exit results) is refl (λ right. right) ending closed
    right_ending outcomes.TimedOut is ending closed = failed_ending outcomes.TimedOut is refl (λ right. right) ending closed
    right_ending outcomes.Lost is ending closed = failed_ending outcomes.Lost is refl (λ right. right) ending closed

    -- what stays open has failed, and has attempts left
    archived : (o : Outcome) → now ≡ o → ending_of_attempt task_run o ≡ None → (is_failure now ≡ true) × (length task_run.attempts ≤ task_run.spec.retries)
    archived (outcomes.Succeeded results) is open_still = cc
    archived outcomes.Cancelled is open_still = cc
    archived (outcomes.Failed exit results) is open_still = (ap is_failure is, left (outcomes.Failed exit results) open_still)
    archived outcomes.TimedOut is open_still = (ap is_failure is, left outcomes.TimedOut open_still)
    archived outcomes.Lost is open_still = (ap is_failure is, left outcomes.Lost open_still)

    pub attempt_lasts : LastingTaskRun history name after
    attempt_lasts = record {
      child = lasting.child;
      starts = lasting.starts;
      mark = lasting.mark;
      named = lasting.named;
      fit = lasting.fit;
      steps = lasting.steps;
      readable = lasting.readable;
      sized = lasting.sized;
      body = lasting.body;
      retries = lasting.retries;
      few = omega (arith, same_length, lasting.few);
      last_open = λ q o. absurd (none_open_closed now task_run.attempts q o);
      tried = λ some. lasting.tried (omega (arith, same_length));
      failing = λ open_still q o ended.
          let still = archived now refl open_still in
          elim (ended_then q o ended) [
            | inl before ↦ lasting.failing not_closed q o before
            | inr this ↦ (subst (λ (x : Outcome). is_failure x ≡ true) this.1 still.0, omega (arith, this.0, last, still.1))
          ];
      over = λ ending closed. none_open_closed now task_run.attempts;
      ending = λ ending closed. right_ending now refl ending closed;
      pods = λ q o ended. elim (ended_then q o ended) [
        | inl before ↦ lasting.pods q o before
        | inr this ↦ subst (λ (p : ℕ). HasEndedPod history (pod_name name (suc p)) o) (sym this.0) (subst (HasEndedPod history (pod_name name (suc place))) this.1 pod_ended)
      ];
    }

-- a TaskRun that is new
pub new_lasts : (history : List Entry) (name : List ℕ) (task_run : TaskRunState) → task_run.attempts ≡ [] → task_run.closed ≡ None → task_run.spec.name ≡ name → (task_run.spec.start ≡ Ready → IsTrue (fits task_run.spec.body task_run.binding.params)) → HasSteps task_run.spec.start task_run.spec.body → ReadsSteps task_run.spec.body → task_run.spec.retries ≤ most_retries → ((run_name : List ℕ) → task_run.run ≡ Some run_name → HasRetries history run_name task_run.task task_run.spec.retries) → ((run_name : List ℕ) → task_run.run ≡ Some run_name → HasBody history run_name task_run.task task_run.spec.body) → ((run_name : List ℕ) → task_run.run ≡ Some run_name → Has (run_of history run_name) (IsChildOf history name task_run.task task_run.index task_run.binding)) → ((run_name : List ℕ) → task_run.run ≡ Some run_name → task_run.spec.start ≡ Ready) → (task_run.marked ≡ true → MayBeMarked history name task_run) → LastingTaskRun history name task_run
new_lasts history name task_run none not_closed named fit steps readable sized retries body child starts mark = record {
  child = child;
  starts = starts;
  mark = mark;
  named = named;
  fit = fit;
  steps = steps;
  readable = readable;
  sized = sized;
  body = body;
  retries = retries;
  few = omega (arith, ap length none);
  last_open = λ place o. absurd (omega (arith, get_below task_run.attempts place o.attempt o.at, ap length none));
  tried = λ some. absurd (omega (arith, ap length none));
  failing = λ open_still place outcome ended. absurd (omega (arith, get_below task_run.attempts place ended.attempt ended.at, ap length none));
  over = λ ending closed. absurd (none_there task_run.closed not_closed (ending, closed));
  ending = λ ending closed. absurd (none_there task_run.closed not_closed (ending, closed));
  pods = λ place outcome ended. absurd (omega (arith, get_below task_run.attempts place ended.attempt ended.at, ap length none));
}

pub marked_lasts : (old new : List Entry) → Grows old new → (name : List ℕ) → HasMarked old name → HasMarked new name
marked_lasts old new grows name has =
    let later = grows.task_runs name has.it has.is in
    record { it = later.it; is = later.is; has = later.has.marked has.has }

-- the pod itself is as it was
pub lift_pod : (old new : List Entry) → Grows old new → (name : List ℕ) (pod : PodState) → LastingPod old name pod → LastingPod new name pod
lift_pod old new grows name pod lasting =
    let later = grows.task_runs pod.task_run lasting.attempt.it lasting.attempt.is in
    let owner = grows.task_runs pod.task_run lasting.whole.it lasting.whole.is in
    record {
      named = lasting.named;
      attempt = record { it = later.it; is = later.is; has = (lasting.attempt.has.0, lasting.attempt.has.1, omega (arith, lasting.attempt.has.2, later.has.longer)) };
      mark = λ marked. marked_lasts old new grows pod.task_run (lasting.mark marked);
      cancelled = λ ended. marked_lasts old new grows pod.task_run (lasting.cancelled ended);
      claimed_first = lasting.claimed_first;
      whole = record { it = owner.it; is = owner.is; has = lasting.whole.has ∙ ap (λ (s : TaskRunSpec). length s.body.spec.steps) (sym owner.has.spec) };
      steps = lasting.steps;
      orders = lasting.orders;
    }
