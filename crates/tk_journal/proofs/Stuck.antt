-- A legal history with something open can go on: by the first case that holds at its end.
use Rattle.std.proofs.Common.{◌≡◌, ◌≢◌, ℕ, zero, suc, ◌<◌, ◌≤◌, ◌+◌, List, [], ◌∷◌, length, Option, Some, None, Bool, true, false, ◌&&◌, ◌↔◌, refl, sym, ◌∙◌, ap, subst, arith, inl, inr, ◌⊎◌, Contains, All, AllPairs, filter, slice_get, nat_eq}
use Rattle.std.proofs.lemmas.Bool.{cases_Bool, cases_lt, eq-eqb, ne_eqb, leb-false}
use Rattle.std.proofs.lemmas.Option.{same_Some}
use Rattle.std.proofs.lemmas.List.Elements.{All-nil, All-cons, All-head, All-tail, All-weaker, All-contains, All-contains_itself, Contains-append_right, Contains-append_cases}
use Rattle.tk_types.specs.declared.run.Facts.{Facts}
use Rattle.tk_types.specs.declared.run.Child.{Child}
use Rattle.tk_types.specs.declared.run.Outcome.{Outcome}
use Rattle.tk_types.specs.declared.run.Start.{Start}
use Rattle.tk_types.specs.declared.run.Start.TheVariants.{Ready, Unstartable}
use Rattle.tk_types.specs.declared.run.Stop.{Stop}
use Rattle.tk_types.specs.declared.run.Stop.TheVariants as stops
use Rattle.tk_types.specs.declared.verdict.Binding.{Binding}
use Rattle.tk_types.specs.declared.verdict.Verdict.TheVariants as labels
use Rattle.tk_verdict.specs.WellFormed.{IsWellFormed}
use Rattle.tk_verdict.specs.Gives.{HasNoChildren, label_of}
use Rattle.tk_types.specs.Behaviour.{level_of}
use Rattle.tk_verdict.specs.Facts.{is_good}
use Rattle.tk_types.specs.declared.scenario.Kind.{Kind}
use Rattle.tk_types.specs.declared.scenario.Kind.TheVariants as kinds
use Rattle.tk_journal.specs.declared.entry.Actor.{Actor}
use Rattle.tk_journal.specs.declared.entry.Actor.TheVariants as actors
use Rattle.tk_types.specs.declared.object.Asked.{Asked}
use Rattle.tk_types.specs.declared.object.Asked.TheVariants as asks
use Rattle.tk_journal.specs.declared.act.Closing.TheVariants as closings
use Rattle.tk_journal.specs.declared.act.Act.{Act}
use Rattle.tk_journal.specs.declared.act.Act.TheVariants as acts
use Rattle.tk_journal.specs.declared.entry.Entry.{Entry}
use Rattle.tk_journal.specs.declared.object.RunState.{RunState}
use Rattle.tk_journal.specs.declared.object.Scheduled.{Scheduled}
use Rattle.tk_journal.specs.declared.object.TaskRunState.{TaskRunState}
use Rattle.tk_journal.specs.declared.object.Attempt.{Attempt}
use Rattle.tk_journal.specs.declared.object.Ending.{Ending}
use Rattle.tk_journal.specs.declared.object.Ending.TheVariants as endings
use Rattle.tk_journal.specs.declared.object.PodState.{PodState}
use Rattle.tk_journal.specs.declared.object.Claim.{Claim}
use Rattle.tk_journal.specs.declared.object.EndedPod.{EndedPod}
use Rattle.tk_journal.specs.Lists.{IsThere, Has}
use Rattle.tk_journal.specs.Effects.{name_of, kind_of, bindings_for, is_final, task_count, is_create}
use Rattle.tk_journal.specs.History.{View, past, run_of, task_run_of, pod_of, names_of, view_at, version_of, outcome_of, children_in, children_from}
use Rattle.tk_journal.specs.Stops.{asked_level, asked_stop, reach_level, IsReached}
use Rattle.tk_journal.specs.TaskRunRows.{IsOpenAttempt, NoneOpen}
use Rattle.tk_journal.specs.PodRows.{is_held_by, claims_for, is_unended}
use Rattle.tk_journal.specs.Rows.{IsJustified}
use Rattle.tk_journal.specs.RunRows.{AreChildrenClosed, HasBadChild, skips_of, MaySchedule, IsHighestAsked, HaltCause}
use Rattle.tk_journal.specs.Right.{Lasting, LastingRun, LastingTaskRun, facts_at}
use Rattle.tk_journal.specs.Legal.{IsLegal, Fits, IsCurrent, IsWritable}
use Rattle.tk_verdict.specs.Progress.{AllDone, IsFailing}
use Rattle.tk_journal.proofs.Planned.{planned}
use Rattle.tk_types.specs.declared.task.PipelineTask.{PipelineTask}
use Rattle.tk_verdict.specs.Condition.{results_of}
use Rattle.tk_journal.specs.Progress.{IsPartOfProgram, at_end, CanGoOn, HoldsPod, IsOpen}
use Rattle.tk_journal.proofs.Apart.{AreChildrenApart}
use Rattle.tk_journal.proofs.Basics.{none_there}
use Rattle.tk_journal.proofs.Past.{past_whole}
use Rattle.tk_journal.proofs.Attempts.{get_below}
use Rattle.tk_journal.proofs.WellFormed.{find_part, has_child}
use Rattle.tk_journal.proofs.RunLasts.{lasting_facts, never_asked}
use Rattle.tk_journal.proofs.Search.{Decided, search_list, search_pods, search_task_runs}
use Rattle.tk_journal.proofs.Induction.{lasting, none_wrong}
use Rattle.tk_journal.proofs.Labels.{decided, goes_on, ready_gives, ready_has_none, ready_not_late, ready_unstopped}
use Rattle.tk_journal.specs.Names.{child_name_of}
use Rattle.tk_names.specs.Children.{pod_name}

-- small decisions

pub get_there : {X : Type 0} (xs : List X) (place : ℕ) → place < length xs → IsThere (slice_get xs place)
get_there [] place below = absurd (omega arith)
get_there (x ∷ xs) zero below = (x, refl)
get_there (x ∷ xs) (suc place) below = get_there xs place (omega arith)

there_or_none : {X : Type 0} (o : Option X) → IsThere o ⊎ (o ≡ None)
there_or_none None = inr refl
there_or_none (Some x) = inl (x, refl)

decide_below : (P : ℕ → Type 0) → ((i : ℕ) → Decided (P i)) → (n : ℕ) → ((i : ℕ) × (i < n) × P i) ⊎ ((i : ℕ) → i < n → P i → ⊥)
decide_below P decide zero = inr (λ i below p. omega arith)
decide_below P decide (suc n) = elim (decide n) [
  | inl here ↦ inl (n, omega arith, here)
  | inr not_here ↦ elim (decide_below P decide n) [
    | inl found ↦ inl (found.0, omega (arith, found.1), found.2)
    | inr nowhere ↦ inr (λ i below p. by_order P n not_here nowhere i below p (cases_lt i n))
  ]
]
  where
    by_order : (Q : ℕ → Type 0) (m : ℕ) → (Q m → ⊥) → ((j : ℕ) → j < m → Q j → ⊥) → (i : ℕ) → i < suc m → Q i → (i < m) ⊎ (m ≤ i) → ⊥
    by_order Q m last rest i below q (inl less) = rest i less q
    by_order Q m last rest i below q (inr more) = let same : i ≡ m = omega arith in last (subst Q same q)

open_at : (attempts : List Attempt) (place : ℕ) → Decided (IsOpenAttempt attempts place)
open_at attempts place = elim (there_or_none (slice_get attempts place)) [
  | inl there ↦ elim (there_or_none there.0.outcome) [
    | inl ended ↦ inr (λ o. let same : there.0 ≡ o.attempt = same_Some there.0 o.attempt (sym there.1 ∙ o.at) in none_there there.0.outcome (ap (λ (a : Attempt). a.outcome) same ∙ o.no_outcome) ended)
    | inr none ↦ inl (record { attempt = there.0; at = there.1; no_outcome = none })
  ]
  | inr none ↦ inr (λ o. let at = o.at in cc (none, at))
]

ready_or_not : (start : Start) → (start ≡ Ready) ⊎ (start ≢ Ready)
ready_or_not Ready = inl refl
ready_or_not (Unstartable reason) = inr (λ is. cc)

-- the word that asks for most, or none asks for a stop
most_asked : (asked : List Asked) → All (λ a. asked_level a ≡ 0) asked ⊎ ((status : Asked) × Contains asked status × (0 < asked_level status) × All (λ a. asked_level a ≤ asked_level status) asked)
most_asked [] = inl (All-nil (λ a. asked_level a ≡ 0))
most_asked (a ∷ asked) = elim (most_asked asked) [
  | inl none ↦ elim (cases_lt 0 (asked_level a)) [
    | inl some ↦ inr (a, (0, omega arith, refl), some, All-cons (λ b. asked_level b ≤ asked_level a) a asked (omega arith) (All-weaker (λ b. asked_level b ≡ 0) (λ b. asked_level b ≤ asked_level a) (λ b is. omega arith) asked none))
    | inr zero_level ↦ inl (All-cons (λ b. asked_level b ≡ 0) a asked (omega arith) none)
  ]
  | inr most ↦ elim (cases_lt (asked_level most.0) (asked_level a)) [
    | inl more ↦ inr (a, (0, omega arith, refl), omega (arith, most.2), All-cons (λ b. asked_level b ≤ asked_level a) a asked (omega arith) (All-weaker (λ b. asked_level b ≤ asked_level most.0) (λ b. asked_level b ≤ asked_level a) (λ b is. omega arith) asked most.3))
    | inr less ↦ inr (most.0, Contains-append_right (a ∷ []) asked most.0 most.1, most.2, All-cons (λ b. asked_level b ≤ asked_level most.0) a asked less most.3)
  ]
]

-- the stop that it asks for has its level
stop_of : (status : Asked) → 0 < asked_level status → status ≢ asks.TaskRunCancelled → (stop : Stop) × (asked_stop status ≡ Some stop) × (level_of stop ≡ asked_level status)
stop_of asks.Start some word = absurd (omega arith)
stop_of asks.StoppedRunFinally some word = (stops.StoppedRunFinally, refl, refl)
stop_of asks.CancelledRunFinally some word = (stops.CancelledRunFinally, refl, refl)
stop_of asks.Cancelled some word = (stops.Cancelled, refl, refl)
stop_of asks.TaskRunCancelled some word = absurd (word refl)

-- some recorded stop is as high, or the level is above all
above_all : (bound : ℕ) (recorded : List Stop) → ((stop : Stop) × Contains recorded stop × (bound ≤ level_of stop)) ⊎ All (λ s. level_of s < bound) recorded
above_all bound [] = inr (All-nil (λ s. level_of s < bound))
above_all bound (s ∷ recorded) = elim (cases_lt (level_of s) bound) [
  | inr high ↦ inl (s, (0, omega arith, refl), high)
  | inl low ↦ elim (above_all bound recorded) [
    | inl found ↦ inl (found.0, Contains-append_right (s ∷ []) recorded found.0 found.1, found.2)
    | inr below ↦ inr (All-cons (λ t. level_of t < bound) s recorded low below)
  ]
]

decide_reached : (run : RunState) (task : ℕ) → Decided (IsReached run task)
decide_reached run task = elim (above_all (reach_level run.spec task) run.stops) [
  | inl found ↦ inl found
  | inr below ↦ inr (λ reached. omega (arith, reached.2, All-contains (λ s. level_of s < reach_level run.spec task) run.stops reached.0 below reached.1))
]

filter_nothing : {X : Type 0} (test : X → Bool) (xs : List X) → ((x : X) → test x ≡ false) → length (filter test xs) ≡ 0
filter_nothing test [] none = refl
filter_nothing test (x ∷ xs) none = rw (none x) (filter_nothing test xs none)

-- a scheduled part is what the run has for its task
pub bindings_of_part : (scheduled : List Scheduled) (part : Scheduled) → AllPairs (λ (a b : Scheduled). a.task ≢ b.task) scheduled → Contains scheduled part → bindings_for part.task scheduled ≡ part.bindings
bindings_of_part [] part once has = absurd (omega (arith, has.1))
bindings_of_part (s ∷ ss) part once (zero, below, is) = rw (eq-eqb s.task part.task (ap (λ (p : Scheduled). p.task) is)) (ap (λ (p : Scheduled). p.bindings) is)
bindings_of_part (s ∷ ss) part once (suc k, below, is) =
    let differ : s.task ≢ part.task = λ same. once 0 (suc k) part (omega arith) (omega arith) (same ∙ ap (λ (p : Scheduled). p.task) (sym is)) in
    rw (ne_eqb s.task part.task differ) (bindings_of_part ss part (λ i j d less within. once (suc i) (suc j) d (omega arith) (omega arith)) (k, omega arith, is))

no_bindings : (scheduled : List Scheduled) (task : ℕ) → All (λ (s : Scheduled). s.task ≢ task) scheduled → bindings_for task scheduled ≡ []
no_bindings [] task others = refl
no_bindings (s ∷ ss) task others = rw (ne_eqb s.task task (All-head (λ (a : Scheduled). a.task ≢ task) s ss others)) (no_bindings ss task (All-tail (λ (a : Scheduled). a.task ≢ task) s ss others))

-- where a child of facts comes from
child_in : (f : ℕ → Option Outcome) (task first : ℕ) (bindings : List Binding) (child : Child) → Contains (children_from f task first bindings) child → (index : ℕ) × (index < first + length bindings) × (first ≤ index) × (child.task ≡ task) × (child.outcome ≡ f index)
child_in f task first [] child has = absurd (omega (arith, has.1))
child_in f task first (b ∷ bs) child (zero, below, is) = (first, omega arith, omega arith, ap (λ (c : Child). c.task) (sym is), ap (λ (c : Child). c.outcome) (sym is))
child_in f task first (b ∷ bs) child (suc k, below, is) =
    let from = child_in f task (suc first) bs child (k, omega arith, is) in
    (from.0, omega (arith, from.1), omega (arith, from.2), from.3, from.4)

child_of : (f : ℕ → ℕ → Option Outcome) (scheduled : List Scheduled) (child : Child) → Contains (children_in f scheduled) child → (part : Scheduled) × Contains scheduled part × ((index : ℕ) × (index < length part.bindings) × (child.task ≡ part.task) × (child.outcome ≡ f part.task index))
child_of f [] child has = absurd (omega (arith, has.1))
child_of f (s ∷ ss) child has = elim (Contains-append_cases (children_from (f s.task) s.task 0 s.bindings) (children_in f ss) child has) [
  | inl own ↦ let from = child_in (f s.task) s.task 0 s.bindings child own in (s, (0, omega arith, refl), (from.0, omega (arith, from.1), from.3, from.4))
  | inr other ↦ let from = child_of f ss child other in (from.0, Contains-append_right (s ∷ []) ss from.0 from.1, from.2)
]

module _ (history : List Entry) (legal : IsLegal history) (number life moment : ℕ) where
  last : Lasting history
  last = lasting history legal

  -- all of it
  abbrev whole : View
  whole = record { run = run_of history; task_run = task_run_of history; pod = pod_of history; runs = names_of kinds.Runs history; task_runs = names_of kinds.TaskRuns history; pods = names_of kinds.Pods history }

  all_past : past (length history) history ≡ history
  all_past = past_whole (length history) history (omega arith)

  sees_whole : whole ≡ view_at (at_end history) history
  sees_whole = ap (λ (h : List Entry). record { run = run_of h; task_run = task_run_of h; pod = pod_of h; runs = names_of kinds.Runs h; task_runs = names_of kinds.TaskRuns h; pods = names_of kinds.Pods h }) (sym all_past)

  current : (kind : Kind) (name : List ℕ) → IsCurrent kind name (at_end history) history
  current kinds.Runs name = ap (version_of kinds.Runs name) all_past
  current kinds.TaskRuns name = ap (version_of kinds.TaskRuns name) all_past
  current kinds.Pods name = ap (version_of kinds.Pods name) all_past

  can : (actor : Actor) (act : Act) → IsPartOfProgram number life actor → IsJustified whole actor moment act → Fits history (record { actor = actor; fronts = at_end history; moment = moment; act = act }) act → IsWritable (is_create act) (kind_of act) (name_of act) (at_end history) history → CanGoOn history number life moment
  can actor act by justified fits writable = record {
    entry = record { actor = actor; fronts = at_end history; moment = moment; act = act };
    by_program = by;
    now = refl;
    sees_all = refl;
    step = record {
      runs_front = omega arith;
      task_runs_front = omega arith;
      pods_front = omega arith;
      fits = fits;
      justified = subst (λ (v : View). IsJustified v actor moment act) sees_whole justified;
      writable = writable;
    };
  }

  -- a pod that hasn't ended is claimed, or can be
  claim : ((name : List ℕ) (pod : PodState) → pod_of history name ≡ Some pod → IsThere pod.claim × (pod.ended ≡ None) → ⊥) → (name : List ℕ) (pod : PodState) → pod_of history name ≡ Some pod → pod.ended ≡ None → CanGoOn history number life moment
  claim unheld name pod there unended = can (actors.Kubelet number life) (acts.ClaimPod name) (refl, refl)
      (record {
        it = pod;
        is = there;
        has = record { unclaimed = unclaimed (there_or_none pod.claim); number = number; life = life; by = refl; room = omega (arith, filter_nothing (λ n. is_held_by number (pod_of history n)) (names_of kinds.Pods history) (λ n. none_held n (pod_of history n) refl)) };
      }) tt (current kinds.Pods name)
    where
      unclaimed : IsThere pod.claim ⊎ (pod.claim ≡ None) → pod.claim ≡ None
      unclaimed (inl claimed) = absurd (unheld name pod there (claimed, unended))
      unclaimed (inr none) = none

      held : (p : PodState) → (c : Option Claim) (e : Option EndedPod) → p.claim ≡ c → p.ended ≡ e → (IsThere p.claim × (p.ended ≡ None) → ⊥) → (claims_for number c && is_unended e) ≡ false
      held p None e claimed ended not_held = refl
      held p (Some c) None claimed ended not_held = absurd (not_held ((c, claimed), ended))
      held p (Some c) (Some e) claimed ended not_held = both (nat_eq c.number number)
        where
          both : (b : Bool) → (b && false) ≡ false
          both true = refl
          both false = refl

      none_held : (n : List ℕ) (o : Option PodState) → pod_of history n ≡ o → is_held_by number o ≡ false
      none_held n None at = refl
      none_held n (Some p) at = held p p.claim p.ended refl refl (unheld n p at)

  -- once all pods have ended, an open attempt goes on
  go_attempt : ((name : List ℕ) (pod : PodState) → pod_of history name ≡ Some pod → pod.ended ≡ None → ⊥) → (name : List ℕ) (task_run : TaskRunState) → task_run_of history name ≡ Some task_run → (place : ℕ) → IsOpenAttempt task_run.attempts place → CanGoOn history number life moment
  go_attempt all_ended name task_run there place is_open = by_pod (pod_of history (pod_name name (suc place))) refl
    where
      tr : LastingTaskRun history name task_run
      tr = last.task_runs name task_run there

      not_closed : (o : Option Ending) → task_run.closed ≡ o → task_run.closed ≡ None
      not_closed None is = is
      not_closed (Some ending) is = absurd (tr.over ending is place is_open)

      by_end : (pod : PodState) → pod_of history (pod_name name (suc place)) ≡ Some pod → (e : Option EndedPod) → pod.ended ≡ e → CanGoOn history number life moment
      by_end pod at None unended = absurd (all_ended (pod_name name (suc place)) pod at unended)
      by_end pod at (Some ended) is = can (actors.Tasks 0) (acts.Close name (closings.Attempt ended.outcome)) tt
          (tt, record { it = task_run; is = there; has = record { not_closed = not_closed task_run.closed refl; place = place; is_open = is_open; pod_ended = record { it = pod; is = at; has = record { it = ended; is = is; has = refl } } } })
          tt (current kinds.TaskRuns name)

      by_pod : (o : Option PodState) → pod_of history (pod_name name (suc place)) ≡ o → CanGoOn history number life moment
      by_pod (Some pod) at = by_end pod at pod.ended refl
      by_pod None at =
          let ready : task_run.spec.start ≡ Ready = tr.tried (omega (arith, tr.last_open place is_open)) in
          let plan = planned task_run (suc place) (tr.fit ready) in
          can (actors.Tasks 0) (acts.MakePod (pod_name name (suc place)) name (suc place) plan.0 task_run.marked) tt
          (tt, record { it = task_run; is = there; has = record { place = place; number = refl; is_open = is_open; named = refl; planned = plan.1; marked = refl } }, at)
          tt at

  -- once no attempt is open, an open TaskRun goes on
  go_task_run : (name : List ℕ) (task_run : TaskRunState) → task_run_of history name ≡ Some task_run → NoneOpen task_run.attempts → task_run.closed ≡ None → CanGoOn history number life moment
  go_task_run name task_run there none_open not_closed = elim (cases_Bool task_run.marked) [
    | inl marked ↦ close (inl marked)
    | inr unmarked ↦ elim (ready_or_not task_run.spec.start) [
      | inr unstartable ↦ close (inr unstartable)
      | inl ready ↦ can (actors.Tasks 0) (acts.OpenAttempt name) tt
          (tt, record { it = task_run; is = there; has = record { startable = ready; not_closed = not_closed; not_marked = unmarked; none_open = none_open; more = more (cases_lt task_run.spec.retries (length task_run.attempts)) } })
          tt (current kinds.TaskRuns name)
    ]
  ]
    where
      tr : LastingTaskRun history name task_run
      tr = last.task_runs name task_run there

      close : (task_run.marked ≡ true) ⊎ (task_run.spec.start ≢ Ready) → CanGoOn history number life moment
      close over = can (actors.Tasks 0) (acts.Close name closings.TaskRun) tt (tt, record { it = task_run; is = there; has = record { not_closed = not_closed; none_open = none_open; over = over } }) tt (current kinds.TaskRuns name)

      -- each attempt failed, and they are at most as many as its retries
      more : (task_run.spec.retries < length task_run.attempts) ⊎ (length task_run.attempts ≤ task_run.spec.retries) → length task_run.attempts ≤ task_run.spec.retries
      more (inr few) = few
      more (inl many) =
          let at = get_there task_run.attempts task_run.spec.retries many in
          absurd (by_outcome at.0 at.1 (there_or_none at.0.outcome))
        where
          by_outcome : (a : Attempt) → slice_get task_run.attempts task_run.spec.retries ≡ Some a → IsThere a.outcome ⊎ (a.outcome ≡ None) → ⊥
          by_outcome a at (inr none) = none_open task_run.spec.retries (record { attempt = a; at = at; no_outcome = none })
          by_outcome a at (inl ended) = let failed = tr.failing not_closed task_run.spec.retries ended.0 (record { attempt = a; at = at; ended = ended.1 }) in omega (arith, failed.1)

  -- once all TaskRuns are closed, an open run goes on
  module _ (closed : (name : List ℕ) (task_run : TaskRunState) → task_run_of history name ≡ Some task_run → IsThere task_run.closed)
      (name : List ℕ) (run : RunState) (there : run_of history name ≡ Some run) (not_closed : run.closed ≡ None) (not_pending : run.pending ≡ false) where
    of_run : LastingRun history name run
    of_run = last.runs name run there

    abbrev facts : Facts
    facts = facts_at history run

    formed : IsWellFormed facts
    formed = lasting_facts history name run (task_run_of history) of_run

    go_unstartable : run.spec.start ≢ Ready → CanGoOn history number life moment
    go_unstartable unstartable =
        let condition = decided facts (inl unstartable) in
        can (actors.Runs 0) (acts.Close name (closings.Run condition.0 (skips_of facts) (results_of facts))) tt
        (tt, record { it = run; is = there; has = record { not_closed = not_closed; not_pending = not_pending; over = inl unstartable; is_closing = record { condition = condition.0; decided = condition.1; same = refl } } })
        tt (current kinds.Runs name)

    go_start : run.start ≡ None → run.spec.start ≡ Ready → CanGoOn history number life moment
    go_start not_started ready = can (actors.Runs 0) (acts.Start name) tt
        (tt, record { it = run; is = there; has = record { startable = ready; not_pending = not_pending; not_started = not_started; not_closed = not_closed } }) tt (current kinds.Runs name)

    go_child : (part : Scheduled) → Contains run.scheduled part → (index : ℕ) → index < length part.bindings → task_run_of history (child_name_of run.spec part.task index) ≡ None → CanGoOn history number life moment
    go_child part has index below absent = by_mark (decide_reached run part.task)
      where
        refers : IsThere (slice_get (bindings_for part.task run.scheduled) index)
        refers = rw (bindings_of_part run.scheduled part of_run.once has) (get_there part.bindings index below)

        make : (mark : Bool) → ((mark ≡ true) ↔ IsReached run part.task) → CanGoOn history number life moment
        make mark marked = can (actors.Runs 0) (acts.MakeTaskRun (child_name_of run.spec part.task index) name part.task index mark) tt
            (tt, record { it = run; is = there; has = record { child = refers; not_closed = not_closed; named = refl; absent = absent; marked = marked } }) tt absent

        by_mark : Decided (IsReached run part.task) → CanGoOn history number life moment
        by_mark (inl reached) = make true (λ is. reached, λ r. refl)
        by_mark (inr not_reached) = make false (λ is. cc (is), λ r. absurd (not_reached r))

    module _ (started : IsThere run.start) (made : AreChildrenClosed (task_run_of history) run) where
      go_halt : (status : Asked) → Contains run.asked status → 0 < asked_level status → All (λ a. asked_level a ≤ asked_level status) run.asked → All (λ s. level_of s < asked_level status) run.stops → CanGoOn history number life moment
      go_halt status has some highest above =
          let stop = stop_of status some (of_run.words status has) in
          halt stop.0 (record { status = status; asked = has; same = stop.1; highest = All-weaker (λ a. asked_level a ≤ asked_level status) (λ a. asked_level a ≤ level_of stop.0) (λ a le. omega (arith, stop.2)) run.asked highest })
          (All-weaker (λ s. level_of s < asked_level status) (λ s. level_of s < level_of stop.0) (λ s less. omega (arith, stop.2)) run.stops above)
        where
          cause_of : (s : Stop) → IsHighestAsked run s → HaltCause whole moment run s
          cause_of stops.StoppedRunFinally cause = cause
          cause_of stops.CancelledRunFinally cause = cause
          cause_of stops.Cancelled cause = cause
          cause_of stops.Failure cause = absurd (never_asked cause.status stops.Failure cause.same tt)
          cause_of stops.TasksTimeout cause = absurd (never_asked cause.status stops.TasksTimeout cause.same tt)
          cause_of stops.FinallyTimeout cause = absurd (never_asked cause.status stops.FinallyTimeout cause.same tt)
          cause_of stops.PipelineTimeout cause = absurd (never_asked cause.status stops.PipelineTimeout cause.same tt)

          halt : (s : Stop) → IsHighestAsked run s → All (λ t. level_of t < level_of s) run.stops → CanGoOn history number life moment
          halt s cause over = can (actors.Runs 0) (acts.Halt name s) tt (tt, record { it = run; is = there; has = record { started = started; not_closed = not_closed; above = over; cause = cause_of s cause } }) tt (current kinds.Runs name)

      -- each asked level is at most a recorded one
      abbrev AreRecorded : Type 0
      AreRecorded = (status : Asked) → Contains run.asked status → 0 < asked_level status → (stop : Stop) × Contains run.stops stop × (asked_level status ≤ level_of stop)

      asked_first : CanGoOn history number life moment ⊎ AreRecorded
      asked_first = elim (most_asked run.asked) [
        | inl none ↦ inr (λ status has some. absurd (omega (arith, All-contains (λ a. asked_level a ≡ 0) run.asked status none has)))
        | inr most ↦ elim (above_all (asked_level most.0) run.stops) [
          | inr above ↦ inl (go_halt most.0 most.1 most.2 most.3 above)
          | inl found ↦ inr (λ status has some. (found.0, found.1, omega (arith, found.2, All-contains (λ a. asked_level a ≤ asked_level most.0) run.asked status most.3 has)))
        ]
      ]

      module _ (apart : AreChildrenApart history) (recorded : AreRecorded) where
        startable : run.spec.start ≡ Ready
        startable = of_run.startable started

        -- each child has an outcome
        ended : All (λ (child : Child). IsThere child.outcome) facts.children
        ended = All-weaker (Contains facts.children) (λ (child : Child). IsThere child.outcome) (λ child has. outcome child has) facts.children (All-contains_itself facts.children)
          where
            of_ending : (task_run : TaskRunState) → (n : List ℕ) → task_run_of history n ≡ Some task_run → IsThere task_run.run → (ending : Ending) → task_run.closed ≡ Some ending → IsThere (outcome_of (Some task_run))
            of_ending task_run n at child (endings.Of o) is = (o, rw is refl)
            of_ending task_run n at child (endings.Unstartable reason) is =
                let tr = last.task_runs n task_run at in
                let starts : task_run.spec.start ≡ Ready = tr.starts child.0 child.1 in
                let not : task_run.spec.start ≡ Unstartable reason = tr.ending (endings.Unstartable reason) is in
                cc (starts, not)

            outcome : (child : Child) → Contains facts.children child → IsThere child.outcome
            outcome child has =
                let from = child_of (λ task index. outcome_of (task_run_of history (child_name_of run.spec task index))) run.scheduled child has in
                let at = made from.0 from.1 from.2.0 from.2.1 in
                let is_child = apart name run there from.0 from.1 from.2.0 from.2.1 at.it at.is in
                subst IsThere (sym (from.2.3 ∙ ap outcome_of at.is)) (of_ending at.it (child_name_of run.spec from.0.task from.2.0) at.is is_child at.has.0 at.has.1)

        go_close : AllDone facts → CanGoOn history number life moment
        go_close done =
            let condition = decided facts (inr done) in
            can (actors.Runs 0) (acts.Close name (closings.Run condition.0 (skips_of facts) (results_of facts))) tt (
              tt,
              record {
                it = run;
                is = there;
                has = record {
                  not_closed = not_closed;
                  not_pending = not_pending;
                  over = inr (record { startable = startable; started = started; children = made; tasks = done; asked = recorded });
                  is_closing = record { condition = condition.0; decided = condition.1; same = refl };
                };
              },
            )
            tt (current kinds.Runs name)

        -- nothing is asked where nothing is recorded below a bound
        asked_below : (bound : ℕ) → 0 < bound → All (λ s. level_of s < bound) run.stops → All (λ a. asked_level a < bound) run.asked
        asked_below bound some low = All-weaker (Contains run.asked) (λ a. asked_level a < bound) (λ a has. by_level a has (cases_lt 0 (asked_level a))) run.asked (All-contains_itself run.asked)
          where
            by_level : (a : Asked) → Contains run.asked a → (0 < asked_level a) ⊎ (asked_level a ≤ 0) → asked_level a < bound
            by_level a has (inr nothing) = omega arith
            by_level a has (inl more) = let stop = recorded a has more in omega (arith, stop.2, All-contains (λ s. level_of s < bound) run.stops stop.0 low stop.1)

        go_failure : run.stops ≡ [] → HasBadChild whole run → (task : ℕ) → task < length run.spec.tasks → HasNoChildren facts task → CanGoOn history number life moment
        go_failure none bad task within without = can (actors.Runs 0) (acts.Halt name stops.Failure) tt (
          tt,
          record {
            it = run;
            is = there;
            has = record {
              started = started;
              not_closed = not_closed;
              above = rw none (All-nil (λ s. level_of s < 1));
              cause = (none, bad, (task, within, no_bindings_of (find_part run.scheduled task)));
            };
          },
        ) tt (current kinds.Runs name)
          where
            no_bindings_of : ((part : Scheduled) × Contains run.scheduled part × (part.task ≡ task)) ⊎ All (λ (s : Scheduled). s.task ≢ task) run.scheduled → bindings_for task run.scheduled ≡ []
            no_bindings_of (inr others) = no_bindings run.scheduled task others
            no_bindings_of (inl found) = absurd (has_child (λ t index. outcome_of (task_run_of history (child_name_of run.spec t index))) run.scheduled found.0 of_run.once found.1 (of_run.exist found.0 found.1).0
                (subst (λ (t : ℕ). HasNoChildren facts t) (sym found.2) without))

        failing : IsFailing facts → CanGoOn history number life moment
        failing is = go_failure is.no_stop bad is.idle.place is.idle.within is.idle.idle
          where
            bad : HasBadChild whole run
            bad =
                let from = child_of (λ task index. outcome_of (task_run_of history (child_name_of run.spec task index))) run.scheduled is.bad.child is.bad.among in
                record {
                  part = from.0;
                  scheduled_part = from.1;
                  index = from.2.0;
                  within = from.2.1;
                  task = is.bad.task;
                  of_tasks = ap (slice_get run.spec.tasks) (sym from.2.2) ∙ is.bad.of_tasks;
                  outcome = is.bad.outcome;
                  ended = sym from.2.3 ∙ is.bad.ended;
                  bad = is.bad.bad;
                }

        -- a bad child, or there is none
        BadAt : Scheduled → ℕ → Type 0
        BadAt part index = (t : PipelineTask) × (slice_get run.spec.tasks part.task ≡ Some t) × ((o : Outcome) × (outcome_of (task_run_of history (child_name_of run.spec part.task index)) ≡ Some o) × (is_good t o ≡ false))

        decide_bad_at : (part : Scheduled) (index : ℕ) → Decided (BadAt part index)
        unfolding BadAt
        decide_bad_at part index = elim (there_or_none (slice_get run.spec.tasks part.task)) [
          | inr final ↦ inr (λ bad. let is = bad.1 in cc (final, is))
          | inl task ↦ elim (there_or_none (outcome_of (task_run_of history (child_name_of run.spec part.task index)))) [
            | inr none ↦ inr (λ bad. let is = bad.2.1 in cc (none, is))
            | inl ended ↦ elim (cases_Bool (is_good task.0 ended.0)) [
              | inr bad ↦ inl (task.0, task.1, (ended.0, ended.1, bad))
              | inl good ↦ inr (λ bad.
                  let same : ended.0 ≡ bad.2.0 = same_Some ended.0 bad.2.0 (sym ended.1 ∙ bad.2.1) in
                  let same_task : task.0 ≡ bad.0 = same_Some task.0 bad.0 (sym task.1 ∙ bad.1) in
                  let now : is_good task.0 ended.0 ≡ false = (λ i. is_good (same_task i) (same i)) ∙ bad.2.2 in
                  cc (good, now))
            ]
          ]
        ]

        decide_bad : Decided (HasBadChild whole run)
        unfolding BadAt
        decide_bad = elim (search_list (λ (part : Scheduled). (index : ℕ) × (index < length part.bindings) × BadAt part index) (λ part. by_part part (decide_below (BadAt part) (decide_bad_at part) (length part.bindings))) run.scheduled) [
          | inl found ↦ inl (record { part = found.0; scheduled_part = found.1; index = found.2.0; within = found.2.1; task = found.2.2.0; of_tasks = found.2.2.1; outcome = found.2.2.2.0; ended = found.2.2.2.1; bad = found.2.2.2.2 })
          | inr nowhere ↦ inr (λ bad. nowhere bad.part bad.scheduled_part (bad.index, bad.within, (bad.task, bad.of_tasks, (bad.outcome, bad.ended, bad.bad))))
        ]
          where
            by_part : (part : Scheduled) → ((i : ℕ) × (i < length part.bindings) × BadAt part i) ⊎ ((i : ℕ) → i < length part.bindings → BadAt part i → ⊥) → Decided ((index : ℕ) × (index < length part.bindings) × BadAt part index)
            by_part part (inl found) = inl found
            by_part part (inr nowhere) = inr (λ bad. nowhere bad.0 bad.1 bad.2)

        go_ready : (task : ℕ) → task < task_count run.spec → label_of facts task ≡ labels.Ready → CanGoOn history number life moment
        go_ready task within is_ready = by_part (is_final run.spec task) refl
          where
            schedule : MaySchedule (is_final run.spec task) whole run → CanGoOn history number life moment
            schedule may =
                let gives = ready_gives facts task formed is_ready in
                can (actors.Runs 0) (acts.Schedule name task gives.0) tt
                (tt, record { it = run; is = there; has = record { started = started; not_closed = not_closed; own_bindings = gives.1; may = may } }) tt (current kinds.Runs name)

            by_part : (b : Bool) → is_final run.spec task ≡ b → CanGoOn history number life moment
            by_part true final =
                let low = ready_not_late facts task is_ready in
                schedule (rw final (low, asked_below 3 (omega arith) low))
            by_part false of_tasks =
                let none : run.stops ≡ [] = ready_unstopped facts task (leb-false (length run.spec.tasks) task of_tasks) is_ready in
                let asked : All (λ a. asked_level a ≡ 0) run.asked = All-weaker (λ a. asked_level a < 1) (λ a. asked_level a ≡ 0) (λ a less. omega arith) run.asked (asked_below 1 (omega arith) (rw none (All-nil (λ s. level_of s < 1)))) in
                elim decide_bad [
                  | inl bad ↦ go_failure none bad task (leb-false (length run.spec.tasks) task of_tasks) (ready_has_none facts task is_ready)
                  | inr no_bad ↦ schedule (rw of_tasks (none, asked, no_bad))
                ]

        go_on : CanGoOn history number life moment
        go_on = elim (goes_on facts formed ended (none_wrong history name run of_run)) [
          | inl done ↦ go_close done
          | inr more ↦ elim more [ inl ready ↦ go_ready ready.place ready.within ready.ready | inr fails ↦ failing fails ]
        ]

  -- the cases in order
  module _ (apart : AreChildrenApart history) where
    for_run : ((name : List ℕ) (task_run : TaskRunState) → task_run_of history name ≡ Some task_run → IsThere task_run.closed) → (name : List ℕ) (run : RunState) → run_of history name ≡ Some run → run.closed ≡ None → run.pending ≡ false → CanGoOn history number life moment
    for_run closed name run there not_closed not_pending = by_start (there_or_none run.start)
      where
        made_or_missing : (part : Scheduled) → Decided ((index : ℕ) × (index < length part.bindings) × (task_run_of history (child_name_of run.spec part.task index) ≡ None))
        made_or_missing part = elim (decide_below (λ index. task_run_of history (child_name_of run.spec part.task index) ≡ None) (λ index. missing (there_or_none (task_run_of history (child_name_of run.spec part.task index)))) (length part.bindings)) [
          | inl found ↦ inl found
          | inr nowhere ↦ inr (λ found. nowhere found.0 found.1 found.2)
        ]
          where
            missing : {X : Type 0} {o : Option X} → IsThere o ⊎ (o ≡ None) → Decided (o ≡ None)
            missing (inl there) = inr (λ none. let is = there.1 in cc (none, is))
            missing (inr none) = inl none

        by_start : IsThere run.start ⊎ (run.start ≡ None) → CanGoOn history number life moment
        by_start (inr none) = elim (ready_or_not run.spec.start) [
          | inl ready ↦ go_start closed name run there not_closed not_pending none ready
          | inr unstartable ↦ go_unstartable closed name run there not_closed not_pending unstartable
        ]
        by_start (inl started) = elim (search_list (λ (part : Scheduled). (index : ℕ) × (index < length part.bindings) × (task_run_of history (child_name_of run.spec part.task index) ≡ None)) made_or_missing run.scheduled) [
          | inl found ↦ go_child closed name run there not_closed not_pending found.0 found.1 found.2.0 found.2.1 found.2.2
          | inr nowhere ↦
              let made : AreChildrenClosed (task_run_of history) run = λ part has index below. closed_there (child_name_of run.spec part.task index) (there_or_none (task_run_of history (child_name_of run.spec part.task index))) (λ none. nowhere part has (index, below, none)) in
              elim (asked_first closed name run there not_closed not_pending started made) [
                | inl goes ↦ goes
                | inr recorded ↦ go_on closed name run there not_closed not_pending started made apart recorded
              ]
        ]
          where
            closed_there : (n : List ℕ) → IsThere (task_run_of history n) ⊎ (task_run_of history n ≡ None) → (task_run_of history n ≡ None → ⊥) → Has (task_run_of history n) (λ (task_run : TaskRunState). IsThere task_run.closed)
            closed_there n (inl found) never = record { it = found.0; is = found.1; has = closed n found.0 found.1 }
            closed_there n (inr none) never = absurd (never none)

    pub never_stuck : IsOpen history → CanGoOn history number life moment ⊎ HoldsPod history
    never_stuck is_open = elim (search_pods history (λ name pod. IsThere pod.claim × (pod.ended ≡ None)) (λ name pod. held pod (there_or_none pod.claim) (there_or_none pod.ended))) [
      | inl found ↦ inr (record { name = found.0; held = found.1 })
      | inr unheld ↦ inl (elim (search_pods history (λ name pod. pod.ended ≡ None) (λ name pod. unended pod (there_or_none pod.ended))) [
        | inl found ↦ claim unheld found.0 found.1.it found.1.is found.1.has
        | inr all_ended ↦ elim (search_task_runs history (λ name task_run. (place : ℕ) × (place < length task_run.attempts) × IsOpenAttempt task_run.attempts place) (λ name task_run. open_among task_run)) [
          | inl found ↦ go_attempt all_ended found.0 found.1.it found.1.is found.1.has.0 found.1.has.2
          | inr none_open ↦ elim (search_task_runs history (λ name task_run. task_run.closed ≡ None) (λ name task_run. not_closed task_run (there_or_none task_run.closed))) [
            | inl found ↦ go_task_run found.0 found.1.it found.1.is (λ place o. none_open found.0 found.1.it found.1.is (place, get_below found.1.it.attempts place o.attempt o.at, o)) found.1.has
            | inr all_closed ↦ of_open is_open (λ name task_run there. closed_of task_run (there_or_none task_run.closed) (all_closed name task_run there))
          ]
        ]
      ])
    ]
      where
        held : (pod : PodState) → IsThere pod.claim ⊎ (pod.claim ≡ None) → IsThere pod.ended ⊎ (pod.ended ≡ None) → Decided (IsThere pod.claim × (pod.ended ≡ None))
        held pod (inl claimed) (inr unended) = inl (claimed, unended)
        held pod (inl claimed) (inl ended) = inr (λ h. none_there pod.ended h.1 ended)
        held pod (inr none) over = inr (λ h. none_there pod.claim none h.0)

        unended : (pod : PodState) → IsThere pod.ended ⊎ (pod.ended ≡ None) → Decided (pod.ended ≡ None)
        unended pod (inl ended) = inr (λ none. none_there pod.ended none ended)
        unended pod (inr none) = inl none

        not_closed : (task_run : TaskRunState) → IsThere task_run.closed ⊎ (task_run.closed ≡ None) → Decided (task_run.closed ≡ None)
        not_closed task_run (inl closed) = inr (λ none. none_there task_run.closed none closed)
        not_closed task_run (inr none) = inl none

        closed_of : (task_run : TaskRunState) → IsThere task_run.closed ⊎ (task_run.closed ≡ None) → (task_run.closed ≡ None → ⊥) → IsThere task_run.closed
        closed_of task_run (inl closed) never = closed
        closed_of task_run (inr none) never = absurd (never none)

        open_among : (task_run : TaskRunState) → Decided ((place : ℕ) × (place < length task_run.attempts) × IsOpenAttempt task_run.attempts place)
        open_among task_run = elim (decide_below (IsOpenAttempt task_run.attempts) (open_at task_run.attempts) (length task_run.attempts)) [
          | inl found ↦ inl found
          | inr nowhere ↦ inr (λ found. nowhere found.0 found.1 found.2)
        ]

        of_open : IsOpen history → ((name : List ℕ) (task_run : TaskRunState) → task_run_of history name ≡ Some task_run → IsThere task_run.closed) → CanGoOn history number life moment
        of_open (inl run) closed = for_run closed run.0 run.1.it run.1.is run.1.has.0 run.1.has.1
        of_open (inr task_run) closed = absurd (none_there task_run.1.it.closed task_run.1.has (closed task_run.0 task_run.1.it task_run.1.is))
