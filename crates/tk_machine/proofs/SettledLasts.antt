-- A settled pod stays settled: marks, timeouts and the moments of attempts stay, whatever is written.
use Rattle.std.proofs.Common.{◌≡◌, ◌≢◌, ℕ, suc, ◌≤◌, ◌+◌, ◌-◌, List, [], ◌∷◌, ◌++◌, length, map, Option, Some, None, Bool, true, false, refl, sym, ◌∙◌, ap, subst, inl, inr, arith, nat_eq, slice_get, option_map}
use Rattle.std.specs.Prelude.{◌⊎◌, ◌||◌, nat_lt, nat_le}
use Rattle.std.proofs.lemmas.Bool.{cases_Bool, le-leb, lt-ltb}
use Rattle.std.proofs.lemmas.Option.{slice_get-map}
use Rattle.std.proofs.Math.Dec.{eqb-suc-zero}
use Rattle.tk_types.specs.declared.scenario.Kind.TheVariants as kinds
use Rattle.tk_types.specs.declared.run.Outcome.{Outcome}
use Rattle.tk_types.specs.declared.object.TaskRunSpec.{TaskRunSpec}
use Rattle.tk_journal.specs.declared.act.Act.{Act}
use Rattle.tk_journal.specs.declared.act.Act.TheVariants as acts
use Rattle.tk_journal.specs.declared.act.Closing.TheVariants as closings
use Rattle.tk_journal.specs.declared.entry.Actor.{Actor}
use Rattle.tk_journal.specs.declared.entry.Entry.{Entry}
use Rattle.tk_journal.specs.declared.entry.Fronts.{Fronts}
use Rattle.tk_journal.specs.declared.object.Attempt.{Attempt}
use Rattle.tk_journal.specs.declared.object.PodState.{PodState}
use Rattle.tk_journal.specs.declared.object.TaskRunState.{TaskRunState}
use Rattle.tk_journal.specs.Lists.{Has}
use Rattle.tk_journal.specs.Stops.{HasPassed}
use Rattle.tk_journal.specs.Effects.{writes, attempt_closed, task_run_after, pod_after}
use Rattle.tk_journal.specs.History.{past, state_of, run_of, task_run_of, task_run_written, pod_of, pod_written, view_at}
use Rattle.tk_journal.specs.Progress.{at_end}
use Rattle.tk_journal.proofs.Attempts.{get_append}
use Rattle.tk_journal.proofs.Past.{past_whole, state_cases}
use Rattle.tk_held.specs.declared.judging.Settled.{Settled}
use Rattle.tk_held.specs.declared.judging.Settled.TheVariants as settled
use Rattle.tk_held.specs.Settled.{attempt_at, is_late_attempt, is_marked_run, is_late_run, settled_pod, settled_by, settled_in}
use Rattle.tk_machine.specs.Kills.{IsSettledBy, SettledLasts}
use Rattle.tk_machine.proofs.Settling.{LateRow, cancelled_of, timed_out_of}

-- what each entry that writes an object keeps of it stays

module _ {X : Type 0} (mine : Entry → Bool) (written : List Entry → Entry → Option X → Option X) (R : X → X → Type 0) (same : (x : X) → R x x) (trans : (x y z : X) → R x y → R y z → R x z) (keeps : (older : List Entry) (e : Entry) (x : X) → Has (written older e (Some x)) (R x)) where
  abbrev state : List Entry → Option X
  state history = state_of mine written history

  one_on : (e : Entry) (older : List Entry) (x : X) → state older ≡ Some x → Has (state (e ∷ older)) (R x)
  one_on e older x is = state_cases mine written (λ (o : Option X). Has o (R x)) e older
      (λ miss. record { it = x; is = is; has = same x })
      (λ hit. subst (λ (o : Option X). Has (written older e o) (R x)) (sym is) (keeps older e x))

  then_on : (x : X) (old new : Option X) → Has old (R x) → ((y : X) → old ≡ Some y → Has new (R y)) → Has new (R x)
  then_on x old new first second =
      let next = second first.it first.is in
      record { it = next.it; is = next.is; has = trans x first.it next.it first.has next.has }

  past_on : (n : ℕ) (history : List Entry) (x : X) → state (past n history) ≡ Some x → Has (state history) (R x)
  past_on n [] x is = record { it = x; is = is; has = same x }
  past_on n (e ∷ older) x is = elim (cases_Bool (nat_le (suc (length older)) n)) [
    | inl hit ↦ record { it = x; is = rw hit at is; has = same x }
    | inr miss ↦ then_on x (state older) (state (e ∷ older)) (past_on n older x (rw miss at is)) (one_on e older)
  ]

  all_on : (since old : List Entry) (x : X) → state old ≡ Some x → Has (state (since ++ old)) (R x)
  all_on [] old x is = record { it = x; is = is; has = same x }
  all_on (e ∷ since) old x is = then_on x (state (since ++ old)) (state (e ∷ since ++ old)) (all_on since old x is) (one_on e (since ++ old))

  pub state_lasts : (n : ℕ) (since history : List Entry) (x : X) → state (past n history) ≡ Some x → Has (state (since ++ history)) (R x)
  state_lasts n since history x is = then_on x (state history) (state (since ++ history)) (past_on n history x is) (all_on since history)

-- what makes a pod settled stays

record PodKeeps (old new : PodState) : Type 0 where
  task_run : new.task_run ≡ old.task_run
  attempt : new.attempt ≡ old.attempt
  marked : new.marked ≡ old.marked

pod_keeps : (actor : Actor) (act : Act) (pod : PodState) → PodKeeps pod (pod_after actor act pod)
pod_keeps actor (acts.ClaimPod name) pod = record { task_run = refl; attempt = refl; marked = refl }
pod_keeps actor (acts.EndPod name exits outcome) pod = record { task_run = refl; attempt = refl; marked = refl }
pod_keeps actor _ pod = record { task_run = refl; attempt = refl; marked = refl }

pod_lasts : (n : ℕ) (since history : List Entry) (name : List ℕ) (pod : PodState) → pod_of (past n history) name ≡ Some pod → Has (pod_of (since ++ history) name) (PodKeeps pod)
pod_lasts n since history name =
    state_lasts (writes kinds.Pods name) (λ (older : List Entry) e before. pod_written e before) PodKeeps
    (λ pod. record { task_run = refl; attempt = refl; marked = refl })
    (λ a b c p q. record { task_run = q.task_run ∙ p.task_run; attempt = q.attempt ∙ p.attempt; marked = q.marked ∙ p.marked })
    (λ older e pod. record { it = pod_after e.actor e.act pod; is = refl; has = pod_keeps e.actor e.act pod }) n since history

-- each attempt stands at its place with its moment
abbrev MomentsStay : List Attempt → List Attempt → Type 0
MomentsStay old new = (place : ℕ) (attempt : Attempt) → slice_get old place ≡ Some attempt → Has (slice_get new place) (λ (a : Attempt). a.moment ≡ attempt.moment)

record TaskRunKeeps (old new : TaskRunState) : Type 0 where
  spec : new.spec ≡ old.spec
  marked : old.marked ≡ true → new.marked ≡ true
  moments : MomentsStay old.attempts new.attempts

same_moments : (attempts : List Attempt) → MomentsStay attempts attempts
same_moments attempts place attempt at = record { it = attempt; is = at; has = refl }

closed_moments : (outcome : Outcome) (attempts : List Attempt) → MomentsStay attempts (map (attempt_closed outcome) attempts)
closed_moments outcome attempts place attempt at = record {
  it = attempt_closed outcome attempt;
  is = slice_get-map (attempt_closed outcome) attempts place ∙ ap (option_map (attempt_closed outcome)) at;
  has = refl;
}

task_run_same : (t : TaskRunState) → TaskRunKeeps t t
task_run_same t = record { spec = refl; marked = λ is. is; moments = same_moments t.attempts }

task_run_trans : (a b c : TaskRunState) → TaskRunKeeps a b → TaskRunKeeps b c → TaskRunKeeps a c
task_run_trans a b c p q = record {
  spec = q.spec ∙ p.spec;
  marked = λ is. q.marked (p.marked is);
  moments = λ place attempt at.
      let first = p.moments place attempt at in
      let second = q.moments place first.it first.is in
      record { it = second.it; is = second.is; has = second.has ∙ first.has };
}

task_run_keeps : (moment : ℕ) (act : Act) (t : TaskRunState) → TaskRunKeeps t (task_run_after moment act t)
task_run_keeps moment (acts.Ask name status) t = record { spec = refl; marked = λ is. refl; moments = same_moments t.attempts }
task_run_keeps moment (acts.CancelTaskRun name) t = record { spec = refl; marked = λ is. refl; moments = same_moments t.attempts }
task_run_keeps moment (acts.OpenAttempt name) t = record {
  spec = refl;
  marked = λ is. is;
  moments = λ place attempt at. record { it = attempt; is = get_append t.attempts (record { moment = moment; outcome = None } ∷ []) place attempt at; has = refl };
}
task_run_keeps moment (acts.Close name (closings.Attempt outcome)) t = record { spec = refl; marked = λ is. is; moments = closed_moments outcome t.attempts }
task_run_keeps moment (acts.Close name closings.TaskRun) t = record { spec = refl; marked = λ is. is; moments = same_moments t.attempts }
task_run_keeps moment (acts.Close name (closings.Run condition skipped results)) t = task_run_same t
task_run_keeps moment _ t = task_run_same t

task_run_lasts : (n : ℕ) (since history : List Entry) (name : List ℕ) (t : TaskRunState) → task_run_of (past n history) name ≡ Some t → Has (task_run_of (since ++ history) name) (TaskRunKeeps t)
task_run_lasts n since history name =
    state_lasts (writes kinds.TaskRuns name) (λ (older : List Entry) e before. task_run_written (run_of older) e before) TaskRunKeeps task_run_same task_run_trans
    (λ older e t. record { it = task_run_after e.moment e.act t; is = refl; has = task_run_keeps e.moment e.act t }) n since history

-- what settles a pod, and that it does

abbrev Settles : ℕ → PodState → Option TaskRunState → Type 0
Settles moment pod task_run = (pod.marked ≡ true) ⊎ (Has task_run (λ (t : TaskRunState). t.marked ≡ true) ⊎ Has task_run (LateRow pod.attempt moment))

why : (moment : ℕ) (pod : PodState) (task_run : Option TaskRunState) (o : Option Settled) → settled_pod moment pod task_run ≡ o → o ≢ None → Settles moment pod task_run
why moment pod task_run None is some = absurd (some refl)
why moment pod task_run (Some settled.Cancelled) is some = elim (cancelled_of moment pod task_run is) [ inl own ↦ inl own | inr run ↦ inr (inl run) ]
why moment pod task_run (Some settled.TimedOut) is some = inr (inr (timed_out_of moment pod task_run is))

or_left : (a b : Bool) → a ≡ true → (a || b) ≡ true
or_left true b is = refl
or_left false b is = cc

or_right : (a b : Bool) → b ≡ true → (a || b) ≡ true
or_right true b is = refl
or_right false b is = is

by_mark : (moment : ℕ) (pod : PodState) (task_run : Option TaskRunState) → (pod.marked || is_marked_run task_run) ≡ true → settled_pod moment pod task_run ≢ None
by_mark moment pod task_run hit none = let bad : Some settled.Cancelled ≡ None = rw hit at none in cc (bad)

by_late : (moment : ℕ) (pod : PodState) (task_run : Option TaskRunState) → is_late_run pod.attempt moment task_run ≡ true → settled_pod moment pod task_run ≢ None
by_late moment pod task_run late none = elim (cases_Bool (pod.marked || is_marked_run task_run)) [
  | inl hit ↦ by_mark moment pod task_run hit none
  | inr miss ↦ (let bad : Some settled.TimedOut ≡ None = rw (miss, late) at none in cc (bad))
]

is_late : (moment place : ℕ) (t : TaskRunState) (attempt : Attempt) → slice_get t.attempts place ≡ Some attempt → HasPassed (Some attempt.moment) t.spec.timeout moment → is_late_run (suc place) moment (Some t) ≡ true
is_late moment place t attempt at passed =
    let less : suc place - 1 ≡ place = omega arith in
    let other : nat_eq (suc place) 0 ≡ false = eqb-suc-zero place in
    let found : attempt_at (suc place) t.attempts ≡ Some attempt = rw other (ap (slice_get t.attempts) less ∙ at) in
    let from : attempt.moment ≡ passed.from = cc (passed.is) in
    let set : nat_lt 0 t.spec.timeout ≡ true = lt-ltb 0 t.spec.timeout passed.set in
    let late : nat_le (attempt.moment + t.spec.timeout) moment ≡ true = le-leb (attempt.moment + t.spec.timeout) moment (omega (arith, from, passed.late)) in
    ap (is_late_attempt t.spec.timeout moment) found ∙ rw (set, late) refl

settles : (moment : ℕ) (pod : PodState) (task_run : Option TaskRunState) → Settles moment pod task_run → settled_pod moment pod task_run ≢ None
settles moment pod task_run (inl own) = by_mark moment pod task_run (or_left pod.marked (is_marked_run task_run) own)
settles moment pod task_run (inr (inl run)) = by_mark moment pod task_run (or_right pod.marked (is_marked_run task_run) (ap is_marked_run run.is ∙ run.has))
settles moment pod task_run (inr (inr late)) = by_late moment pod task_run (
    ap (λ (o : Option TaskRunState). is_late_run pod.attempt moment o) late.is
    ∙ (ap (λ (n : ℕ). is_late_run n moment (Some late.it)) late.has.1 ∙ is_late moment late.has.0 late.it late.has.2.it late.has.2.is late.has.2.has))

-- at a later moment, of a pod and a TaskRun that kept that

later_row : (moment later attempt : ℕ) (old new : TaskRunState) → moment ≤ later → TaskRunKeeps old new → LateRow attempt moment old → LateRow attempt later new
later_row moment later attempt old new le keeps row =
    let now = keeps.moments row.0 row.2.it row.2.is in
    let passed = row.2.has in
    let timeout : new.spec.timeout ≡ old.spec.timeout = ap (λ (s : TaskRunSpec). s.timeout) keeps.spec in (
      row.0,
      row.1,
      record {
        it = now.it;
        is = now.is;
        has = record {
          from = passed.from;
          is = ap Some now.has ∙ passed.is;
          set = omega (arith, timeout, passed.set);
          late = omega (arith, timeout, passed.late, le);
        };
      },
    )

module _ (since history : List Entry) (fronts : Fronts) (moment later : ℕ) (name : List ℕ) (le : moment ≤ later) where
  abbrev seen_run : List ℕ → Option TaskRunState
  seen_run = task_run_of (past fronts.task_runs history)

  abbrev end : List Entry
  end = since ++ history

  still : (old new : PodState) → PodKeeps old new → Settles moment old (seen_run old.task_run) → Settles later new (task_run_of end new.task_run)
  still old new keeps (inl own) = inl (keeps.marked ∙ own)
  still old new keeps (inr (inl run)) =
      let now = task_run_lasts fronts.task_runs since history old.task_run run.it run.is in
      inr (inl record { it = now.it; is = ap (task_run_of end) keeps.task_run ∙ now.is; has = now.has.marked run.has })
  still old new keeps (inr (inr late)) =
      let now = task_run_lasts fronts.task_runs since history old.task_run late.it late.is in
      inr (inr record {
        it = now.it;
        is = ap (task_run_of end) keeps.task_run ∙ now.is;
        has = subst (λ (n : ℕ). LateRow n later now.it) (sym keeps.attempt) (later_row moment later old.attempt late.it now.it le now.has late.has);
      })

  by_pod : (o : Option PodState) → pod_of (past fronts.pods history) name ≡ o → settled_by seen_run moment o ≢ None → settled_by (task_run_of end) later (pod_of end name) ≢ None
  by_pod None is some = absurd (some refl)
  by_pod (Some pod) is some =
      let now = pod_lasts fronts.pods since history name pod is in
      subst (λ (o : Option PodState). settled_by (task_run_of end) later o ≢ None) (sym now.is)
      (settles later now.it (task_run_of end now.it.task_run) (still pod now.it now.has (why moment pod (seen_run pod.task_run) (settled_pod moment pod (seen_run pod.task_run)) refl some)))

  lasts : settled_in (view_at fronts history) moment name ≢ None → IsSettledBy (since ++ history) later name
  lasts some =
      let whole : past (length end) end ≡ end = past_whole (length end) end (omega arith) in
      subst (λ (h : List Entry). settled_by (task_run_of h) later (pod_of h name) ≢ None) (sym whole) (by_pod (pod_of (past fronts.pods history) name) refl some)

pub settled_lasts : SettledLasts
settled_lasts since history fronts moment later name le = lasts since history fronts moment later name le

-- what was settled at an end is so at each later one
pub settled_goes_on : (since history : List Entry) (moment later : ℕ) (name : List ℕ) → moment ≤ later → IsSettledBy history moment name → IsSettledBy (since ++ history) later name
settled_goes_on since history = settled_lasts since history (at_end history)
