-- What it says of a pod that it is settled: it is marked, or its attempt is late.
use Rattle.std.proofs.Common.{◌≡◌, ℕ, zero, suc, ◌+◌, ◌-◌, Option, Some, None, Bool, true, false, refl, ap, subst, inl, inr, arith, nat_eq, slice_get}
use Rattle.std.specs.Prelude.{◌⊎◌, ◌||◌, nat_lt, nat_le}
use Rattle.std.proofs.lemmas.Bool.{cases_Bool, ltb-true, leb-true, and_parts}
use Rattle.std.proofs.Math.Dec.{eqb-suc-zero}
use Rattle.tk_journal.specs.Lists.{Has}
use Rattle.tk_journal.specs.Stops.{HasPassed}
use Rattle.tk_journal.specs.declared.object.Attempt.{Attempt}
use Rattle.tk_journal.specs.declared.object.PodState.{PodState}
use Rattle.tk_journal.specs.declared.object.TaskRunState.{TaskRunState}
use Rattle.tk_held.specs.declared.judging.Settled.TheVariants as settled
use Rattle.tk_held.specs.Settled.{attempt_at, is_late_attempt, is_marked_run, is_late_run, settled_pod}

marked_of : (mark : Bool) (task_run : Option TaskRunState) → (mark || is_marked_run task_run) ≡ true → (mark ≡ true) ⊎ Has task_run (λ t. t.marked ≡ true)
marked_of true task_run is = inl refl
marked_of false None is = cc
marked_of false (Some t) is = inr record { it = t; is = refl; has = is }

pub cancelled_of : (moment : ℕ) (pod : PodState) (task_run : Option TaskRunState) → settled_pod moment pod task_run ≡ Some settled.Cancelled → (pod.marked ≡ true) ⊎ Has task_run (λ t. t.marked ≡ true)
cancelled_of moment pod task_run is = elim (cases_Bool (pod.marked || is_marked_run task_run)) [
  | inl hit ↦ marked_of pod.marked task_run hit
  | inr miss ↦ elim (cases_Bool (is_late_run pod.attempt moment task_run)) [
    | inl late ↦ (let bad : Some settled.TimedOut ≡ Some settled.Cancelled = rw (miss, late) at is in cc (bad))
    | inr none ↦ (let bad : None ≡ Some settled.Cancelled = rw (miss, none) at is in cc (bad))
  ]
]

-- the attempt of this number began too long ago
abbrev pub LateRow : ℕ → ℕ → TaskRunState → Type 0
LateRow number moment task_run = (place : ℕ) × (number ≡ suc place) × Has (slice_get task_run.attempts place) (λ (attempt : Attempt). HasPassed (Some attempt.moment) task_run.spec.timeout moment)

late_at : (moment : ℕ) (task_run : TaskRunState) (number : ℕ) → is_late_attempt task_run.spec.timeout moment (attempt_at number task_run.attempts) ≡ true → LateRow number moment task_run
late_at moment task_run zero late = cc (late)
late_at moment task_run (suc place) late =
    let less : suc place - 1 ≡ place = omega arith in
    let other : nat_eq (suc place) 0 ≡ false = eqb-suc-zero place in
    let at : attempt_at (suc place) task_run.attempts ≡ slice_get task_run.attempts place = rw other (ap (slice_get task_run.attempts) less) in
    go (slice_get task_run.attempts place) refl (subst (λ (o : Option Attempt). is_late_attempt task_run.spec.timeout moment o ≡ true) at late)
  where
    go : (o : Option Attempt) → slice_get task_run.attempts place ≡ o → is_late_attempt task_run.spec.timeout moment o ≡ true → LateRow (suc place) moment task_run
    go None at late_one = cc (late_one)
    go (Some attempt) at late_one =
        let both = and_parts (nat_lt 0 task_run.spec.timeout) (nat_le (attempt.moment + task_run.spec.timeout) moment) late_one in (
          place,
          refl,
          record {
            it = attempt;
            is = at;
            has = record { from = attempt.moment; is = refl; set = ltb-true 0 task_run.spec.timeout both.0; late = leb-true (attempt.moment + task_run.spec.timeout) moment both.1 };
          },
        )

late_of : (number moment : ℕ) (o : Option TaskRunState) → is_late_run number moment o ≡ true → Has o (LateRow number moment)
late_of number moment None late = cc (late)
late_of number moment (Some task_run) late = record { it = task_run; is = refl; has = late_at moment task_run number late }

pub timed_out_of : (moment : ℕ) (pod : PodState) (task_run : Option TaskRunState) → settled_pod moment pod task_run ≡ Some settled.TimedOut → Has task_run (LateRow pod.attempt moment)
timed_out_of moment pod task_run is = elim (cases_Bool (pod.marked || is_marked_run task_run)) [
  | inl hit ↦ (let bad : Some settled.Cancelled ≡ Some settled.TimedOut = rw hit at is in cc (bad))
  | inr miss ↦ elim (cases_Bool (is_late_run pod.attempt moment task_run)) [
    | inl late ↦ late_of pod.attempt moment task_run late
    | inr none ↦ (let bad : None ≡ Some settled.TimedOut = rw (miss, none) at is in cc (bad))
  ]
]
