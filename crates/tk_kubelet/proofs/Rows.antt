-- What a kubelet tries is justified by what it sees.
use Rattle.std.proofs.Common.{◌≡◌, ℕ, zero, suc, ◌<◌, ◌≤◌, ◌+◌, ◌-◌, List, [], ◌∷◌, length, Option, Some, None, Bool, true, false, refl, sym, ◌∙◌, ap, subst, inl, inr, arith, nat_eq, slice_get}
use Rattle.std.specs.Prelude.{◌⊎◌, ◌||◌, ◌&&◌, nat_le, nat_lt, filter, find, is_none}
use Rattle.std.proofs.lemmas.Bool.{cases_Bool, ltb-true, leb-true, eqb-true}
use Rattle.std.proofs.lemmas.Option.{same_Some}
use Rattle.tk_types.specs.declared.run.Outcome.{Outcome}
use Rattle.tk_types.specs.declared.run.Outcome.TheVariants as outcomes
use Rattle.tk_edge.specs.declared.event.Event.{Event}
use Rattle.tk_edge.specs.Files.{Files}
use Rattle.tk_journal.specs.Lists.{Has}
use Rattle.tk_journal.specs.declared.act.Act.TheVariants as acts
use Rattle.tk_journal.specs.declared.object.Claim.{Claim}
use Rattle.tk_journal.specs.declared.object.PodState.{PodState}
use Rattle.tk_journal.specs.declared.object.TaskRunState.{TaskRunState}
use Rattle.tk_journal.specs.declared.object.Attempt.{Attempt}
use Rattle.tk_journal.specs.History.{View}
use Rattle.tk_journal.specs.PodRows.{AreExits, ClaimRow, EndCause, EndRow, is_held_by}
use Rattle.tk_journal.specs.Stops.{HasPassed}
use Rattle.tk_steps.specs.declared.held.HeldPod.{HeldPod}
use Rattle.tk_choice.specs.Took.{MayTry}
use Rattle.tk_held.specs.declared.judging.Settled.{Settled}
use Rattle.tk_held.specs.declared.judging.Settled.TheVariants as settled_
use Rattle.tk_held.specs.Conditions.{not_lost}
use Rattle.tk_held.specs.Settled.{attempt_at, is_late_attempt, is_marked_run, is_late_run, settled_pod, settled_by, settled_in}
use Rattle.tk_outcome.specs.Exits.{exits_of}
use Rattle.tk_outcome.specs.Laws.{EndsFit}
use Rattle.tk_kubelet.specs.Choice.{is_unclaimed, has_room, first_claim}
use Rattle.tk_kubelet.specs.Ends.{EndsSo, IsLost, end_of, settled_outcome, without_exit}
use Rattle.tk_kubelet.specs.Seat.{actor_of}
use Rattle.tk_kubelet.proofs.Found.{find_true}

-- both of two

pub and_left : (a b : Bool) → (a && b) ≡ true → a ≡ true
and_left true b both = refl
and_left false b both = cc (both)

pub and_right : (a b : Bool) → (a && b) ≡ true → b ≡ true
and_right true b both = both
and_right false b both = cc (both)

-- claims

-- the pod is seen, and nobody claimed it
pub record IsFree (view : View) (name : List ℕ) : Type 0 where
  pub state : PodState
  pub is_seen : view.pod name ≡ Some state
  pub free : state.claim ≡ None

no_claim : (claim : Option Claim) → is_none claim ≡ true → claim ≡ None
no_claim None is = refl
no_claim (Some claim) is = cc (is)

free_of : (view : View) (name : List ℕ) (state : Option PodState) → view.pod name ≡ state → is_unclaimed state ≡ true → IsFree view name
free_of view name None there is = cc (is)
free_of view name (Some state) there is = record { state = state; is_seen = there; free = no_claim state.claim is }

module _ (number : ℕ) (view : View) (name : List ℕ) (first : first_claim number view ≡ Some name) where
  room : has_room number view ≡ true
  room = elim (cases_Bool (has_room number view)) [
    | inl hit ↦ hit
    | inr miss ↦ (let bad : None ≡ Some name = rw miss at first in cc (bad))
  ]

  pub is_free : IsFree view name
  is_free =
      let found : find (λ (n : List ℕ). is_unclaimed (view.pod n)) view.pods ≡ Some name = rw room at first in
      free_of view name (view.pod name) refl (find_true (λ (n : List ℕ). is_unclaimed (view.pod n)) view.pods name found)

  pub claim_row : (life : ℕ) → Has (view.pod name) (ClaimRow view (actor_of record { number = number; life = life }))
  claim_row life = record {
    it = is_free.state;
    is = is_free.is_seen;
    has = record {
      unclaimed = is_free.free;
      number = number;
      life = life;
      by = refl;
      room = ltb-true (length (filter (λ (n : List ℕ). is_held_by number (view.pod n)) view.pods)) 8 room;
    };
  }

pub claim_may : (me : Claim) (view : View) (moment : ℕ) (name : List ℕ) → first_claim me.number view ≡ Some name → MayTry view (actor_of me) moment (acts.ClaimPod name)
claim_may me view moment name first = record { mine = tt; justified = claim_row me.number view name first me.life }

-- pods that an earlier life claimed

pub lost_row : (me : Claim) (view : View) (moment : ℕ) (name : List ℕ) → IsLost me view name → Has (view.pod name) (EndRow view (actor_of me) moment [] outcomes.Lost)
lost_row me view moment name lost = record {
  it = lost.state;
  is = lost.is_seen;
  has = record {
    number = me.number;
    life = me.life;
    by = refl;
    claimed_in = lost.life;
    claimed = lost.claimed;
    unended = lost.unended;
    fits = inr (lost.earlier, refl, refl);
  };
}

pub lost_may : (me : Claim) (view : View) (moment : ℕ) (name : List ℕ) → IsLost me view name → MayTry view (actor_of me) moment (acts.EndPod name [] outcomes.Lost)
lost_may me view moment name lost = record { mine = tt; justified = lost_row me view moment name lost }

-- pods that are held

pub end_may : (me : Claim) (view : View) (moment : ℕ) (pod : HeldPod) (outcome : Outcome) (state : PodState) → view.pod pod.name ≡ Some state
    → state.claim ≡ Some record { number = me.number; life = me.life } → state.ended ≡ None → AreExits state.plan (exits_of pod.steps.items)
    → EndCause view moment (exits_of pod.steps.items) state outcome → MayTry view (actor_of me) moment (end_of pod outcome)
end_may me view moment pod outcome state is claimed unended walk cause = record {
  mine = tt;
  justified = record {
    it = state;
    is = is;
    has = record { number = me.number; life = me.life; by = refl; claimed_in = me.life; claimed = claimed; unended = unended; fits = inl (refl, walk, cause) };
  };
}

-- a settled pod has the row's cause

marked_of : (state : PodState) (task_run : Option TaskRunState) → (state.marked || is_marked_run task_run) ≡ true → (state.marked ≡ true) ⊎ Has task_run (λ t. t.marked ≡ true)
marked_of state None is = go state.marked refl is
  where
    go : (mark : Bool) → state.marked ≡ mark → (mark || false) ≡ true → (state.marked ≡ true) ⊎ Has {X = TaskRunState} None (λ t. t.marked ≡ true)
    go true at is = inl at
    go false at is = cc (is)
marked_of state (Some t) is = go state.marked refl is
  where
    go : (mark : Bool) → state.marked ≡ mark → (mark || t.marked) ≡ true → (state.marked ≡ true) ⊎ Has (Some t) (λ x. x.marked ≡ true)
    go true at is = inl at
    go false at is = inr record { it = t; is = refl; has = is }

cancelled_of : (moment : ℕ) (state : PodState) (task_run : Option TaskRunState) → settled_pod moment state task_run ≡ Some settled_.Cancelled → (state.marked ≡ true) ⊎ Has task_run (λ t. t.marked ≡ true)
cancelled_of moment state task_run is = elim (cases_Bool (state.marked || is_marked_run task_run)) [
  | inl hit ↦ marked_of state task_run hit
  | inr miss ↦ elim (cases_Bool (is_late_run state.attempt moment task_run)) [
    | inl late ↦ (let bad : Some settled_.TimedOut ≡ Some settled_.Cancelled = rw (miss, late) at is in cc (bad))
    | inr none ↦ (let bad : None ≡ Some settled_.Cancelled = rw (miss, none) at is in cc (bad))
  ]
]

timed_out_of : (moment : ℕ) (state : PodState) (task_run : Option TaskRunState) → settled_pod moment state task_run ≡ Some settled_.TimedOut → is_late_run state.attempt moment task_run ≡ true
timed_out_of moment state task_run is = elim (cases_Bool (state.marked || is_marked_run task_run)) [
  | inl hit ↦ (let bad : Some settled_.Cancelled ≡ Some settled_.TimedOut = rw hit at is in cc (bad))
  | inr miss ↦ elim (cases_Bool (is_late_run state.attempt moment task_run)) [
    | inl late ↦ late
    | inr none ↦ (let bad : None ≡ Some settled_.TimedOut = rw (miss, none) at is in cc (bad))
  ]
]

abbrev LateRow : ℕ → ℕ → TaskRunState → Type 0
LateRow number moment task_run = (place : ℕ) × (number ≡ suc place) × Has (slice_get task_run.attempts place) (λ attempt. HasPassed (Some attempt.moment) task_run.spec.timeout moment)

nth_attempt : (place : ℕ) (attempts : List Attempt) → attempt_at (suc place) attempts ≡ slice_get attempts place
nth_attempt place attempts = elim (cases_Bool (nat_eq (suc place) 0)) [
  | inl hit ↦ (let bad : suc place ≡ 0 = eqb-true (suc place) 0 hit in absurd (omega (arith, bad)))
  | inr miss ↦
      let number : suc place - 1 ≡ place = omega arith in
      let here : attempt_at (suc place) attempts ≡ slice_get attempts (suc place - 1) = rw miss refl in
      here ∙ ap (slice_get attempts) number
]

late_at : (moment : ℕ) (task_run : TaskRunState) (number : ℕ) → is_late_attempt task_run.spec.timeout moment (attempt_at number task_run.attempts) ≡ true → LateRow number moment task_run
late_at moment task_run zero late = cc (late)
late_at moment task_run (suc place) late = go (slice_get task_run.attempts place) refl (subst (λ (o : Option Attempt). is_late_attempt task_run.spec.timeout moment o ≡ true) (nth_attempt place task_run.attempts) late)
  where
    go : (o : Option Attempt) → slice_get task_run.attempts place ≡ o → is_late_attempt task_run.spec.timeout moment o ≡ true → LateRow (suc place) moment task_run
    go None at late = cc (late)
    go (Some attempt) at late = (
      place,
      refl,
      record {
        it = attempt;
        is = at;
        has = record {
          from = attempt.moment;
          is = refl;
          set = ltb-true 0 task_run.spec.timeout (and_left (nat_lt 0 task_run.spec.timeout) (nat_le (attempt.moment + task_run.spec.timeout) moment) late);
          late = leb-true (attempt.moment + task_run.spec.timeout) moment (and_right (nat_lt 0 task_run.spec.timeout) (nat_le (attempt.moment + task_run.spec.timeout) moment) late);
        };
      },
    )

late_of : (number moment : ℕ) (o : Option TaskRunState) → is_late_run number moment o ≡ true → Has o (LateRow number moment)
late_of number moment None late = cc (late)
late_of number moment (Some task_run) late = record { it = task_run; is = refl; has = late_at moment task_run number late }

-- how a pod ends is so by its cause

module _ (view : View) (moment : ℕ) (root : List ℕ) (told : List Event) (files : Option Files) (pod : HeldPod) where
  -- a pod that is marked or late, or for which a call failed
  pub settled_ends : (o : Option Settled) (outcome : Outcome) → settled_in view moment pod.name ≡ o → settled_outcome o pod.failed ≡ Some outcome → EndsSo view moment root told files pod outcome
  settled_ends (Some settled_.Cancelled) outcome judged so = subst (EndsSo view moment root told files pod) (same_Some outcomes.Cancelled outcome so) judged
  settled_ends (Some settled_.TimedOut) outcome judged so = subst (EndsSo view moment root told files pod) (same_Some outcomes.TimedOut outcome so) judged
  settled_ends None outcome judged so = elim (cases_Bool pod.failed) [
    | inl failed ↦
        let is : Some without_exit ≡ Some outcome = rw failed at so in
        subst (EndsSo view moment root told files pod) (same_Some without_exit outcome is) record { not_settled = judged; ends = inl (failed, refl) }
    | inr whole ↦ (let bad : None ≡ Some outcome = rw whole at so in cc (bad))
  ]

  pub ends_own : (outcome : Outcome) → EndsSo view moment root told files pod outcome → not_lost outcome ≡ true
  ends_own outcomes.Cancelled ends = refl
  ends_own outcomes.TimedOut ends = refl
  ends_own outcomes.Lost ends = absurd ends
  ends_own (outcomes.Succeeded results) ends = refl
  ends_own (outcomes.Failed exit results) ends = refl

  -- the outcome of a pod for which a call failed has its cause
  without_cause : (outcome : Outcome) (state : PodState) → outcome ≡ without_exit → EndCause view moment (exits_of pod.steps.items) state outcome
  without_cause outcome state is = subst (EndCause view moment (exits_of pod.steps.items) state) (sym is) refl

  pub ends_cause : EndsFit → (outcome : Outcome) → EndsSo view moment root told files pod outcome → (state : PodState) → view.pod pod.name ≡ Some state → state.plan ≡ pod.plan → EndCause view moment (exits_of pod.steps.items) state outcome
  ends_cause fit outcomes.Cancelled ends state is plan =
      cancelled_of moment state (view.task_run state.task_run) (ap (settled_by view.task_run moment) (sym is) ∙ ends)
  ends_cause fit outcomes.TimedOut ends state is plan =
      late_of state.attempt moment (view.task_run state.task_run) (timed_out_of moment state (view.task_run state.task_run) (ap (settled_by view.task_run moment) (sym is) ∙ ends))
  ends_cause fit outcomes.Lost ends state is plan = absurd ends
  ends_cause fit (outcomes.Succeeded results) ends state is plan = elim ends.ends [
    | inl failed ↦ without_cause (outcomes.Succeeded results) state failed.1
    | inr walked ↦ fit root told files pod (outcomes.Succeeded results) walked.1 view moment state plan
  ]
  ends_cause fit (outcomes.Failed exit results) ends state is plan = elim ends.ends [
    | inl failed ↦ without_cause (outcomes.Failed exit results) state failed.1
    | inr walked ↦ fit root told files pod (outcomes.Failed exit results) walked.1 view moment state plan
  ]

pub outcome_none : (o : Option Settled) (failed : Bool) → settled_outcome o failed ≡ None → (o ≡ None) × (failed ≡ false)
outcome_none (Some settled_.Cancelled) failed none = cc (none)
outcome_none (Some settled_.TimedOut) failed none = cc (none)
outcome_none None true none = cc (none)
outcome_none None false none = (refl, refl)
