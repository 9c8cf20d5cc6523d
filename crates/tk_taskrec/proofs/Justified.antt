-- What a TaskRun gives rise to is justified for the worker that sees it.
use Rattle.std.proofs.Common.{◌≡◌, ◌≢◌, ℕ, zero, suc, ◌+◌, List, [], ◌∷◌, length, true, false, Option, Some, None, refl, ap, subst, ◌∙◌, inl, inr, arith}
use Rattle.std.specs.Prelude.{Bool, is_some, is_none, not, ◌||◌, ◌⊎◌, nat_le, option_map, if◌then◌else◌}
use Rattle.std.proofs.lemmas.Bool.{cases_Bool, leb-true}
use Rattle.std.proofs.lemmas.Option.{same_Some}
use Rattle.tk_types.specs.declared.run.Start.{Start}
use Rattle.tk_types.specs.declared.run.Start.TheVariants.{Ready, Unstartable}
use Rattle.tk_types.specs.declared.run.Outcome.{Outcome}
use Rattle.tk_names.specs.Children.{pod_name}
use Rattle.tk_journal.specs.declared.act.Act.{Act}
use Rattle.tk_journal.specs.declared.entry.Actor.TheVariants as actors
use Rattle.tk_journal.specs.declared.object.Plan.{Plan}
use Rattle.tk_journal.specs.declared.object.Attempt.{Attempt}
use Rattle.tk_journal.specs.declared.object.Ending.{Ending}
use Rattle.tk_journal.specs.declared.object.TaskRunState.{TaskRunState}
use Rattle.tk_journal.specs.declared.object.PodState.{PodState}
use Rattle.tk_journal.specs.declared.object.EndedPod.{EndedPod}
use Rattle.tk_journal.specs.History.{View}
use Rattle.tk_journal.specs.Plan.{plan_of}
use Rattle.tk_journal.specs.Rows.{IsJustified}
use Rattle.tk_journal.specs.TaskRunRows.{IsOpenAttempt, NoneOpen}
use Rattle.tk_choice.proofs.First.{first_is}
use Rattle.tk_task_cache.specs.Acting.{open_from}
use Rattle.tk_taskrec.specs.Choice.{starts_ready, close_by, make_pod, act_without, act_by_pod, act_by_open, act_at, choice_among, choice}

-- open attempts

pub record OpenAt (start : ℕ) (xs : List Attempt) (place : ℕ) : Type 0 where
  pub k : ℕ
  pub is : place ≡ start + k
  pub open_one : IsOpenAttempt xs k

none_outcome : (o : Option Outcome) → is_none o ≡ true → o ≡ None
none_outcome None is = refl
none_outcome (Some outcome) is = absurd (cc (is))

some_outcome : (o : Option Outcome) → is_none o ≡ false → o ≡ None → ⊥
some_outcome None is none = absurd (cc (is))
some_outcome (Some outcome) is none = cc

pub open_is : (start : ℕ) (xs : List Attempt) (place : ℕ) → open_from start xs ≡ Some place → OpenAt start xs place
open_is start [] place is = absurd (cc (is))
open_is start (x ∷ xs) place is = elim (cases_Bool (is_none x.outcome)) [
  | inl hit ↦
      let now : Some start ≡ Some place = rw hit at is in
      let same = same_Some start place now in
      record { k = 0; is = omega (arith, same); open_one = record { attempt = x; at = refl; no_outcome = none_outcome x.outcome hit } }
  | inr miss ↦
      let rest = open_is (suc start) xs place (rw miss at is) in
      let at_is = rest.is in
      record { k = suc rest.k; is = omega (arith, at_is); open_one = record { attempt = rest.open_one.attempt; at = rest.open_one.at; no_outcome = rest.open_one.no_outcome } }
]

pub none_open : (start : ℕ) (xs : List Attempt) → open_from start xs ≡ None → NoneOpen xs
none_open start [] is place open_one = let at = open_one.at in absurd (cc (at))
none_open start (x ∷ xs) is zero open_one = elim (cases_Bool (is_none x.outcome)) [
  | inl hit ↦ let now : Some start ≡ None = rw hit at is in absurd (cc (now))
  | inr miss ↦ some_outcome x.outcome miss (ap (λ (a : Attempt). a.outcome) (same_Some x open_one.attempt open_one.at) ∙ open_one.no_outcome)
]
none_open start (x ∷ xs) is (suc place) open_one = elim (cases_Bool (is_none x.outcome)) [
  | inl hit ↦ let now : Some start ≡ None = rw hit at is in absurd (cc (now))
  | inr miss ↦ none_open (suc start) xs (rw miss at is) place (record { attempt = open_one.attempt; at = open_one.at; no_outcome = open_one.no_outcome })
]

pub ready_is : (start : Start) → starts_ready start ≡ true → start ≡ Ready
ready_is Ready is = refl
ready_is (Unstartable reason) is = absurd (cc (is))

unready_is : (start : Start) → starts_ready start ≡ false → start ≢ Ready
unready_is Ready is same = absurd (cc (is))
unready_is (Unstartable reason) is same = absurd (cc (same))

pub over_is : (marked : Bool) (start : Start) → (marked || not (starts_ready start)) ≡ true → (marked ≡ true) ⊎ (start ≢ Ready)
over_is true start is = inl refl
over_is false start is = elim (cases_Bool (starts_ready start)) [
  | inl ready ↦ let now : false ≡ true = rw ready at is in absurd (cc (now))
  | inr unready ↦ inr (unready_is start unready)
]

pub not_over : (marked : Bool) (start : Start) → (marked || not (starts_ready start)) ≡ false → (marked ≡ false) × (start ≡ Ready)
not_over true start is = absurd (cc (is))
not_over false start is = elim (cases_Bool (starts_ready start)) [
  | inl ready ↦ (refl, ready_is start ready)
  | inr unready ↦ let now : true ≡ false = rw unready at is in absurd (cc (now))
]

module _ (view : View) (number moment : ℕ) where
  abbrev May : Act → Type 0
  May act = IsJustified view (actors.Tasks number) moment act

  may_end : (name : List ℕ) (task_run : TaskRunState) (place : ℕ) (pod : PodState) (ended : Option EndedPod) (act : Act) → view.task_run name ≡ Some task_run → task_run.closed ≡ None → IsOpenAttempt task_run.attempts place → view.pod (pod_name name (suc place)) ≡ Some pod → pod.ended ≡ ended → close_by name ended ≡ Some act → May act
  may_end name task_run place pod None act there not_closed is_open at_pod at_end is = absurd (cc (is))
  may_end name task_run place pod (Some ended) act there not_closed is_open at_pod at_end is =
      subst May (same_Some _ act is) (tt, record { it = task_run; is = there; has = record { not_closed = not_closed; place = place; is_open = is_open; pod_ended = record { it = pod; is = at_pod; has = record { it = ended; is = at_end; has = refl } } } })

  may_make : (name : List ℕ) (task_run : TaskRunState) (place : ℕ) (o : Option Plan) (act : Act) → view.task_run name ≡ Some task_run → IsOpenAttempt task_run.attempts place → view.pod (pod_name name (suc place)) ≡ None → plan_of task_run (suc place) ≡ o → option_map (make_pod name task_run (suc place)) o ≡ Some act → May act
  may_make name task_run place None act there is_open at_pod at_plan is = absurd (cc (is))
  may_make name task_run place (Some plan) act there is_open at_pod at_plan is =
      subst May (same_Some _ act is) (tt, record { it = task_run; is = there; has = record { place = place; number = refl; is_open = is_open; named = refl; planned = at_plan; marked = refl } }, at_pod)

  may_pod : (name : List ℕ) (task_run : TaskRunState) (place : ℕ) (pod : Option PodState) (act : Act) → view.task_run name ≡ Some task_run → task_run.closed ≡ None → IsOpenAttempt task_run.attempts place → view.pod (pod_name name (suc place)) ≡ pod → act_by_pod name task_run (suc place) pod ≡ Some act → May act
  may_pod name task_run place None act there not_closed is_open at_pod is = may_make name task_run place (plan_of task_run (suc place)) act there is_open at_pod refl is
  may_pod name task_run place (Some pod) act there not_closed is_open at_pod is = may_end name task_run place pod pod.ended act there not_closed is_open at_pod refl is

  may_without : (name : List ℕ) (task_run : TaskRunState) (act : Act) → view.task_run name ≡ Some task_run → task_run.closed ≡ None → NoneOpen task_run.attempts → act_without name task_run ≡ Some act → May act
  may_without name task_run act there not_closed none is = elim (cases_Bool (task_run.marked || not (starts_ready task_run.spec.start))) [
    | inl hit ↦
        let now : Some _ ≡ Some act = rw hit at is in
        subst May (same_Some _ act now) (tt, record { it = task_run; is = there; has = record { not_closed = not_closed; none_open = none; over = over_is task_run.marked task_run.spec.start hit } })
    | inr miss ↦ elim (cases_Bool (nat_le (length task_run.attempts) task_run.spec.retries)) [
      | inl more ↦
          let now : Some _ ≡ Some act = rw (miss, more) at is in
          let may = not_over task_run.marked task_run.spec.start miss in
          subst May (same_Some _ act now) (tt, record { it = task_run; is = there; has = record { startable = may.1; not_closed = not_closed; not_marked = may.0; none_open = none; more = leb-true (length task_run.attempts) task_run.spec.retries more } })
      | inr full ↦ let now : None ≡ Some act = rw (miss, full) at is in absurd (cc (now))
    ]
  ]

  may_open : (name : List ℕ) (task_run : TaskRunState) (o : Option ℕ) (act : Act) → view.task_run name ≡ Some task_run → task_run.closed ≡ None → open_from 0 task_run.attempts ≡ o → act_by_open view name task_run o ≡ Some act → May act
  may_open name task_run None act there not_closed at_open is = may_without name task_run act there not_closed (none_open 0 task_run.attempts at_open) is
  may_open name task_run (Some place) act there not_closed at_open is =
      let found = open_is 0 task_run.attempts place at_open in
      let same = found.is in
      let k_is : found.k ≡ place = omega (arith, same) in
      may_pod name task_run place (view.pod (pod_name name (suc place))) act there not_closed (subst (IsOpenAttempt task_run.attempts) k_is found.open_one) refl is

  may_of : (name : List ℕ) (task_run : TaskRunState) (closed : Option Ending) (act : Act) → view.task_run name ≡ Some task_run → task_run.closed ≡ closed → (if is_some closed then None else act_by_open view name task_run (open_from 0 task_run.attempts)) ≡ Some act → May act
  may_of name task_run None act there at_closed is = may_open name task_run (open_from 0 task_run.attempts) act there at_closed refl is
  may_of name task_run (Some ending) act there at_closed is = absurd (cc (is))

  may_at : (name : List ℕ) (o : Option TaskRunState) (act : Act) → view.task_run name ≡ o → act_at view name o ≡ Some act → May act
  may_at name None act there is = absurd (cc (is))
  may_at name (Some task_run) act there is = may_of name task_run task_run.closed act there refl is

  may_among : (names : List (List ℕ)) (act : Act) → choice_among view names ≡ Some act → May act
  may_among [] act is = absurd (cc (is))
  may_among (name ∷ names) act is = elim (first_is (act_at view name (view.task_run name)) _ act is) [
    | inl first ↦ may_at name (view.task_run name) act refl first
    | inr later ↦ may_among names act later.1
  ]

  -- the choice may be tried
  pub may_choice : (act : Act) → choice view ≡ Some act → IsJustified view (actors.Tasks number) moment act
  may_choice act is = may_among view.task_runs act is
