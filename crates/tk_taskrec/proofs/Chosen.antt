-- The choice is the first of all acts that are justified for the worker.
use Rattle.std.proofs.Common.{◌≡◌, ℕ, zero, suc, ◌<◌, ◌≤◌, List, [], ◌∷◌, length, false, Option, Some, None, refl, sym, ap, subst, ◌∙◌, inl, inr, ◌⊎◌, arith, Contains}
use Rattle.std.specs.Prelude.{Bool, is_some, not, ◌||◌, nat_le, option_map, if◌then◌else◌}
use Rattle.std.proofs.lemmas.Bool.{cases_Bool, cases_lt, leb-false}
use Rattle.std.proofs.lemmas.Option.{same_Some}
use Rattle.tk_types.specs.declared.run.Outcome.{Outcome}
use Rattle.tk_types.specs.declared.run.Start.TheVariants.{Ready}
use Rattle.tk_journal.specs.declared.act.Act.{Act}
use Rattle.tk_journal.specs.declared.act.Act.TheVariants as acts
use Rattle.tk_journal.specs.declared.entry.Actor.TheVariants as actors
use Rattle.tk_journal.specs.declared.act.Closing.TheVariants as closings
use Rattle.tk_journal.specs.declared.entry.Entry.{Entry}
use Rattle.tk_journal.specs.declared.entry.Fronts.{Fronts}
use Rattle.tk_journal.specs.declared.object.Plan.{Plan}
use Rattle.tk_journal.specs.declared.object.Ending.{Ending}
use Rattle.tk_journal.specs.declared.object.TaskRunState.{TaskRunState}
use Rattle.tk_journal.specs.declared.object.PodState.{PodState}
use Rattle.tk_journal.specs.declared.object.EndedPod.{EndedPod}
use Rattle.tk_journal.specs.Lists.{IsThere}
use Rattle.tk_journal.specs.History.{View, view_at, past}
use Rattle.tk_journal.specs.Rows.{IsJustified}
use Rattle.tk_journal.specs.TaskRunRows.{IsOpenAttempt, NoneOpen, OpenRow, MakePodRow, CloseAttemptRow, CloseTaskRunRow}
use Rattle.tk_journal.specs.Plan.{plan_of}
use Rattle.tk_names.specs.Children.{pod_name}
use Rattle.tk_journal.specs.Choice.{place_of, order_of, IsBefore, MayChoose, IsChoice, HasNoChoice}
use Rattle.tk_journal.specs.Legal.{IsLegal}
use Rattle.tk_journal.proofs.Search.{task_run_named}
use Rattle.tk_journal.proofs.Statements as laws_of
use Rattle.tk_choice.proofs.First.{IsFirst, first_of, none_of}
use Rattle.tk_task_cache.specs.Acting.{open_from}
use Rattle.tk_taskrec.specs.Choice.{starts_ready, close_by, make_pod, act_without, act_by_pod, act_by_open, act_of, act_at, choice}
use Rattle.tk_taskrec.specs.Laws.{ChoiceIsFirst, NoneIsLeft}
use Rattle.tk_taskrec.proofs.Justified.{open_is, none_open, not_over, may_choice}

-- what a TaskRun of a legal history has: at most one open attempt, and none once it is closed
pub record IsOrderly (task_run : TaskRunState) : Type 0 where
  pub one_open : (p q : ℕ) → IsOpenAttempt task_run.attempts p → IsOpenAttempt task_run.attempts q → p ≡ q
  pub over : IsThere task_run.closed → NoneOpen task_run.attempts

abbrev pub AreOrderly : View → Type 0
AreOrderly view = (name : List ℕ) (task_run : TaskRunState) → view.task_run name ≡ Some task_run → IsOrderly task_run

abbrev pub AreListed : View → Type 0
AreListed view = (name : List ℕ) (task_run : TaskRunState) → view.task_run name ≡ Some task_run → Contains view.task_runs name

ranked : (a b : ℕ) → a ≤ b → IsBefore (a ∷ []) (b ∷ [])
ranked a b le = elim (cases_lt a b) [
  | inl less ↦ inl less
  | inr more ↦ inr (omega (arith, le, more), tt)
]

module _ (view : View) (number moment : ℕ) where
  -- an act of this rank is justified of the TaskRun
  abbrev IsOpenTo : List ℕ → TaskRunState → ℕ → Type 0
  IsOpenTo name task_run zero = ((outcome : Outcome) × CloseAttemptRow view name outcome task_run) ⊎ CloseTaskRunRow task_run
  IsOpenTo name task_run (suc zero) = OpenRow task_run
  IsOpenTo name task_run (suc (suc rank)) = (pod : List ℕ) × (attempt : ℕ) × (plan : Plan) × (mark : Bool) × MakePodRow pod name attempt plan mark task_run × (view.pod pod ≡ None)

  -- the TaskRun of an act that is justified, and its rank
  record IsOf (act : Act) : Type 0 where
    name : List ℕ
    task_run : TaskRunState
    is : view.task_run name ≡ Some task_run
    rank : ℕ
    order : order_of view act ≡ place_of name view.task_runs ∷ rank ∷ []
    may : IsOpenTo name task_run rank

  of : (act : Act) → MayChoose act → IsJustified view (actors.Tasks number) moment act → IsOf act
  of (acts.Admit name spec pending asked root) mine justified = absurd mine
  of (acts.Ask name status) mine justified = absurd mine
  of (acts.Start name) mine justified = absurd justified.0
  of (acts.Schedule name task bindings) mine justified = absurd justified.0
  of (acts.MakeTaskRun name run task index mark) mine justified = absurd justified.0
  of (acts.Halt name stop) mine justified = absurd justified.0
  of (acts.CancelTaskRun name) mine justified = absurd justified.0
  of (acts.OpenAttempt name) mine justified = record { name = name; task_run = justified.1.it; is = justified.1.is; rank = 1; order = refl; may = justified.1.has }
  of (acts.MakePod name task_run attempt plan mark) mine justified = record { name = task_run; task_run = justified.1.it; is = justified.1.is; rank = 2; order = refl; may = (name, attempt, plan, mark, justified.1.has, justified.2) }
  of (acts.ClaimPod name) mine justified = let by = justified.has.by in absurd (cc (by))
  of (acts.EndPod name exits outcome) mine justified = let by = justified.has.by in absurd (cc (by))
  of (acts.Close name (closings.Attempt outcome)) mine justified = record { name = name; task_run = justified.1.it; is = justified.1.is; rank = 0; order = refl; may = inl (outcome, justified.1.has) }
  of (acts.Close name closings.TaskRun) mine justified = record { name = name; task_run = justified.1.it; is = justified.1.is; rank = 0; order = refl; may = inr justified.1.has }
  of (acts.Close name (closings.Run condition skipped results)) mine justified = absurd justified.0

  -- nothing of a rank below this one is justified, and nothing at all where nothing is found
  abbrev NoneBelow : List ℕ → TaskRunState → Option Act → Type 0
  NoneBelow name task_run None = (rank : ℕ) → IsOpenTo name task_run rank → ⊥
  NoneBelow name task_run (Some act) = (least : ℕ) × (order_of view act ≡ place_of name view.task_runs ∷ least ∷ []) × ((rank : ℕ) → IsOpenTo name task_run rank → least ≤ rank)

  module _ (name : List ℕ) (task_run : TaskRunState) (orderly : IsOrderly task_run) where
    -- a closed one is over
    none_of_closed : IsThere task_run.closed → (rank : ℕ) → IsOpenTo name task_run rank → ⊥
    none_of_closed closed zero (inl (outcome, row)) = let a = closed.1 in let b = row.not_closed in absurd (cc (a, b))
    none_of_closed closed zero (inr row) = let a = closed.1 in let b = row.not_closed in absurd (cc (a, b))
    none_of_closed closed (suc zero) row = let a = closed.1 in let b = row.not_closed in absurd (cc (a, b))
    none_of_closed closed (suc (suc rank)) (pod, attempt, plan, mark, row, absent) = orderly.over closed row.place row.is_open

    -- while an attempt is open nothing else begins
    begins_none : (place : ℕ) → IsOpenAttempt task_run.attempts place → OpenRow task_run → ⊥
    begins_none place is_open row = row.none_open place is_open

    pod_of_open : (place : ℕ) → IsOpenAttempt task_run.attempts place → (pod : List ℕ) (attempt : ℕ) (plan : Plan) (mark : Bool) → MakePodRow pod name attempt plan mark task_run → pod ≡ pod_name name (suc place)
    pod_of_open place is_open pod attempt plan mark row =
        let same = orderly.one_open row.place place row.is_open is_open in
        row.named ∙ ap (λ (n : ℕ). pod_name name n) (row.number ∙ ap suc same)

    -- the pod is still to be made
    below_pod : (place : ℕ) → IsOpenAttempt task_run.attempts place → view.pod (pod_name name (suc place)) ≡ None → (rank : ℕ) → IsOpenTo name task_run rank → 2 ≤ rank
    below_pod place is_open absent zero (inl (outcome, row)) =
        let same = orderly.one_open row.place place row.is_open is_open in
        let there = subst (λ (p : ℕ). view.pod (pod_name name (suc p)) ≡ Some row.pod_ended.it) same row.pod_ended.is in
        absurd (cc (there, absent))
    below_pod place is_open absent zero (inr row) = absurd (row.none_open place is_open)
    below_pod place is_open absent (suc zero) row = absurd (begins_none place is_open row)
    below_pod place is_open absent (suc (suc rank)) row = omega arith

    -- the pod can't be made
    none_without_plan : (place : ℕ) → IsOpenAttempt task_run.attempts place → view.pod (pod_name name (suc place)) ≡ None → plan_of task_run (suc place) ≡ None → (rank : ℕ) → IsOpenTo name task_run rank → ⊥
    none_without_plan place is_open absent none zero row = let two = below_pod place is_open absent zero row in omega (arith, two)
    none_without_plan place is_open absent none (suc zero) row = let two = below_pod place is_open absent (suc zero) row in omega (arith, two)
    none_without_plan place is_open absent none (suc (suc rank)) (pod, attempt, plan, mark, row, gone) =
        let same = orderly.one_open row.place place row.is_open is_open in
        let planned = subst (λ (n : ℕ). plan_of task_run n ≡ Some plan) (row.number ∙ ap suc same) row.planned in
        absurd (cc (planned, none))

    -- the pod is still running
    none_while_running : (place : ℕ) → IsOpenAttempt task_run.attempts place → (pod : PodState) → view.pod (pod_name name (suc place)) ≡ Some pod → pod.ended ≡ None → (rank : ℕ) → IsOpenTo name task_run rank → ⊥
    none_while_running place is_open pod at_pod running zero (inl (outcome, row)) =
        let same = orderly.one_open row.place place row.is_open is_open in
        let there = subst (λ (p : ℕ). view.pod (pod_name name (suc p)) ≡ Some row.pod_ended.it) same row.pod_ended.is in
        let pods = ap (λ (p : PodState). p.ended) (same_Some pod row.pod_ended.it (sym at_pod ∙ there)) in
        let ended = row.pod_ended.has.is in
        absurd (cc (pods, ended, running))
    none_while_running place is_open pod at_pod running zero (inr row) = absurd (row.none_open place is_open)
    none_while_running place is_open pod at_pod running (suc zero) row = begins_none place is_open row
    none_while_running place is_open pod at_pod running (suc (suc rank)) (name_of, attempt, plan, mark, row, absent) =
        let named = pod_of_open place is_open name_of attempt plan mark row in
        let gone = subst (λ (n : List ℕ). view.pod n ≡ None) named absent in
        absurd (cc (gone, at_pod))

    -- no attempt is open
    below_begin : NoneOpen task_run.attempts → (task_run.marked ≡ false) → task_run.spec.start ≡ Ready → (rank : ℕ) → IsOpenTo name task_run rank → 1 ≤ rank
    below_begin none unmarked ready zero (inl (outcome, row)) = absurd (none row.place row.is_open)
    below_begin none unmarked ready zero (inr row) = elim row.over [
      | inl marked ↦ absurd (cc (marked, unmarked))
      | inr unready ↦ absurd (unready ready)
    ]
    below_begin none unmarked ready (suc rank) row = omega arith

    none_is_left_of : NoneOpen task_run.attempts → (task_run.marked ≡ false) → task_run.spec.start ≡ Ready → task_run.spec.retries < length task_run.attempts → (rank : ℕ) → IsOpenTo name task_run rank → ⊥
    none_is_left_of none unmarked ready full zero row = let one = below_begin none unmarked ready zero row in omega (arith, one)
    none_is_left_of none unmarked ready full (suc zero) row = let more = row.more in omega (arith, more, full)
    none_is_left_of none unmarked ready full (suc (suc rank)) (pod, attempt, plan, mark, row, absent) = none row.place row.is_open

    by_end : (place : ℕ) → IsOpenAttempt task_run.attempts place → (pod : PodState) → view.pod (pod_name name (suc place)) ≡ Some pod → (ended : Option EndedPod) → pod.ended ≡ ended → NoneBelow name task_run (close_by name ended)
    by_end place is_open pod at_pod None running = none_while_running place is_open pod at_pod running
    by_end place is_open pod at_pod (Some ended) at_end = (0, refl, λ rank row. omega arith)

    by_plan : (place : ℕ) → IsOpenAttempt task_run.attempts place → view.pod (pod_name name (suc place)) ≡ None → (plan : Option Plan) → plan_of task_run (suc place) ≡ plan → NoneBelow name task_run (option_map (make_pod name task_run (suc place)) plan)
    by_plan place is_open absent None none = none_without_plan place is_open absent none
    by_plan place is_open absent (Some plan) planned = (2, refl, below_pod place is_open absent)

    by_pod : (place : ℕ) → IsOpenAttempt task_run.attempts place → (pod : Option PodState) → view.pod (pod_name name (suc place)) ≡ pod → NoneBelow name task_run (act_by_pod name task_run (suc place) pod)
    by_pod place is_open None absent = by_plan place is_open absent (plan_of task_run (suc place)) refl
    by_pod place is_open (Some pod) at_pod = by_end place is_open pod at_pod pod.ended refl

    by_none : NoneOpen task_run.attempts → NoneBelow name task_run (act_without name task_run)
    by_none none = elim (cases_Bool (task_run.marked || not (starts_ready task_run.spec.start))) [
      | inl hit ↦ rw hit (0, refl, λ rank row. omega arith)
      | inr miss ↦
          let calm = not_over task_run.marked task_run.spec.start miss in
          elim (cases_Bool (nat_le (length task_run.attempts) task_run.spec.retries)) [
            | inl more ↦ rw (miss, more) (1, refl, below_begin none calm.0 calm.1)
            | inr full ↦ rw (miss, full) (none_is_left_of none calm.0 calm.1 (leb-false (length task_run.attempts) task_run.spec.retries full))
          ]
    ]

    by_open : (o : Option ℕ) → open_from 0 task_run.attempts ≡ o → NoneBelow name task_run (act_by_open view name task_run o)
    by_open None at_open = by_none (none_open 0 task_run.attempts at_open)
    by_open (Some place) at_open =
        let found = open_is 0 task_run.attempts place at_open in
        let same = found.is in
        let k_is : found.k ≡ place = omega (arith, same) in
        by_pod place (subst (IsOpenAttempt task_run.attempts) k_is found.open_one) (view.pod (pod_name name (suc place))) refl

    by_closed : (closed : Option Ending) → task_run.closed ≡ closed → NoneBelow name task_run (if is_some closed then None else act_by_open view name task_run (open_from 0 task_run.attempts))
    by_closed None at_closed = by_open (open_from 0 task_run.attempts) refl
    by_closed (Some ending) at_closed = none_of_closed (ending, at_closed)

    least_of : NoneBelow name task_run (act_of view name task_run)
    least_of = by_closed task_run.closed refl

  abbrev gives : List ℕ → Option Act
  gives name = act_at view name (view.task_run name)

  module _ (orderly : AreOrderly view) (listed : AreListed view) where
    none_at : (act : Act) (it : IsOf act) → gives it.name ≡ None → ⊥
    none_at act it none =
        let here : act_of view it.name it.task_run ≡ None = ap (act_at view it.name) (sym it.is) ∙ none in
        subst (NoneBelow it.name it.task_run) here (least_of it.name it.task_run (orderly it.name it.task_run it.is)) it.rank it.may

    pub none_left : choice view ≡ None → HasNoChoice view (actors.Tasks number) moment
    none_left none act mine justified =
        let it = of act mine justified in
        none_at act it (none_of gives view.task_runs it.name none (listed it.name it.task_run it.is))

    before_same : (name : List ℕ) (act other : Act) (it : IsOf other) → it.name ≡ name → gives name ≡ Some act → IsBefore (order_of view act) (order_of view other)
    before_same name act other it same given =
        let here : act_of view it.name it.task_run ≡ Some act = ap (act_at view it.name) (sym it.is) ∙ ap gives same ∙ given in
        let least = subst (NoneBelow it.name it.task_run) here (least_of it.name it.task_run (orderly it.name it.task_run it.is)) in
        let within : least.0 ≤ it.rank = least.2 it.rank it.may in
        subst (λ (o : List ℕ). IsBefore o (order_of view other)) (sym least.1) (subst (IsBefore (place_of it.name view.task_runs ∷ least.0 ∷ [])) (sym it.order) (inr (refl, ranked least.0 it.rank within)))

    place_first : (name : List ℕ) (o : Option TaskRunState) (act : Act) → view.task_run name ≡ o → act_at view name o ≡ Some act → (rank : ℕ) × (order_of view act ≡ place_of name view.task_runs ∷ rank ∷ [])
    place_first name None act there given = absurd (cc (given))
    place_first name (Some task_run) act there given =
        let least = subst (NoneBelow name task_run) given (least_of name task_run (orderly name task_run there)) in
        (least.0, least.1)

    before_other : (act : Act) → IsFirst gives view.task_runs act → (other : Act) → IsOf other → IsBefore (order_of view act) (order_of view other)
    before_other act chosen other it = elim (chosen.later it.name) [
      | inr (inl same) ↦ before_same chosen.name act other it same chosen.given
      | inr (inr none) ↦ absurd (none_at other it none)
      | inl less ↦
          let mine = place_first chosen.name (view.task_run chosen.name) act refl chosen.given in
          subst (λ (o : List ℕ). IsBefore o (order_of view other)) (sym mine.1) (subst (IsBefore (place_of chosen.name view.task_runs ∷ mine.0 ∷ [])) (sym it.order) (inl less))
    ]

    chosen_may : (act : Act) → IsJustified view (actors.Tasks number) moment act → choice view ≡ Some act → MayChoose act
    chosen_may (acts.Admit name spec pending asked root) justified is = absurd (cc (justified))
    chosen_may (acts.Ask name status) justified is = let by = justified.0 in absurd (cc (by))
    chosen_may act justified is = tt

    pub is_choice : (act : Act) → choice view ≡ Some act → IsChoice view (actors.Tasks number) moment act
    is_choice act is =
        let may = may_choice view number moment act is in
        record {
          mine = chosen_may act may is;
          justified = may;
          first = λ other mine justified. before_other act (first_of gives view.task_runs act is) other (of other mine justified);
        }

-- a legal history's TaskRuns are so

orderly_at : (fronts : Fronts) (history : List Entry) → IsLegal history → AreOrderly (view_at fronts history)
orderly_at fronts history legal name task_run is =
    let lasting = (laws_of.lasting history legal fronts.task_runs).0.task_runs name task_run is in
    record {
      one_open = λ p q at_p at_q. let a = lasting.last_open p at_p in let b = lasting.last_open q at_q in omega (arith, a, b);
      over = λ closed. lasting.over closed.0 closed.1;
    }

listed_at : (fronts : Fronts) (history : List Entry) → AreListed (view_at fronts history)
listed_at fronts history name task_run is = task_run_named (past fronts.task_runs history) name task_run is

pub choice_is_first : ChoiceIsFirst
choice_is_first history legal fronts number moment act is = is_choice (view_at fronts history) number moment (orderly_at fronts history legal) (listed_at fronts history) act is

pub none_is_left : NoneIsLeft
none_is_left history legal fronts number moment none = none_left (view_at fronts history) number moment (orderly_at fronts history legal) (listed_at fronts history) none
