-- The exits of a held pod's steps are those that its host tells, and behind a walk that is over only steps wait.
use Rattle.std.proofs.Common.{◌≡◌, ℕ, zero, suc, ◌<◌, ◌≤◌, ◌+◌, ◌==◌, List, [], ◌∷◌, length, get_or, Option, Some, None, is_some, Bool, true, false, refl, sym, ◌∙◌, ap, subst, inl, inr, arith, slice_get, eqb-true}
use Rattle.std.specs.Prelude.{if◌then◌else◌}
use Rattle.std.specs.List.{cons_option}
use Rattle.std.proofs.lemmas.Bool.{cases_Bool}
use Rattle.std.proofs.lemmas.Option.{same_Some, slice_get_within}
use Rattle.tk_pod.specs.Walk.{broken_from, or_well, passes_at}
use Rattle.tk_pod.specs.declared.walk.Walked.{Walked}
use Rattle.tk_pod.specs.declared.walk.Walked.TheVariants.{Well}
use Rattle.tk_edge.specs.declared.event.Event.{Event}
use Rattle.tk_edge.specs.declared.event.Arming.{Arming}
use Rattle.tk_edge.specs.declared.order.Order.{Order}
use Rattle.tk_edge.specs.History.{exit_of, order_of}
use Rattle.tk_edge.specs.InOrder.{Pods}
use Rattle.tk_edge.proofs.InOrder.{exit_started, armed_with, started_due}
use Rattle.tk_journal.specs.declared.object.Plan.{Plan}
use Rattle.tk_journal.specs.declared.object.PodState.{PodState}
use Rattle.tk_journal.specs.PodRows.{walk_of}
use Rattle.tk_steps.specs.declared.held.HeldPod.{HeldPod}
use Rattle.tk_steps.specs.declared.held.HeldStep.{HeldStep}
use Rattle.tk_outcome.specs.Exits.{exits_of, is_walked}
use Rattle.tk_outcome.specs.Laws.{IsHeldInOrder}
use Rattle.tk_machine.specs.Hosts.{exits_from, exits_in, first_exit, step_exit}
use Rattle.tk_machine.specs.Kills.{BrokeBefore}
use Rattle.tk_machine.proofs.Exits.{exit_at, found_exit}

-- lists of steps, of which none ended behind one that runs

abbrev IsDense : List HeldStep → Type 0
IsDense steps =
    (i j exit : ℕ) (s t : HeldStep) → i < j → slice_get steps i ≡ Some s → slice_get steps j ≡ Some t → t.exit ≡ Some exit
    → (before : ℕ) × (s.exit ≡ Some before)

dense_rest : (s : HeldStep) (steps : List HeldStep) → IsDense (s ∷ steps) → IsDense steps
dense_rest s steps dense i j exit a b below at_i at_j is = dense (suc i) (suc j) exit a b (omega (arith, below)) at_i at_j is

none_exit : (o : Option ℕ) → ((exit : ℕ) → o ≡ Some exit → ⊥) → o ≡ None
none_exit None never = refl
none_exit (Some exit) never = absurd (never exit refl)

none_ended : (steps : List HeldStep) → ((p : ℕ) (t : HeldStep) → slice_get steps p ≡ Some t → t.exit ≡ None) → exits_of steps ≡ []
none_ended [] none = refl
none_ended (s ∷ steps) none = ap (λ (o : Option ℕ). cons_option o (exits_of steps)) (none 0 s refl) ∙ none_ended steps (λ p t at. none (suc p) t at)

-- behind one that runs none ended
none_behind : (s : HeldStep) (steps : List HeldStep) → IsDense (s ∷ steps) → s.exit ≡ None → exits_of steps ≡ []
none_behind s steps dense runs = none_ended steps (λ p t at. none_exit t.exit (λ exit is.
    let before = dense 0 (suc p) exit s t (omega arith) refl at is in
    let bad : None ≡ Some before.0 = sym runs ∙ before.1 in
    cc (bad)))

few_before : (steps : List HeldStep) → IsDense steps → (place : ℕ) (s : HeldStep) → slice_get steps place ≡ Some s → s.exit ≡ None → length (exits_of steps) ≤ place
few_before [] dense place s at runs = cc
few_before (t ∷ steps) dense zero s at runs =
    let here : t.exit ≡ None = ap (λ (x : HeldStep). x.exit) (same_Some t s at) ∙ runs in
    let none : exits_of (t ∷ steps) ≡ [] = ap (λ (o : Option ℕ). cons_option o (exits_of steps)) here ∙ none_behind t steps dense here in
    omega (arith, ap length none)
few_before (t ∷ steps) dense (suc place) s at runs = by_exit t.exit (few_before steps (dense_rest t steps dense) place s at runs)
  where
    by_exit : (o : Option ℕ) → length (exits_of steps) ≤ place → length (cons_option o (exits_of steps)) ≤ suc place
    by_exit None few = omega (arith, few)
    by_exit (Some exit) few = omega (arith, few)

-- the step that ended so
record HasEnded (steps : List HeldStep) (place : ℕ) : Type 0 where
  pub step : HeldStep
  pub at : slice_get steps place ≡ Some step
  pub is : step.exit ≡ Some (get_or (exits_of steps) place 0)

ended_at : (steps : List HeldStep) → IsDense steps → (place : ℕ) → place < length (exits_of steps) → HasEnded steps place
ended_at [] dense place below = absurd (omega (arith, below))
ended_at (t ∷ steps) dense place below = by_exit t.exit refl (λ p less. ended_at steps (dense_rest t steps dense) p less) place below
  where
    by_exit : (o : Option ℕ) → t.exit ≡ o → ((p : ℕ) → p < length (exits_of steps) → HasEnded steps p) → (p : ℕ) → p < length (cons_option o (exits_of steps)) → HasEnded (t ∷ steps) p
    by_exit None runs later p less = absurd (omega (arith, less, ap length (none_behind t steps dense runs)))
    by_exit (Some exit) is later zero less = record { step = t; at = refl; is = is ∙ ap (λ (o : Option ℕ). Some (get_or (cons_option o (exits_of steps)) 0 0)) (sym is) }
    by_exit (Some exit) is later (suc p) less =
        let rest = later p (omega (arith, less)) in
        record { step = rest.step; at = rest.at; is = rest.is ∙ ap (λ (o : Option ℕ). Some (get_or (cons_option o (exits_of steps)) (suc p) 0)) (sym is) }

-- the first exit of a walk that doesn't pass

record IsBrokenAt (keep first : ℕ) (exits : List ℕ) : Type 0 where
  place : ℕ
  within : place < length exits
  broke : passes_at keep (first + place) (get_or exits place 0) ≡ false

broken_at : (keep first : ℕ) (exits : List ℕ) (w : Walked) → broken_from keep first exits ≡ Some w → IsBrokenAt keep first exits
broken_at keep first [] w is = cc (is)
broken_at keep first (exit ∷ exits) w is = elim (cases_Bool (passes_at keep first exit)) [
  | inl hit ↦
      let rest = broken_at keep (first + 1) exits w (rw hit at is) in
      let on : (first + 1) + rest.place ≡ first + suc rest.place = omega arith in
      record { place = suc rest.place; within = omega (arith, rest.within); broke = ap (λ (n : ℕ). passes_at keep n (get_or exits rest.place 0)) (sym on) ∙ rest.broke }
  | inr miss ↦ (let here : first + 0 ≡ first = omega arith in record { place = 0; within = omega arith; broke = ap (λ (n : ℕ). passes_at keep n exit) here ∙ miss })
]

module _ (root : List ℕ) (killed : ℕ → Bool) (pods : Pods) (told : List Event) (pod : HeldPod) (held : IsHeldInOrder root killed pods told pod) where
  abbrev steps : List HeldStep
  steps = pod.steps.items

  -- a held step that has an exit, or a child of the pod's that has one

  record RanAs (place : ℕ) (step : HeldStep) (exit : ℕ) : Type 0 where
    pub order : Order
    pub started : order_of step.child told ≡ Some order
    pub same_pod : order.pod ≡ pod.name
    pub same_step : order.step ≡ place
    pub exited : exit_of step.child told ≡ Some exit

  ran_as : (place : ℕ) (step : HeldStep) (exit : ℕ) → slice_get steps place ≡ Some step → step.exit ≡ Some exit → RanAs place step exit
  ran_as place step exit at is =
      let kept = held.kept in
      let holds = held.holds.steps place step at in
      let exited : exit_of step.child told ≡ Some exit = sym holds.exit ∙ is in
      let start = exit_started step.child exit told kept.told exited in
      let entry = armed_with step.child start.it told kept.told kept.armed.starts start.is in
      let same : entry.it ≡ holds.arming = same_Some entry.it holds.arming (sym entry.is ∙ holds.armed) in
      let order : start.it ≡ holds.arming.order = entry.has ∙ ap (λ (a : Arming). a.order) same in
      record {
        order = start.it;
        started = start.is;
        same_pod = ap (λ (o : Order). o.pod) order ∙ holds.same_pod;
        same_step = ap (λ (o : Order). o.step) order ∙ holds.same_step;
        exited = exited;
      }

  -- the held step of a child of this pod that was started
  record HeldAs (place child : ℕ) : Type 0 where
    pub step : HeldStep
    pub at : slice_get steps place ≡ Some step
    pub exit : step.exit ≡ exit_of child told

  held_as : (place child : ℕ) (order : Order) → order_of child told ≡ Some order → order.pod ≡ pod.name → order.step ≡ place → HeldAs place child
  held_as place child order started same_pod same_step =
      let kept = held.kept in
      let entry = armed_with child order told kept.told kept.armed.starts started in
      let found = held.holds.all child entry.it entry.is (ap (λ (o : Order). o.pod) (sym entry.has) ∙ same_pod) in
      let at : slice_get steps place ≡ Some found.0 = subst (λ (n : ℕ). slice_get steps n ≡ Some found.0) (ap (λ (o : Order). o.step) (sym entry.has) ∙ same_step) found.1 in
      record { step = found.0; at = at; exit = (held.holds.steps place found.0 at).exit ∙ ap (λ (c : ℕ). exit_of c told) found.2 }

  pub dense : IsDense steps
  dense i j exit s t below at_i at_j is =
      let ran = ran_as j t exit at_j is in
      let due = started_due pods t.child ran.order told held.kept.told held.kept.in_order.due ran.started in
      let passed = due.earlier i (omega (arith, below, ran.same_step)) in
      let before = held_as i passed.child passed.order passed.started (passed.same_pod ∙ ran.same_pod) passed.same_step in
      let same : s ≡ before.step = same_Some s before.step (sym at_i ∙ before.at) in
      (passed.exit, ap (λ (x : HeldStep). x.exit) same ∙ (before.exit ∙ passed.exited))

  -- what is told of a step is what is held of it

  abbrev exit_told : ℕ → Option ℕ
  exit_told place = step_exit pod.name place told told

  told_some : (place : ℕ) (step : HeldStep) (exit : ℕ) → slice_get steps place ≡ Some step → step.exit ≡ Some exit → exit_told place ≡ Some exit
  told_some place step exit at is =
      let ran = ran_as place step exit at is in
      exit_at pods told held.kept.told held.kept.in_order.due pod.name held.claimed held.is_claimed step.child ran.order place exit ran.started ran.same_pod ran.same_step ran.exited

  told_from : (place exit : ℕ) → exit_told place ≡ Some exit → (step : HeldStep) × (slice_get steps place ≡ Some step) × (step.exit ≡ Some exit)
  told_from place exit is =
      let found = found_exit told told pod.name place exit held.kept.told is in
      let has = held_as place found.child found.order found.started found.same_pod found.same_step in
      (has.step, has.at, has.exit ∙ found.exited)

  told_held : (place : ℕ) (step : HeldStep) → slice_get steps place ≡ Some step → exit_told place ≡ step.exit
  told_held place step at = by_exit step.exit refl
    where
      by_exit : (o : Option ℕ) → step.exit ≡ o → exit_told place ≡ o
      by_exit (Some exit) is = told_some place step exit at is
      by_exit None runs = none_exit (exit_told place) (λ exit is.
          let from = told_from place exit is in
          let same : step ≡ from.0 = same_Some step from.0 (sym at ∙ from.1) in
          let bad : None ≡ Some exit = sym runs ∙ (ap (λ (x : HeldStep). x.exit) same ∙ from.2) in
          cc (bad))

  told_none : (place : ℕ) → slice_get steps place ≡ None → exit_told place ≡ None
  told_none place none = none_exit (exit_told place) (λ exit is.
      let from = told_from place exit is in
      let bad : None ≡ Some from.0 = sym none ∙ from.1 in
      cc (bad))

  gathers : (first : ℕ) (rest : List HeldStep) (count : ℕ) → ((p : ℕ) (s : HeldStep) → slice_get rest p ≡ Some s → exit_told (first + p) ≡ s.exit) → ((p : ℕ) → slice_get rest p ≡ None → exit_told (first + p) ≡ None)
      → length rest ≤ count → IsDense rest → exits_from pod.name told first count ≡ exits_of rest
  gathers first [] zero some none few tight = refl
  gathers first [] (suc count) some none few tight =
      let here : exit_told first ≡ None = ap exit_told (omega arith) ∙ none 0 refl in
      ap (λ (o : Option ℕ). first_exit o (exits_from pod.name told (suc first) count)) here
  gathers first (s ∷ rest) zero some none few tight = absurd (omega (arith, few))
  gathers first (s ∷ rest) (suc count) some none few tight =
      ap (λ (o : Option ℕ). first_exit o (exits_from pod.name told (suc first) count)) here
      ∙ by_exit s.exit refl (gathers (suc first) rest count (λ p t at. ap exit_told (next p) ∙ some (suc p) t at) (λ p at. ap exit_told (next p) ∙ none (suc p) at) (omega (arith, few)) (dense_rest s rest tight))
    where
      here : exit_told first ≡ s.exit
      here = ap exit_told (omega arith) ∙ some 0 s refl

      next : (p : ℕ) → suc first + p ≡ first + suc p
      next p = omega arith

      by_exit : (o : Option ℕ) → s.exit ≡ o → exits_from pod.name told (suc first) count ≡ exits_of rest → first_exit o (exits_from pod.name told (suc first) count) ≡ cons_option o (exits_of rest)
      by_exit None runs behind = sym (none_behind s rest tight runs)
      by_exit (Some exit) is behind = ap (λ (es : List ℕ). exit ∷ es) behind

  from_zero : (p : ℕ) → 0 + p ≡ p
  from_zero p = omega arith

  -- its exits are those that are told of it
  pub exits_are_told : (state : PodState) → state.plan ≡ pod.plan → exits_in pod.name state told ≡ exits_of steps
  exits_are_told state plan =
      let enough : length state.plan.orders ≡ length pod.plan.orders = ap (λ (p : Plan). length p.orders) plan in
      gathers 0 steps (length state.plan.orders) (λ p s at. ap exit_told (from_zero p) ∙ told_held p s at) (λ p at. ap exit_told (from_zero p) ∙ told_none p at) (omega (arith, enough, held.within)) dense

  -- a step that ended, where there are exits
  pub first_ran : 0 < length (exits_of steps) → (child : ℕ) × (order : Order) × (order_of child told ≡ Some order) × (order.pod ≡ pod.name)
  first_ran some =
      let ended = ended_at steps dense 0 some in
      let ran = ran_as 0 ended.step _ ended.at ended.is in
      (ended.step.child, ran.order, ran.started, ran.same_pod)

  -- a step without an exit, where the walk is over, stands behind one that broke
  pub behind_broke : (place : ℕ) (step : HeldStep) → slice_get steps place ≡ Some step → step.exit ≡ None → is_walked pod ≡ true → BrokeBefore pod.plan.keep pod.name place told
  behind_broke place step at runs over = by_broken (broken_from pod.plan.keep 0 (exits_of steps)) refl over
    where
      few : length (exits_of steps) ≤ place
      few = few_before steps dense place step at runs

      by_length : (whole : Bool) → (length (exits_of steps) == length pod.plan.orders) ≡ whole → is_some (if whole then Some Well else None) ≡ true → BrokeBefore pod.plan.keep pod.name place told
      by_length true whole is =
          let all : length (exits_of steps) ≡ length pod.plan.orders = eqb-true (length (exits_of steps)) (length pod.plan.orders) whole in
          let below : place < length steps = slice_get_within steps place step at in
          absurd (omega (arith, all, below, few, held.within))
      by_length false some is = cc (is)

      by_broken : (o : Option Walked) → broken_from pod.plan.keep 0 (exits_of steps) ≡ o → is_some (or_well (walk_of pod.plan (exits_of steps)) o) ≡ true → BrokeBefore pod.plan.keep pod.name place told
      by_broken None none is = by_length (length (exits_of steps) == length pod.plan.orders) refl is
      by_broken (Some w) is_broken is =
          let broke = broken_at pod.plan.keep 0 (exits_of steps) w is_broken in
          let ended = ended_at steps dense broke.place broke.within in
          let ran = ran_as broke.place ended.step _ ended.at ended.is in (
            broke.place,
            omega (arith, broke.within, few),
            record {
              child = ended.step.child;
              order = ran.order;
              started = ran.started;
              same_pod = ran.same_pod;
              same_step = ran.same_step;
              exit = get_or (exits_of steps) broke.place 0;
              exited = ran.exited;
              broke = ap (λ (n : ℕ). passes_at pod.plan.keep n (get_or (exits_of steps) broke.place 0)) (omega arith) ∙ broke.broke;
            },
          )
