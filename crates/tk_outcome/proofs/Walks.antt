-- The exits of a held pod's steps, and its walk through them.
use Rattle.std.proofs.Common.{◌≡◌, ◌≢◌, ℕ, zero, suc, ◌<◌, ◌≤◌, ◌+◌, List, [], ◌∷◌, ◌++◌, length, get_or, take, drop, Option, Some, None, is_some, is_none, Bool, true, false, cond, ◌==◌, refl, sym, ◌∙◌, ap, subst, inl, inr, arith, slice_get, filter_map, nat_eq, length-append, eqb-true, append-nil}
use Rattle.std.specs.List.{cons_option}
use Rattle.std.proofs.lemmas.Bool.{cases_Bool}
use Rattle.std.proofs.lemmas.Bool.Decides.{nat_tests}
use Rattle.std.proofs.lemmas.List.Elements.{filter_map-append}
use Rattle.std.proofs.lemmas.List.{get_or_default}
use Rattle.std.proofs.lemmas.Option.{same_Some}
use Rattle.tk_pod.specs.Exits.{continues, passes}
use Rattle.tk_pod.specs.Walk.{Walk, broken, broken_from, or_well, passes_at, walked, next_step}
use Rattle.tk_pod.specs.declared.walk.Walked.{Walked}
use Rattle.tk_pod.specs.declared.walk.Walked.TheVariants.{Well, Broke}
use Rattle.tk_edge.specs.declared.event.Event.{Event}
use Rattle.tk_edge.specs.declared.event.Arming.{Arming}
use Rattle.tk_edge.specs.declared.order.Order.{Order}
use Rattle.tk_edge.specs.History.{Has, exit_of}
use Rattle.tk_edge.specs.InOrder.{Claimed, Pods}
use Rattle.tk_edge.proofs.InOrder.{exit_started, armed_with, started_due}
use Rattle.tk_journal.specs.declared.object.Plan.{Plan}
use Rattle.tk_journal.specs.PodRows.{walk_of, AreExits}
use Rattle.tk_steps.specs.declared.held.HeldPod.{HeldPod}
use Rattle.tk_steps.specs.declared.held.HeldStep.{HeldStep}
use Rattle.tk_outcome.specs.Exits.{exits_of}
use Rattle.tk_outcome.specs.Laws.{IsHeldInOrder}

-- lists of exits

pub few_exits : (steps : List HeldStep) → length (exits_of steps) ≤ length steps
few_exits [] = omega arith
few_exits (s ∷ steps) = go s.exit (few_exits steps)
  where
    go : (exit : Option ℕ) → length (exits_of steps) ≤ length steps → length (cons_option exit (exits_of steps)) ≤ suc (length steps)
    go None few = omega (arith, few)
    go (Some exit) few = omega (arith, few)

-- some step has an exit
record HasExit (steps : List HeldStep) : Type 0 where
  pub place : ℕ
  pub step : HeldStep
  pub exit : ℕ
  pub at : slice_get steps place ≡ Some step
  pub is : step.exit ≡ Some exit

some_exit : (steps : List HeldStep) → 0 < length (exits_of steps) → HasExit steps
some_exit [] some = absurd (omega (arith, some))
some_exit (s ∷ steps) some = go s.exit refl some (some_exit steps)
  where
    go : (exit : Option ℕ) → s.exit ≡ exit → 0 < length (cons_option exit (exits_of steps)) → (0 < length (exits_of steps) → HasExit steps) → HasExit (s ∷ steps)
    go (Some exit) is more rest = record { place = 0; step = s; exit = exit; at = refl; is = is }
    go None is more rest = let later = rest more in record { place = suc later.place; step = later.step; exit = later.exit; at = later.at; is = later.is }

-- each step before one that ended has an exit that passes
abbrev pub PassBefore : ℕ → ℕ → List HeldStep → Type 0
PassBefore keep first steps =
    (i j exit : ℕ) (s t : HeldStep) → i < j → slice_get steps i ≡ Some s → slice_get steps j ≡ Some t → t.exit ≡ Some exit
    → Has s.exit (λ e. passes_at keep (first + i) e ≡ true)

later_pass : (keep first : ℕ) (s : HeldStep) (steps : List HeldStep) → PassBefore keep first (s ∷ steps) → PassBefore keep (suc first) steps
later_pass keep first s steps pass i j exit a b below at_i at_j is_exit =
    let here = pass (suc i) (suc j) exit a b (omega (arith, below)) at_i at_j is_exit in
    let number : first + suc i ≡ suc first + i = omega arith in
    record { it = here.it; is = here.is; has = subst (λ (n : ℕ). passes_at keep n here.it ≡ true) number here.has }

-- each exit but the last passes
pub pass_all : (keep first : ℕ) (steps : List HeldStep) → PassBefore keep first steps → (k : ℕ) → k + 1 < length (exits_of steps)
    → passes_at keep (first + k) (get_or (exits_of steps) k 0) ≡ true
pass_all keep first [] pass k less = absurd (omega (arith, less))
pass_all keep first (s ∷ steps) pass k less = go s.exit refl k less (pass_all keep (suc first) steps (later_pass keep first s steps pass))
  where
    go : (exit : Option ℕ) → s.exit ≡ exit → (k : ℕ) → k + 1 < length (cons_option exit (exits_of steps))
        → ((n : ℕ) → n + 1 < length (exits_of steps) → passes_at keep (suc first + n) (get_or (exits_of steps) n 0) ≡ true)
        → passes_at keep (first + k) (get_or (cons_option exit (exits_of steps)) k 0) ≡ true
    go None none k more rest =
        let later = some_exit steps (omega (arith, more)) in
        let here = pass 0 (suc later.place) later.exit s later.step (omega arith) refl later.at later.is in
        let bad : None ≡ Some here.it = sym none ∙ here.is in
        cc
    go (Some exit) is zero more rest =
        let later = some_exit steps (omega (arith, more)) in
        let here = pass 0 (suc later.place) later.exit s later.step (omega arith) refl later.at later.is in
        let same : here.it ≡ exit = same_Some here.it exit (sym here.is ∙ is) in
        subst (λ (e : ℕ). passes_at keep (first + 0) e ≡ true) same here.has
    go (Some exit) is (suc k) more rest =
        let number : suc first + k ≡ first + suc k = omega arith in
        subst (λ (n : ℕ). passes_at keep n (get_or (exits_of steps) k 0) ≡ true) number (rest k (omega (arith, more)))

-- of a pod that is held in order

module _ (root : List ℕ) (killed : ℕ → Bool) (pods : Pods) (told : List Event) (pod : HeldPod) (held : IsHeldInOrder root killed pods told pod) where
  pass_before : PassBefore pod.plan.keep 0 pod.steps.items
  pass_before i j exit s t below at_i at_j is_exit =
      let kept = held.kept in
      let holds = held.holds in
      let later = holds.steps j t at_j in
      let ended : exit_of t.child told ≡ Some exit = sym later.exit ∙ is_exit in
      let start = exit_started t.child exit told kept.told ended in
      let entry = armed_with t.child start.it told kept.told kept.armed.starts start.is in
      let arming : entry.it ≡ later.arming = same_Some entry.it later.arming (sym entry.is ∙ later.armed) in
      let order : start.it ≡ later.arming.order = entry.has ∙ ap (λ (a : Arming). a.order) arming in
      let order_pod : start.it.pod ≡ pod.name = ap (λ (o : Order). o.pod) order ∙ later.same_pod in
      let order_step : start.it.step ≡ j = ap (λ (o : Order). o.step) order ∙ later.same_step in
      let due = started_due pods t.child start.it told kept.told kept.in_order.due start.is in
      let same_claim : due.claimed ≡ held.claimed = same_Some due.claimed held.claimed (sym due.is_claimed ∙ (ap pods order_pod ∙ held.is_claimed)) in
      let keep : due.claimed.keep ≡ pod.plan.keep = ap (λ (c : Claimed). c.keep) same_claim ∙ held.same_keep in
      let passed = due.earlier i (omega (arith, below, order_step)) in
      let sooner = armed_with passed.child passed.order told kept.told kept.armed.starts passed.started in
      let sooner_pod : sooner.it.order.pod ≡ pod.name = ap (λ (o : Order). o.pod) (sym sooner.has) ∙ (passed.same_pod ∙ order_pod) in
      let sooner_step : sooner.it.order.step ≡ i = ap (λ (o : Order). o.step) (sym sooner.has) ∙ passed.same_step in
      let found = holds.all passed.child sooner.it sooner.is sooner_pod in
      let at : slice_get pod.steps.items i ≡ Some found.0 = subst (λ (n : ℕ). slice_get pod.steps.items n ≡ Some found.0) sooner_step found.1 in
      let same_step : s ≡ found.0 = same_Some s found.0 (sym at_i ∙ at) in
      let child : s.child ≡ passed.child = ap (λ (x : HeldStep). x.child) same_step ∙ found.2 in
      let mine = holds.steps i s at_i in
      let number : i ≡ 0 + i = omega arith in
      record {
        it = passed.exit;
        is = mine.exit ∙ (ap (λ (c : ℕ). exit_of c told) child ∙ passed.exited);
        has = subst (λ (k : ℕ). passes_at k (0 + i) passed.exit ≡ true) keep (subst (λ (n : ℕ). passes_at due.claimed.keep n passed.exit ≡ true) number passed.passed);
      }

  pub are_exits : AreExits pod.plan (exits_of pod.steps.items)
  are_exits = record {
    few = (let few = few_exits pod.steps.items in let within = held.within in omega (arith, few, within));
    before_last = λ step less.
        let here = pass_all pod.plan.keep 0 pod.steps.items pass_before step less in
        subst (λ (n : ℕ). passes_at pod.plan.keep n (get_or (exits_of pod.steps.items) step 0) ≡ true) (omega arith) here;
  }

-- walks

-- more exits change nothing of the first that doesn't pass
broken_more : (keep step : ℕ) (exits more : List ℕ) (w : Walked) → broken_from keep step exits ≡ Some w → broken_from keep step (exits ++ more) ≡ Some w
broken_more keep step [] more w is = cc (is)
broken_more keep step (exit ∷ exits) more w is = elim (cases_Bool (passes_at keep step exit)) [
  | inl hit ↦ rw hit (broken_more keep (step + 1) exits more w (rw hit at is))
  | inr miss ↦ rw miss (rw miss at is)
]

-- a walk that is over before its exits are all taken ended so with all of them
abbrev walk_with : ℕ → ℕ → List ℕ → Walk
walk_with steps keep exits = record { steps = steps; keep_going = keep; exits = exits }

by_broken : (steps keep : ℕ) (exits more : List ℕ) (exit : ℕ) (o : Option Walked) → broken_from keep 0 exits ≡ o → is_none (next_step (walk_with steps keep exits)) ≡ true
    → length (exits ++ exit ∷ more) ≤ steps → walked (walk_with steps keep exits) ≡ walked (walk_with steps keep (exits ++ exit ∷ more))
by_broken steps keep exits more exit (Some w) is over few =
    ap (or_well (walk_with steps keep exits)) is
    ∙ sym (ap (or_well (walk_with steps keep (exits ++ exit ∷ more))) (broken_more keep 0 exits (exit ∷ more) w is))
by_broken steps keep exits more exit None is over few =
    let still : is_none (cond (is_none (cond (length exits == steps) (Some Well) None)) (Some (length exits)) None) ≡ true
    = subst (λ (o : Option Walked). is_none (cond (is_none (or_well (walk_with steps keep exits) o)) (Some (length exits)) None) ≡ true) is over in
    elim (cases_Bool (length exits == steps)) [
      | inl full ↦
          let whole : length exits ≡ steps = eqb-true (length exits) steps full in
          let longer : length (exits ++ exit ∷ more) ≡ length exits + length (exit ∷ more) = length-append exits (exit ∷ more) in
          absurd (omega (arith, few, whole, longer))
      | inr not_yet ↦ (let bad : false ≡ true = rw not_yet at still in cc)
    ]

pub over_early : (plan : Plan) (exits more : List ℕ) (exit : ℕ) (walk : Walk) → walk ≡ walk_of plan exits
    → is_none (next_step walk) ≡ true → length (exits ++ exit ∷ more) ≤ length plan.orders → walked walk ≡ walked (walk_of plan (exits ++ exit ∷ more))
over_early plan exits more exit walk is over few =
    let over_first : is_none (next_step (walk_of plan exits)) ≡ true = subst (λ (w : Walk). is_none (next_step w) ≡ true) is over in
    ap walked is ∙ by_broken (length plan.orders) plan.keep exits more exit (broken_from plan.keep 0 exits) refl over_first few

-- the exits up to a place

exit_now : (steps : List HeldStep) (i : ℕ) (s : HeldStep) (exit : ℕ) → i < length steps → s ≡ get_or steps i s → s.exit ≡ Some exit
    → exits_of steps ≡ exits_of (take i steps) ++ exit ∷ exits_of (drop (suc i) steps)
exit_now [] i s exit less is has = absurd (omega (arith, less))
exit_now (t ∷ steps) zero s exit less is has =
    let same : t.exit ≡ Some exit = ap (λ (x : HeldStep). x.exit) (sym is) ∙ has in
    ap (λ (o : Option ℕ). cons_option o (exits_of steps)) same
exit_now (t ∷ steps) (suc i) s exit less is has = go t.exit (exit_now steps i s exit (omega (arith, less)) is has)
  where
    go : (o : Option ℕ) → exits_of steps ≡ exits_of (take i steps) ++ exit ∷ exits_of (drop (suc i) steps)
        → cons_option o (exits_of steps) ≡ cons_option o (exits_of (take i steps)) ++ exit ∷ exits_of (drop (suc i) steps)
    go None rest = rest
    go (Some e) rest = ap (λ es. e ∷ es) rest

exit_more : (steps : List HeldStep) (i : ℕ) (s : HeldStep) → i < length steps → s ≡ get_or steps i s
    → exits_of (take (suc i) steps) ≡ exits_of (take i steps) ++ cons_option s.exit []
exit_more [] i s less is = absurd (omega (arith, less))
exit_more (t ∷ steps) zero s less is = ap (λ (x : HeldStep). cons_option x.exit []) (sym is)
exit_more (t ∷ steps) (suc i) s less is = go t.exit (exit_more steps i s (omega (arith, less)) is)
  where
    go : (o : Option ℕ) → exits_of (take (suc i) steps) ≡ exits_of (take i steps) ++ cons_option s.exit []
        → cons_option o (exits_of (take (suc i) steps)) ≡ cons_option o (exits_of (take i steps)) ++ cons_option s.exit []
    go None rest = rest
    go (Some e) rest = ap (λ es. e ∷ es) rest

-- as a loop reads them
module _ (steps items : List HeldStep) (same : items ≡ steps) (i : ℕ) (d : HeldStep) (less : i < length items) where
  within : i < length steps
  within = subst (λ ss. i < length ss) same less

  abbrev this : HeldStep
  this = get_or steps i d

  at : this ≡ get_or steps i this
  at = get_or_default steps i d this within

  read : (exit : Option ℕ) → (get_or items i d).exit ≡ exit → this.exit ≡ exit
  read exit is = ap (λ (ss : List HeldStep). (get_or ss i d).exit) (sym same) ∙ is

  grown : (exit : Option ℕ) → (get_or items i d).exit ≡ exit → exits_of (take (i + 1) steps) ≡ exits_of (take i steps) ++ cons_option exit []
  grown exit is =
      let next : i + 1 ≡ suc i = omega arith in
      ap (λ n. exits_of (take n steps)) next ∙ (exit_more steps i this within at ∙ ap (λ (o : Option ℕ). exits_of (take i steps) ++ cons_option o []) (read exit is))

  pub exit_none : (get_or items i d).exit ≡ None → exits_of (take (i + 1) steps) ≡ exits_of (take i steps)
  exit_none none = grown None none ∙ append-nil (exits_of (take i steps))

  pub exit_some : (exit : ℕ) → (get_or items i d).exit ≡ Some exit → exits_of (take (i + 1) steps) ≡ exits_of (take i steps) ++ exit ∷ []
  exit_some exit is = grown (Some exit) is

  -- the walk of a held pod, where it is over before its last exit
  pub over_at : (plan : Plan) (exit : ℕ) (walk : Walk) → (get_or items i d).exit ≡ Some exit → walk ≡ walk_of plan (exits_of (take i steps)) → is_none (next_step walk) ≡ true
      → length steps ≤ length plan.orders → walked walk ≡ walked (walk_of plan (exits_of steps))
  over_at plan exit walk is made over few =
      let split = exit_now steps i this exit within at (read (Some exit) is) in
      let enough : length (exits_of (take i steps) ++ exit ∷ exits_of (drop (suc i) steps)) ≤ length plan.orders
      = (let all = few_exits steps in let same_length = ap length (sym split) in omega (arith, all, same_length, few)) in
      over_early plan (exits_of (take i steps)) (exits_of (drop (suc i) steps)) exit walk made over enough ∙ ap (λ es. walked (walk_of plan es)) (sym split)

-- one exit more
pub walk_more : (plan : Plan) (exits : List ℕ) (exit : ℕ) (walk new : Walk) → walk ≡ walk_of plan exits
    → new ≡ record { steps = walk.steps; keep_going = walk.keep_going; exits = walk.exits ++ exit ∷ [] } → new ≡ walk_of plan (exits ++ exit ∷ [])
walk_more plan exits exit walk new is made = made ∙ ap (λ (w : Walk). walk_with w.steps w.keep_going (w.exits ++ exit ∷ [])) is
