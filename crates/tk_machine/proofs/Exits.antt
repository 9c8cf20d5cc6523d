-- The exits of a pod's steps, as a host in order tells them.
use Rattle.std.proofs.Common.{◌≡◌, ℕ, zero, suc, ◌<◌, ◌≤◌, ◌+◌, List, [], ◌∷◌, ◌++◌, length, Option, Some, None, true, ◌&&◌, refl, sym, ◌∙◌, ap, subst, arith, inl, inr, nat_eq, eq-or-lt_of_le}
use Rattle.std.specs.Prelude.{bytes_eq}
use Rattle.std.specs.Cmp.Lexicographic.{bytes_decides}
use Rattle.std.proofs.lemmas.Bool.{cases_Bool, eqb-true, eq-eqb, and_from, and_parts}
use Rattle.std.proofs.lemmas.Option.{same_Some}
use Rattle.tk_pod.specs.Exits.{passes, continues}
use Rattle.tk_edge.specs.declared.order.Order.{Order}
use Rattle.tk_edge.specs.declared.event.Event.{Event as HostEvent}
use Rattle.tk_edge.specs.declared.event.Event.TheVariants as events
use Rattle.tk_edge.specs.History.{IsTold, exit_of, order_of}
use Rattle.tk_edge.specs.InOrder.{Claimed, Pods, StepPassed, AreStartsDue}
use Rattle.tk_edge.proofs.InOrder.{order_stays, started_due}
use Rattle.tk_machine.proofs.Walks.{AllPassFrom, IsWalkFrom}
use Rattle.tk_machine.specs.Hosts.{step_exit, first_exit, exits_from}
use Rattle.tk_machine.specs.Kills.{StepBroke}
use Rattle.tk_machine.proofs.Deeds.{not_ordered}

-- a started step's exit is its child's
started_exit : (pods : Pods) (told whole : List HostEvent) → AreStartsDue pods told → (child : ℕ) (order : Order) → order_of child told ≡ Some order → step_exit order.pod order.step whole told ≡ exit_of child whole
started_exit pods [] whole due child order is = cc
started_exit pods (events.Started c o ∷ older) whole due child order is = elim (cases_Bool (nat_eq child c)) [
  | inl hit ↦ (
      let same : o ≡ order = same_Some o order (rw hit at is) in
      let test : (bytes_eq o.pod order.pod && nat_eq o.step order.step) ≡ true = and_from (bytes_eq o.pod order.pod) (nat_eq o.step order.step) ((bytes_decides o.pod order.pod).1 (ap (λ (x : Order). x.pod) same)) (eq-eqb o.step order.step (ap (λ (x : Order). x.step) same)) in
      rw test (ap (λ (n : ℕ). exit_of n whole) (sym (eqb-true child c hit))))
  | inr miss ↦ (
      let before : order_of child older ≡ Some order = rw miss at is in
      elim (cases_Bool (bytes_eq o.pod order.pod && nat_eq o.step order.step)) [
        | inl test ↦ (
            absurd (not_ordered older o.pod o.step due.1 child order before (sym ((bytes_decides o.pod order.pod).0 ((and_parts (bytes_eq o.pod order.pod) (nat_eq o.step order.step) test).0))) (sym (eqb-true o.step order.step ((and_parts (bytes_eq o.pod order.pod) (nat_eq o.step order.step) test).1)))))
        | inr other ↦ rw other (started_exit pods older whole due.2 child order before)
      ])
]
started_exit pods (e ∷ older) whole due child order is = started_exit pods older whole due child order is

pub record FoundExit (told whole : List HostEvent) (pod : List ℕ) (step exit : ℕ) : Type 0 where
  pub child : ℕ
  pub order : Order
  pub started : order_of child told ≡ Some order
  pub same_pod : order.pod ≡ pod
  pub same_step : order.step ≡ step
  pub exited : exit_of child whole ≡ Some exit

found_later : (e : HostEvent) (older whole : List HostEvent) (pod : List ℕ) (step exit : ℕ) → IsTold (e ∷ older) → FoundExit older whole pod step exit → FoundExit (e ∷ older) whole pod step exit
found_later e older whole pod step exit told found = record { child = found.child; order = found.order; started = order_stays found.child found.order e older told.0 found.started; same_pod = found.same_pod; same_step = found.same_step; exited = found.exited }

pub found_exit : (told whole : List HostEvent) (pod : List ℕ) (step exit : ℕ) → IsTold told → step_exit pod step whole told ≡ Some exit → FoundExit told whole pod step exit
found_exit [] whole pod step exit told is = cc
found_exit (events.Started c o ∷ older) whole pod step exit told is = elim (cases_Bool (bytes_eq o.pod pod && nat_eq o.step step)) [
  | inl test ↦ (
      record { child = c; order = o; started = rw (eq-eqb c c refl) refl; same_pod = (bytes_decides o.pod pod).0 ((and_parts (bytes_eq o.pod pod) (nat_eq o.step step) test).0); same_step = eqb-true o.step step ((and_parts (bytes_eq o.pod pod) (nat_eq o.step step) test).1); exited = rw test at is })
  | inr other ↦ found_later (events.Started c o) older whole pod step exit told (found_exit older whole pod step exit told.1 (rw other at is))
]
found_exit (e ∷ older) whole pod step exit told is = found_later e older whole pod step exit told (found_exit older whole pod step exit told.1 is)

module _ (pods : Pods) (told : List HostEvent) (is_told : IsTold told) (due : AreStartsDue pods told) (pod : List ℕ) (claimed : Claimed) (is_claimed : pods pod ≡ Some claimed) where
  pub exit_at : (child : ℕ) (order : Order) (step exit : ℕ) → order_of child told ≡ Some order → order.pod ≡ pod → order.step ≡ step → exit_of child told ≡ Some exit → step_exit pod step told told ≡ Some exit
  exit_at child order step exit started same_pod same_step exited =
      subst (λ (s : ℕ). step_exit pod s told told ≡ Some exit) same_step (subst (λ (p : List ℕ). step_exit p order.step told told ≡ Some exit) same_pod (started_exit pods told told due child order started ∙ exited))

  pub passed_exit : (keep step : ℕ) → StepPassed keep pod step told → (exit : ℕ) × (step_exit pod step told told ≡ Some exit) × (passes (continues keep step) exit ≡ true)
  passed_exit keep step s = (s.exit, exit_at s.child s.order step s.exit s.started s.same_pod s.same_step s.exited, s.passed)

  earlier_passed : (step later exit : ℕ) → step < later → step_exit pod later told told ≡ Some exit → StepPassed claimed.keep pod step told
  earlier_passed step later exit below is =
      let found = found_exit told told pod later exit is_told is in
      let was = started_due pods found.child found.order told is_told due found.started in
      let same : was.claimed ≡ claimed = same_Some was.claimed claimed (sym was.is_claimed ∙ (ap pods found.same_pod ∙ is_claimed)) in
      subst (λ (c : Claimed). StepPassed c.keep pod step told) same (subst (λ (p : List ℕ). StepPassed was.claimed.keep p step told) found.same_pod (was.earlier step (omega (arith, found.same_step))))

  -- where some exit comes from
  some_later : (step count next : ℕ) (rest : List ℕ) → exits_from pod told step count ≡ next ∷ rest → (later : ℕ) × (step ≤ later) × ((exit : ℕ) × (step_exit pod later told told ≡ Some exit))
  some_later step zero next rest is = cc
  some_later step (suc count) next rest is = by_exit (step_exit pod step told told) refl is
    where
      by_exit : (o : Option ℕ) → step_exit pod step told told ≡ o → first_exit o (exits_from pod told (suc step) count) ≡ next ∷ rest → (later : ℕ) × (step ≤ later) × ((exit : ℕ) × (step_exit pod later told told ≡ Some exit))
      by_exit None at list = cc
      by_exit (Some exit) at list = (step, omega arith, (exit, at))

  pub few_exits : (step count : ℕ) → length (exits_from pod told step count) ≤ count
  few_exits step zero = omega arith
  few_exits step (suc count) = by_exit (few_exits (suc step) count) (step_exit pod step told told)
    where
      by_exit : length (exits_from pod told (suc step) count) ≤ count → (o : Option ℕ) → length (first_exit o (exits_from pod told (suc step) count)) ≤ suc count
      by_exit few None = omega (arith, few)
      by_exit few (Some exit) = omega (arith, few)

  -- all but the last exit pass
  pub walk_from : (step count : ℕ) → IsWalkFrom claimed.keep step (exits_from pod told step count)
  walk_from step zero = tt
  walk_from step (suc count) = by_exit (walk_from (suc step) count) (step_exit pod step told told) refl
    where
      passed_before : (next : ℕ) (rest : List ℕ) → exits_from pod told (suc step) count ≡ next ∷ rest → StepPassed claimed.keep pod step told
      passed_before next rest is = let from = some_later (suc step) count next rest is in earlier_passed step from.0 from.2.0 (omega (arith, from.1)) from.2.1

      by_rest : (exit : ℕ) → step_exit pod step told told ≡ Some exit → (rest : List ℕ) → exits_from pod told (suc step) count ≡ rest → IsWalkFrom claimed.keep (suc step) rest → IsWalkFrom claimed.keep step (exit ∷ rest)
      by_rest exit at [] is walk = tt
      by_rest exit at (next ∷ rest) is walk =
          let passed = passed_exit claimed.keep step (passed_before next rest is) in
          let same : passed.0 ≡ exit = same_Some passed.0 exit (sym passed.1 ∙ at) in
          (subst (λ (x : ℕ). passes (continues claimed.keep step) x ≡ true) same passed.2, walk)

      by_exit : IsWalkFrom claimed.keep (suc step) (exits_from pod told (suc step) count) → (o : Option ℕ) → step_exit pod step told told ≡ o → IsWalkFrom claimed.keep step (first_exit o (exits_from pod told (suc step) count))
      by_exit walk None at = tt
      by_exit walk (Some exit) at = by_rest exit at (exits_from pod told (suc step) count) refl walk

  -- once all pass
  pub all_from : (keep step count : ℕ) → ((j : ℕ) → step ≤ j → j < step + count → StepPassed keep pod j told) → (length (exits_from pod told step count) ≡ count) × AllPassFrom keep step (exits_from pod told step count)
  all_from keep step zero each = (refl, tt)
  all_from keep step (suc count) each =
      let passed = passed_exit keep step (each step (omega arith) (omega arith)) in
      let rest = all_from keep (suc step) count (λ j low high. each j (omega arith) (omega arith)) in
      subst (λ (o : Option ℕ). (length (first_exit o (exits_from pod told (suc step) count)) ≡ suc count) × AllPassFrom keep step (first_exit o (exits_from pod told (suc step) count))) (sym passed.1) (ap suc rest.0, (passed.2, rest.1))

  -- once one breaks
  pub record BrokeFrom (step count exit at : ℕ) : Type 0 where
    pub before : List ℕ
    pub last : exits_from pod told step count ≡ before ++ exit ∷ []
    pub pass : AllPassFrom claimed.keep step before
    pub place : length before + step ≡ at

  nothing_behind : (step count : ℕ) → StepBroke claimed.keep pod step told → (rest : List ℕ) → exits_from pod told (suc step) count ≡ rest → rest ≡ []
  nothing_behind step count s [] is = refl
  nothing_behind step count s (next ∷ rest) is =
      let from = some_later (suc step) count next rest is in
      let passed = passed_exit claimed.keep step (earlier_passed step from.0 from.2.0 (omega (arith, from.1)) from.2.1) in
      let same : passed.0 ≡ s.exit = same_Some passed.0 s.exit (sym passed.1 ∙ exit_at s.child s.order step s.exit s.started s.same_pod s.same_step s.exited) in
      let passes_now : passes (continues claimed.keep step) s.exit ≡ true = subst (λ (x : ℕ). passes (continues claimed.keep step) x ≡ true) same passed.2 in
      let broke = s.broke in
      cc (passes_now, broke)

  pub broke_from : (step count at : ℕ) → step ≤ at → at < step + count → ((j : ℕ) → step ≤ j → j < at → StepPassed claimed.keep pod j told) → (s : StepBroke claimed.keep pod at told) → BrokeFrom step count s.exit at
  broke_from step zero at low high each s = absurd (omega arith)
  broke_from step (suc count) at low high each s = elim (eq-or-lt_of_le low) [
    | inl same ↦ (
        let here : step_exit pod step told told ≡ Some s.exit = subst (λ (n : ℕ). step_exit pod n told told ≡ Some s.exit) (sym same) (exit_at s.child s.order at s.exit s.started s.same_pod s.same_step s.exited) in
        let none : exits_from pod told (suc step) count ≡ [] = nothing_behind step count (subst (λ (n : ℕ). StepBroke claimed.keep pod n told) (sym same) s) (exits_from pod told (suc step) count) refl in
        record {
          before = [];
          last = ap (λ (o : Option ℕ). first_exit o (exits_from pod told (suc step) count)) here ∙ ap (λ (rest : List ℕ). s.exit ∷ rest) none;
          pass = tt;
          place = omega (arith, same);
        })
    | inr later ↦ (
        let passed = passed_exit claimed.keep step (each step (omega arith) later) in
        let rest = broke_from (suc step) count at later (omega arith) (λ j from below. each j (omega arith) below) s in
        record {
          before = passed.0 ∷ rest.before;
          last = ap (λ (o : Option ℕ). first_exit o (exits_from pod told (suc step) count)) passed.1 ∙ ap (λ (xs : List ℕ). passed.0 ∷ xs) rest.last;
          pass = (passed.2, rest.pass);
          place = omega (arith, rest.place);
        })
  ]
