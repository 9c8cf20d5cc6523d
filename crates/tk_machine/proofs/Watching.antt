-- A turn that watches each step of a pod, over a prompt host: a step starts or ends, or the pod's walk is over.
use Rattle.std.proofs.Common.{◌≡◌, ℕ, zero, suc, ◌<◌, ◌≤◌, ◌+◌, List, [], ◌∷◌, ◌++◌, length, Option, Some, None, Bool, true, false, sym, ◌∙◌, ap, subst, arith, inl, inr, eq-or-lt_of_le}
use Rattle.std.specs.Prelude.{◌⊎◌, ◌-◌, nat_eq, codes}
use Rattle.std.proofs.Math.Dec.{eqb-suc-zero}
use Rattle.std.proofs.lemmas.Option.{same_Some}
use Rattle.tk_pod.specs.Exits.{passes, continues}
use Rattle.tk_edge.specs.declared.order.Order.{Order}
use Rattle.tk_edge.specs.declared.order.Watch.{Watch}
use Rattle.tk_edge.specs.declared.order.Watch.TheVariants as watches
use Rattle.tk_edge.specs.declared.event.Event.{Event as HostEvent}
use Rattle.tk_edge.specs.declared.event.Event.TheVariants as events
use Rattle.tk_edge.specs.declared.event.Arming.{Arming}
use Rattle.tk_edge.specs.History.{MayStart, HasPassed, arming_of, exit_of, order_of, was_put}
use Rattle.tk_edge.specs.Calls.{TellsTurn, TellsExit}
use Rattle.tk_edge.specs.InOrder.{Claimed, Pods, StepPassed}
use Rattle.tk_edge.proofs.InOrder.{exit_started, armed_with}
use Rattle.tk_steps.specs.Paths.{post_path, wait_path}
use Rattle.tk_machine.specs.Hosts.{end_of, deeds_of, layout}
use Rattle.tk_machine.specs.Kills.{StepBroke}
use Rattle.tk_machine.specs.Prompt.{IsArmedInOrder, IsPrompt, WatchesFrom}
use Rattle.tk_machine.proofs.Deeds.{one_child}

-- a step waits for the file of the one before it
wait_next : (root pod : List ℕ) (step : ℕ) → wait_path root pod (suc step) ≡ post_path root pod step
wait_next root pod step =
    let less : suc step - 1 ≡ step = omega arith in
    let other : nat_eq (suc step) 0 ≡ false = eqb-suc-zero step in
    rw other (ap (post_path root pod) less)

-- what one watch adds

abbrev IsMore : List HostEvent → List HostEvent → Type 0
IsMore old new = length (deeds_of old) < length (deeds_of new)

exit_more : (child exit : ℕ) (old new : List HostEvent) (order : Order) → order_of child old ≡ Some order → new ≡ events.Exited child exit ∷ old → IsMore old new
exit_more child exit old new order started is =
    subst (λ (h : List HostEvent). IsMore old h) (sym is) (subst (λ (o : Option Order). length (deeds_of old) < length (end_of o ++ deeds_of old)) (sym started) (omega arith))

exit_less : (child exit : ℕ) (old new : List HostEvent) → TellsExit child exit old new → length (deeds_of old) ≤ length (deeds_of new)
exit_less child exit old new tells = elim tells [
  | inl fresh ↦ (let more = exit_more child exit old new fresh.0.order fresh.0.started fresh.1 in omega (arith, more))
  | inr same ↦ omega (arith, ap (λ (h : List HostEvent). length (deeds_of h)) same.1)
]

turn_less : (child : ℕ) (arming : Arming) (old new : List HostEvent) (watch : Watch) → TellsTurn child arming old new watch → length (deeds_of old) ≤ length (deeds_of new)
turn_less child arming old new watches.Waits tells = omega (arith, ap (λ (h : List HostEvent). length (deeds_of h)) tells.1)
turn_less child arming old new watches.Started tells = omega (arith, ap (λ (h : List HostEvent). length (deeds_of h)) tells.2)
turn_less child arming old new watches.Runs tells = omega (arith, ap (λ (h : List HostEvent). length (deeds_of h)) tells.1)
turn_less child arming old new (watches.Passed exit) tells = exit_less child exit old new tells.1
turn_less child arming old new (watches.Broke (Some exit)) tells = exit_less child exit old new tells.1
turn_less child arming old new (watches.Broke None) tells = elim tells [
  | inl fresh ↦ omega (arith, ap (λ (h : List HostEvent). length (deeds_of h)) fresh.1)
  | inr same ↦ omega (arith, ap (λ (h : List HostEvent). length (deeds_of h)) same.1)
]

pub watches_less : (keep : ℕ) (pod : List ℕ) (step : ℕ) (children : List ℕ) (old new : List HostEvent) → WatchesFrom keep pod step children old new → length (deeds_of old) ≤ length (deeds_of new)
watches_less keep pod step [] old new done = omega (arith, ap (λ (h : List HostEvent). length (deeds_of h)) done)
watches_less keep pod step (child ∷ children) old new done =
    omega (arith, turn_less child done.1.arming old done.0 done.1.watch done.1.tells, watches_less keep pod (suc step) children done.0 new done.2)

-- the pod's walk is over: all of so many steps passed, or one broke behind steps that passed
pub record IsWalkedBy (keep : ℕ) (pod : List ℕ) (count : ℕ) (told : List HostEvent) : Type 0 where
  pub until : ℕ
  pub passed : (j : ℕ) → j < until → StepPassed keep pod j told
  pub over : (until ≡ count) ⊎ ((until < count) × StepBroke keep pod until told)

module _ (pods : Pods) (pod : List ℕ) (claimed : Claimed) (is_claimed : pods pod ≡ Some claimed) (old : List HostEvent) (in_order : IsArmedInOrder pods old) (first : was_put (layout.wait_of pod 0) old ≡ true) where
  -- a step whose forerunners passed may start
  may_start : (child : ℕ) (arming : Arming) (step : ℕ) → arming_of child old ≡ Some arming → arming.order.pod ≡ pod → arming.order.step ≡ step → ((j : ℕ) → j < step → StepPassed claimed.keep pod j old) → MayStart arming old
  may_start child arming step armed same_pod same_step before =
      let at = in_order.each child arming armed in
      let waits : arming.wait ≡ layout.wait_of pod step = at.waits ∙ (ap (λ (p : List ℕ). layout.wait_of p arming.order.step) same_pod ∙ ap (layout.wait_of pod) same_step) in
      by_step step waits before
    where
      behind : (m : ℕ) → arming.wait ≡ layout.post_of pod m → StepPassed claimed.keep pod m old → HasPassed arming.order.pod arming.wait old
      behind m waits s =
          let entry = armed_with s.child s.order old in_order.told in_order.starts s.started in
          let at = in_order.each s.child entry.it entry.is in
          let pods_same : entry.it.order.pod ≡ pod = ap (λ (o : Order). o.pod) (sym entry.has) ∙ s.same_pod in
          let steps_same : entry.it.order.step ≡ m = ap (λ (o : Order). o.step) (sym entry.has) ∙ s.same_step in
          let same : at.claimed ≡ claimed = same_Some at.claimed claimed (sym at.is_claimed ∙ (ap pods pods_same ∙ is_claimed)) in
          let keeps : entry.it.keep_going ≡ continues claimed.keep m = at.keeps ∙ (ap (λ (c : Claimed). continues c.keep entry.it.order.step) same ∙ ap (continues claimed.keep) steps_same) in
          record {
            child = s.child;
            arming = entry.it;
            armed = entry.is;
            same_pod = pods_same ∙ sym same_pod;
            post = at.posts ∙ (ap (λ (p : List ℕ). layout.post_of p entry.it.order.step) pods_same ∙ (ap (layout.post_of pod) steps_same ∙ sym waits));
            exit = s.exit;
            exited = s.exited;
            passed = ap (λ (k : Bool). passes k s.exit) keeps ∙ s.passed;
          }

      by_step : (n : ℕ) → arming.wait ≡ layout.wait_of pod n → ((j : ℕ) → j < n → StepPassed claimed.keep pod j old) → MayStart arming old
      by_step zero waits passed = inl (subst (λ (p : List ℕ). was_put p old ≡ true) (sym waits) first)
      by_step (suc m) waits passed = inr (behind m (waits ∙ wait_next (codes "/work") pod m) (passed m (omega arith)))

  -- the step that a child with an exit ran
  ran : (child : ℕ) (arming : Arming) (step exit : ℕ) → arming_of child old ≡ Some arming → arming.order.pod ≡ pod → arming.order.step ≡ step → exit_of child old ≡ Some exit → (order : Order) × (order_of child old ≡ Some order) × (order.pod ≡ pod) × (order.step ≡ step)
  ran child arming step exit armed same_pod same_step exited =
      let started = exit_started child exit old in_order.told exited in
      let entry = armed_with child started.it old in_order.told in_order.starts started.is in
      let same : entry.it ≡ arming = same_Some entry.it arming (sym entry.is ∙ armed) in
      (started.it, started.is, ap (λ (o : Order). o.pod) entry.has ∙ (ap (λ (a : Arming). a.order.pod) same ∙ same_pod), ap (λ (o : Order). o.step) entry.has ∙ (ap (λ (a : Arming). a.order.step) same ∙ same_step))

  -- a step doesn't both pass and break
  not_both : (step : ℕ) → StepPassed claimed.keep pod step old → StepBroke claimed.keep pod step old → ⊥
  not_both step p b =
      let same : p.child ≡ b.child = one_child pods old in_order.due p.child b.child p.order b.order p.started b.started (p.same_pod ∙ sym b.same_pod) (p.same_step ∙ sym b.same_step) in
      let exits : p.exit ≡ b.exit = same_Some p.exit b.exit (sym p.exited ∙ (ap (λ (c : ℕ). exit_of c old) same ∙ b.exited)) in
      let passed : passes (continues claimed.keep step) b.exit ≡ true = subst (λ (x : ℕ). passes (continues claimed.keep step) x ≡ true) exits p.passed in
      let broke = b.broke in
      cc (passed, broke)

  abbrev Comes : ℕ → List HostEvent → Type 0
  Comes count new = IsMore old new ⊎ IsWalkedBy claimed.keep pod count old

  pub watches_come : (step count : ℕ) (children : List ℕ) (new : List HostEvent) → length children + step ≡ count → ((j : ℕ) → j < step → StepPassed claimed.keep pod j old) → WatchesFrom claimed.keep pod step children old new → Comes count new
  watches_come step count [] new counts before done = inr (record { until = step; passed = before; over = inl (omega (arith, counts)) })
  watches_come step count (child ∷ children) new counts before done =
      by_watch done.1.watch done.1.tells done.1.prompt (λ before_next same. watches_come (suc step) count children new (omega (arith, counts)) before_next (subst (λ (h : List HostEvent). WatchesFrom claimed.keep pod (suc step) children h new) same done.2))
    where
      rest_less : length (deeds_of done.0) ≤ length (deeds_of new)
      rest_less = watches_less claimed.keep pod (suc step) children done.0 new done.2

      may : MayStart done.1.arming old
      may = may_start child done.1.arming step done.1.armed done.1.same_pod done.1.same_step before

      more : IsMore old done.0 → Comes count new
      more less = inl (omega (arith, less, rest_less))

      keeps_as : done.1.arming.keep_going ≡ continues claimed.keep step
      keeps_as =
          let at = in_order.each child done.1.arming done.1.armed in
          let same : at.claimed ≡ claimed = same_Some at.claimed claimed (sym at.is_claimed ∙ (ap pods done.1.same_pod ∙ is_claimed)) in
          at.keeps ∙ (ap (λ (c : Claimed). continues c.keep done.1.arming.order.step) same ∙ ap (continues claimed.keep) done.1.same_step)

      passed_now : (exit : ℕ) → exit_of child old ≡ Some exit → passes done.1.arming.keep_going exit ≡ true → StepPassed claimed.keep pod step old
      passed_now exit exited passed =
          let o = ran child done.1.arming step exit done.1.armed done.1.same_pod done.1.same_step exited in
          record { child = child; order = o.0; started = o.1; same_pod = o.2; same_step = o.3; exit = exit; exited = exited; passed = ap (λ (k : Bool). passes k exit) (sym keeps_as) ∙ passed }

      broke_now : (exit : ℕ) → exit_of child old ≡ Some exit → passes done.1.arming.keep_going exit ≡ false → StepBroke claimed.keep pod step old
      broke_now exit exited broke =
          let o = ran child done.1.arming step exit done.1.armed done.1.same_pod done.1.same_step exited in
          record { child = child; order = o.0; started = o.1; same_pod = o.2; same_step = o.3; exit = exit; exited = exited; broke = ap (λ (k : Bool). passes k exit) (sym keeps_as) ∙ broke }

      extend : StepPassed claimed.keep pod step old → (j : ℕ) → j < suc step → StepPassed claimed.keep pod j old
      extend s j below = let le : j ≤ step = omega arith in elim (eq-or-lt_of_le le) [
        | inl same ↦ subst (λ (n : ℕ). StepPassed claimed.keep pod n old) (sym same) s
        | inr less ↦ before j less
      ]

      by_watch : (watch : Watch) → TellsTurn child done.1.arming old done.0 watch → IsPrompt claimed.keep done.1.arming old watch → (((j : ℕ) → j < suc step → StepPassed claimed.keep pod j old) → done.0 ≡ old → Comes count new) → Comes count new
      by_watch watches.Waits tells prompt next = absurd (prompt may)
      by_watch watches.Started tells prompt next = more (subst (IsMore old) (sym tells.2) (omega arith))
      by_watch watches.Runs tells prompt next = absurd prompt
      by_watch (watches.Passed exit) tells prompt next = elim tells.1 [
        | inl fresh ↦ more (exit_more child exit old done.0 fresh.0.order fresh.0.started fresh.1)
        | inr same ↦ next (extend (passed_now exit same.0 tells.0)) same.1
      ]
      by_watch (watches.Broke (Some exit)) tells prompt next = elim tells.1 [
        | inl fresh ↦ more (exit_more child exit old done.0 fresh.0.order fresh.0.started fresh.1)
        | inr same ↦ inr (record { until = step; passed = before; over = inr (omega (arith, counts), broke_now exit same.0 tells.0) })
      ]
      by_watch (watches.Broke None) tells prompt next =
          let below : prompt.0 < step = omega (arith, prompt.1, done.1.same_step) in
          absurd (not_both prompt.0 (before prompt.0 below) (subst (λ (p : List ℕ). StepBroke claimed.keep p prompt.0 old) done.1.same_pod prompt.2))
