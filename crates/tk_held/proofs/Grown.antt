-- The conditions of a kubelet's turn hold again behind its own entries.
use Rattle.std.proofs.Common.{◌≡◌, ◌≢◌, ℕ, ◌≤◌, List, [], ◌∷◌, ◌++◌, length, Option, Some, None, Bool, true, false, refl, sym, ◌∙◌, ap, subst, inl, inr, arith, slice_get}
use Rattle.std.specs.Prelude.{bytes_eq, ◌⊎◌}
use Rattle.std.proofs.lemmas.Bool.{cases_Bool}
use Rattle.std.proofs.lemmas.Option.{same_Some}
use Rattle.std.proofs.lemmas.Slice.Eq.{bytes_eq-Decides}
use Rattle.tk_types.specs.declared.run.Outcome.{Outcome}
use Rattle.tk_edge.specs.declared.event.Event.{Event}
use Rattle.tk_edge.specs.declared.event.Arming.{Arming}
use Rattle.tk_edge.specs.declared.order.Order.{Order}
use Rattle.tk_edge.specs.History.{Has, arming_of, exit_of}
use Rattle.tk_edge.specs.InOrder.{Claimed, Pods, PodsGrow, IsSettled, AreOverSettled, IsKept}
use Rattle.tk_edge.proofs.InOrder.{armed_with}
use Rattle.tk_edge.proofs.Keeps.{growth_keeps}
use Rattle.tk_journal.specs.declared.act.Act.TheVariants as acts
use Rattle.tk_journal.specs.declared.entry.Actor.TheVariants as actors
use Rattle.tk_journal.specs.declared.entry.Entry.{Entry}
use Rattle.tk_journal.specs.declared.entry.Fronts.{Fronts}
use Rattle.tk_journal.specs.declared.object.Claim.{Claim}
use Rattle.tk_journal.specs.declared.object.EndedPod.{EndedPod}
use Rattle.tk_journal.specs.declared.object.Plan.{Plan}
use Rattle.tk_journal.specs.declared.object.PodState.{PodState}
use Rattle.tk_journal.specs.History.{pod_of}
use Rattle.tk_journal.specs.PodRows.{claims_for}
use Rattle.tk_steps.specs.declared.held.HeldPod.{HeldPod}
use Rattle.tk_steps.specs.declared.held.HeldStep.{HeldStep}
use Rattle.tk_steps.specs.Held.{HoldsPod, HoldsStep, IsPlanOf}
use Rattle.tk_steps.specs.Paths.{layout_of}
use Rattle.tk_steps.specs.Ready.{ReadyIsSo}
use Rattle.tk_steps.proofs.Gets.{get_more, get_before, get_last}
use Rattle.tk_held.specs.Conditions.{claim_of, claimed_with, claimed_pod, pods_of, not_lost, IsMine, IsHeld, AreArmedSettled, AreMet}
use Rattle.tk_held.specs.Pods.{AreApart, KeepsPod}
use Rattle.tk_held.specs.Settling.{IsKilledPod}

-- where a pod that is over is settled by its armed children, it is so by its started ones
pub armed_enough : (killed : ℕ → Bool) (root : List ℕ) (pods later : Pods) (told : List Event) → IsKept (layout_of root) killed pods told → AreArmedSettled killed later told → AreOverSettled killed later told
armed_enough killed root pods later told kept settled child order started over =
    let entry = armed_with child order told kept.told kept.armed.starts started in
    settled child entry.it entry.is record { it = over.it; is = ap later (ap (λ (o : Order). o.pod) (sym entry.has)) ∙ over.is; has = over.has }

-- what is held of the pod settles its children
pub pod_settled : (killed : ℕ → Bool) (told : List Event) (pod : HeldPod) → HoldsPod told pod → IsKilledPod killed pod → (child : ℕ) (arming : Arming) → arming_of child told ≡ Some arming → arming.order.pod ≡ pod.name → IsSettled killed child told
pod_settled killed told pod holds dead child arming armed same =
    let step = holds.all child arming armed same in
    let held = holds.steps arming.order.step step.0 step.1 in
    go step.0 step.2 (dead arming.order.step step.0 step.1) step.0.exit refl (held.exit ∙ ap (λ (c : ℕ). exit_of c told) step.2)
  where
    go : (step : HeldStep) → step.child ≡ child → (step.exit ≡ None → killed step.child ≡ true) → (exit : Option ℕ) → step.exit ≡ exit → step.exit ≡ exit_of child told → IsSettled killed child told
    go step is dead None none told_exit = inr (subst (λ (c : ℕ). killed c ≡ true) is (dead none))
    go step is dead (Some exit) some told_exit = inl record { it = exit; is = sym told_exit ∙ some; has = tt }

nobody : (number : ℕ) (claim : Option Claim) → claim ≡ None → claims_for number claim ≡ false
nobody number None is = refl
nobody number (Some claim) is = cc (is)

-- the held pods but one
pub record IsWithout (held : List HeldPod) (place : ℕ) (new : List HeldPod) : Type 0 where
  pub was : (i : ℕ) (pod : HeldPod) → slice_get new i ≡ Some pod → (j : ℕ) × (slice_get held j ≡ Some pod) × (j ≢ place)
  pub stays : (j : ℕ) (pod : HeldPod) → slice_get held j ≡ Some pod → j ≢ place → (i : ℕ) × (slice_get new i ≡ Some pod)
  pub apart : AreApart new

module _ (number life : ℕ) (root : List ℕ) (held : List HeldPod) (history : List Entry) (killed : ℕ → Bool) (told : List Event) (met : AreMet number life root held history killed told) (fronts : Fronts) (moment : ℕ) where
  module _ (place : ℕ) (pod : HeldPod) (at : slice_get held place ≡ Some pod) (exits : List ℕ) (outcome : Outcome) (own : not_lost outcome ≡ true) (dead : IsKilledPod killed pod) (new : List HeldPod) (without : IsWithout held place new) where
    abbrev ending : Entry
    ending = record { actor = actors.Kubelet number life; fronts = fronts; moment = moment; act = acts.EndPod pod.name exits outcome }

    other_pod : (name : List ℕ) → bytes_eq pod.name name ≡ false → pod_of (ending ∷ history) name ≡ pod_of history name
    other_pod name miss = rw miss refl

    this_pod : (state : PodState) (name : List ℕ) → bytes_eq pod.name name ≡ true → pod_of history name ≡ Some state → pod_of (ending ∷ history) name ≡ Some (record state { ended = Some record { exits = exits; outcome = outcome } })
    this_pod state name hit is = rw (hit, is) refl

    same_name : (name : List ℕ) → bytes_eq pod.name name ≡ true → pod.name ≡ name
    same_name name hit = (bytes_eq-Decides pod.name name).0 hit

    -- another held pod has another name
    differs : (j : ℕ) (other : HeldPod) → slice_get held j ≡ Some other → j ≢ place → bytes_eq pod.name other.name ≡ false
    differs j other found apart = elim (cases_Bool (bytes_eq pod.name other.name)) [
      | inl hit ↦ absurd (apart (sym (met.claimed.apart place j pod other at found (same_name other.name hit))))
      | inr miss ↦ miss
    ]

    abbrev own_state : PodState
    own_state = (met.claimed.mine place pod at).it

    grows : PodsGrow (pods_of number history) (pods_of number (ending ∷ history))
    grows name claimed is = elim (cases_Bool (bytes_eq pod.name name)) [
      | inl hit ↦ over_it hit (pod_of history name) refl is
      | inr miss ↦ (claimed, ap (claimed_pod number) (other_pod name miss) ∙ is, refl, refl)
    ]
      where
        over_it : bytes_eq pod.name name ≡ true → (o : Option PodState) → pod_of history name ≡ o → claimed_pod number o ≡ Some claimed → (now : Claimed) × (pods_of number (ending ∷ history) name ≡ Some now) × (now.orders ≡ claimed.orders) × (now.keep ≡ claimed.keep)
        over_it hit None found is = cc (is)
        over_it hit (Some state) found is = elim (cases_Bool (claims_for number state.claim)) [
          | inl mine ↦
              let now : Some (claimed_with state) ≡ Some claimed = rw mine at is in
              let same : claimed_with state ≡ claimed = same_Some _ claimed now in
              (record { orders = state.plan.orders; keep = state.plan.keep; is_over = not_lost outcome }, ap (claimed_pod number) (this_pod state name hit found) ∙ rw mine refl, ap (λ (c : Claimed). c.orders) same, ap (λ (c : Claimed). c.keep) same)
          | inr none ↦ (let bad : None ≡ Some claimed = rw none at is in cc)
        ]

    settled : AreArmedSettled killed (pods_of number (ending ∷ history)) told
    settled child arming armed over = elim (cases_Bool (bytes_eq pod.name arming.order.pod)) [
      | inl hit ↦ pod_settled killed told pod (met.keeps place pod at).holds dead child arming armed (sym (same_name arming.order.pod hit))
      | inr miss ↦ met.settled child arming armed record { it = over.it; is = sym (ap (claimed_pod number) (other_pod arming.order.pod miss)) ∙ over.is; has = over.has }
    ]

    pub met_ended : AreMet number life root new (ending ∷ history) killed told
    met_ended = record {
      claimed = record {
        mine = λ i p found.
            let was = without.was i p found in
            let mine = met.claimed.mine was.0 p was.1 in
            record { it = mine.it; is = other_pod p.name (differs was.0 p was.1 was.2) ∙ mine.is; has = mine.has };
        all = λ name state is mine unended. elim (cases_Bool (bytes_eq pod.name name)) [
          | inl hit ↦ absurd (ended_now name hit state is unended)
          | inr miss ↦
              let found = met.claimed.all name state (sym (other_pod name miss) ∙ is) mine unended in
              stays_there name miss found
        ];
        apart = without.apart;
        none_lost = λ name state ended is mine is_ended. elim (cases_Bool (bytes_eq pod.name name)) [
          | inl hit ↦ ended_well name hit state ended is is_ended
          | inr miss ↦ met.claimed.none_lost name state ended (sym (other_pod name miss) ∙ is) mine is_ended
        ];
      };
      keeps = λ i p found. let was = without.was i p found in met.keeps was.0 p was.1;
      ready = λ have i p found. let was = without.was i p found in met.ready have.1 was.0 p was.1;
      kept = growth_keeps (layout_of root) killed (pods_of number history) (pods_of number (ending ∷ history)) told grows (armed_enough killed root (pods_of number history) (pods_of number (ending ∷ history)) told met.kept settled) met.kept;
      settled = settled;
    }
      where
        now_state : (name : List ℕ) → bytes_eq pod.name name ≡ true → pod_of (ending ∷ history) name ≡ Some (record own_state { ended = Some record { exits = exits; outcome = outcome } })
        now_state name hit = this_pod own_state name hit (ap (pod_of history) (sym (same_name name hit)) ∙ (met.claimed.mine place pod at).is)

        ended_now : (name : List ℕ) → bytes_eq pod.name name ≡ true → (state : PodState) → pod_of (ending ∷ history) name ≡ Some state → state.ended ≡ None → ⊥
        ended_now name hit state is unended =
            let same : record own_state { ended = Some record { exits = exits; outcome = outcome } } ≡ state = same_Some _ state (sym (now_state name hit) ∙ is) in
            let bad : Some record { exits = exits; outcome = outcome } ≡ None = ap (λ (s : PodState). s.ended) same ∙ unended in
            cc (bad)

        ended_well : (name : List ℕ) → bytes_eq pod.name name ≡ true → (state : PodState) (ended : EndedPod) → pod_of (ending ∷ history) name ≡ Some state → state.ended ≡ Some ended → not_lost ended.outcome ≡ true
        ended_well name hit state ended is is_ended =
            let same : record own_state { ended = Some record { exits = exits; outcome = outcome } } ≡ state = same_Some _ state (sym (now_state name hit) ∙ is) in
            let there : Some record { exits = exits; outcome = outcome } ≡ Some ended = ap (λ (s : PodState). s.ended) same ∙ is_ended in
            let here : record { exits = exits; outcome = outcome } ≡ ended = same_Some _ ended there in
            subst (λ (e : EndedPod). not_lost e.outcome ≡ true) here own

        stays_there : (name : List ℕ) → bytes_eq pod.name name ≡ false → IsHeld held name → IsHeld new name
        stays_there name miss found =
            let apart : found.place ≢ place = λ same.
            let there : slice_get held place ≡ Some found.pod = subst (λ (n : ℕ). slice_get held n ≡ Some found.pod) same found.at in
            let is_pod : pod ≡ found.pod = same_Some pod found.pod (sym at ∙ there) in
            let named : pod.name ≡ name = ap (λ (p : HeldPod). p.name) is_pod ∙ found.named in
            let hit : bytes_eq pod.name name ≡ true = (bytes_eq-Decides pod.name name).1 named in
            let bad : true ≡ false = sym hit ∙ miss in
            cc (bad) in
            let stays = without.stays found.place found.pod found.at apart in
            record { place = stays.0; pod = found.pod; at = stays.1; named = found.named }

  -- a claim of a pod that nobody claimed, whose plan is its own
  module _ (name : List ℕ) (state : PodState) (seen : pod_of history name ≡ Some state) (free : state.claim ≡ None) (unended : state.ended ≡ None) (pod : HeldPod) (named : pod.name ≡ name) (plan : pod.plan ≡ state.plan) (planned : IsPlanOf name state.plan) (none : pod.steps.items ≡ []) (unready : pod.ready ≡ false) where
    abbrev claiming : Entry
    claiming = record { actor = actors.Kubelet number life; fronts = fronts; moment = moment; act = acts.ClaimPod name }

    unclaimed_other : (other : List ℕ) → bytes_eq name other ≡ false → pod_of (claiming ∷ history) other ≡ pod_of history other
    unclaimed_other other miss = rw miss refl

    claimed_now : (other : List ℕ) → bytes_eq name other ≡ true → pod_of (claiming ∷ history) other ≡ Some (record state { claim = Some (claim_of number life) })
    claimed_now other hit =
        let same : name ≡ other = (bytes_eq-Decides name other).0 hit in
        let found : pod_of history other ≡ Some state = ap (pod_of history) (sym same) ∙ seen in
        rw (hit, found) refl

    not_before : pods_of number history name ≡ None
    not_before = ap (claimed_pod number) seen ∙ rw (nobody number state.claim free) refl

    claim_grows : PodsGrow (pods_of number history) (pods_of number (claiming ∷ history))
    claim_grows other claimed is = elim (cases_Bool (bytes_eq name other)) [
      | inl hit ↦
          let same : name ≡ other = (bytes_eq-Decides name other).0 hit in
          let bad : None ≡ Some claimed = sym not_before ∙ (ap (pods_of number history) same ∙ is) in
          cc (bad)
      | inr miss ↦ (claimed, ap (claimed_pod number) (unclaimed_other other miss) ∙ is, refl, refl)
    ]

    -- no step of the pod is armed yet
    nothing_armed : (child : ℕ) (arming : Arming) → arming_of child told ≡ Some arming → arming.order.pod ≡ name → ⊥
    nothing_armed child arming armed same =
        let at = met.kept.armed.each child arming armed in
        let bad : None ≡ Some at.claimed = sym not_before ∙ (ap (pods_of number history) (sym same) ∙ at.is_claimed) in
        cc (bad)

    claim_settled : AreArmedSettled killed (pods_of number (claiming ∷ history)) told
    claim_settled child arming armed over = elim (cases_Bool (bytes_eq name arming.order.pod)) [
      | inl hit ↦ absurd (nothing_armed child arming armed (sym ((bytes_eq-Decides name arming.order.pod).0 hit)))
      | inr miss ↦ met.settled child arming armed record { it = over.it; is = sym (ap (claimed_pod number) (unclaimed_other arming.order.pod miss)) ∙ over.is; has = over.has }
    ]

    -- a held pod has another name
    held_differs : (j : ℕ) (other : HeldPod) → slice_get held j ≡ Some other → bytes_eq name other.name ≡ false
    held_differs j other found = elim (cases_Bool (bytes_eq name other.name)) [
      | inl hit ↦
          let same : name ≡ other.name = (bytes_eq-Decides name other.name).0 hit in
          let mine = met.claimed.mine j other found in
          let is : state ≡ mine.it = same_Some state mine.it (sym seen ∙ (ap (pod_of history) same ∙ mine.is)) in
          let bad : None ≡ Some (claim_of number life) = sym free ∙ (ap (λ (s : PodState). s.claim) is ∙ mine.has.claimed) in
          cc (bad)
      | inr miss ↦ miss
    ]

    pub met_claimed : AreMet number life root (held ++ pod ∷ []) (claiming ∷ history) killed told
    met_claimed = record {
      claimed = record {
        mine = λ i p found. elim (get_more held pod p i found) [
          | inl before ↦
              let mine = met.claimed.mine i p before in
              record { it = mine.it; is = unclaimed_other p.name (held_differs i p before) ∙ mine.is; has = mine.has }
          | inr last ↦
              let hit : bytes_eq name pod.name ≡ true = (bytes_eq-Decides name pod.name).1 (sym named) in
              let mine : Has (pod_of (claiming ∷ history) pod.name) (IsMine number life pod) = record {
                it = record state { claim = Some (claim_of number life) };
                is = claimed_now pod.name hit;
                has = record { claimed = refl; unended = unended; plan = sym plan };
              } in
              subst (λ (q : HeldPod). Has (pod_of (claiming ∷ history) q.name) (IsMine number life q)) (sym last.1) mine
        ];
        all = λ other found_state is mine not_ended. elim (cases_Bool (bytes_eq name other)) [
          | inl hit ↦ record { place = length held; pod = pod; at = get_last held pod; named = named ∙ (bytes_eq-Decides name other).0 hit }
          | inr miss ↦ before_too other (met.claimed.all other found_state (sym (unclaimed_other other miss) ∙ is) mine not_ended)
        ];
        apart = λ i j a b at_i at_j same. apart_more i j a b (get_more held pod a i at_i) (get_more held pod b j at_j) same;
        none_lost = λ other found_state ended is mine is_ended. elim (cases_Bool (bytes_eq name other)) [
          | inl hit ↦
              let is_state : record state { claim = Some (claim_of number life) } ≡ found_state = same_Some _ found_state (sym (claimed_now other hit) ∙ is) in
              let bad : None ≡ Some ended = sym unended ∙ (ap (λ (s : PodState). s.ended) is_state ∙ is_ended) in
              cc (bad)
          | inr miss ↦ met.claimed.none_lost other found_state ended (sym (unclaimed_other other miss) ∙ is) mine is_ended
        ];
      };
      keeps = λ i p found. elim (get_more held pod p i found) [
        | inl before ↦ met.keeps i p before
        | inr last ↦ subst (KeepsPod told) (sym last.1) keeps_new
      ];
      ready = λ have i p found. elim (get_more held pod p i found) [
        | inl before ↦ met.ready have.1 i p before
        | inr last ↦ subst (λ (q : HeldPod). ReadyIsSo root q told) (sym last.1) not_yet
      ];
      kept = growth_keeps (layout_of root) killed (pods_of number history) (pods_of number (claiming ∷ history)) told claim_grows (armed_enough killed root (pods_of number history) (pods_of number (claiming ∷ history)) told met.kept claim_settled) met.kept;
      settled = claim_settled;
    }
      where
        before_too : (other : List ℕ) → IsHeld held other → IsHeld (held ++ pod ∷ []) other
        before_too other found = record { place = found.place; pod = found.pod; at = get_before held pod found.pod found.place found.at; named = found.named }

        not_yet : ReadyIsSo root pod told
        not_yet is_ready = let bad : true ≡ false = sym is_ready ∙ unready in cc (bad)

        names_differ : (j : ℕ) (p : HeldPod) → slice_get held j ≡ Some p → p.name ≡ pod.name → ⊥
        names_differ j p found same =
            let hit : bytes_eq name p.name ≡ true = (bytes_eq-Decides name p.name).1 (sym named ∙ sym same) in
            let bad : true ≡ false = sym hit ∙ held_differs j p found in
            cc (bad)

        apart_more : (i j : ℕ) (a b : HeldPod) → ((slice_get held i ≡ Some a) ⊎ ((i ≡ length held) × (a ≡ pod))) → ((slice_get held j ≡ Some b) ⊎ ((j ≡ length held) × (b ≡ pod))) → a.name ≡ b.name → i ≡ j
        apart_more i j a b (inl at_i) (inl at_j) same = met.claimed.apart i j a b at_i at_j same
        apart_more i j a b (inl at_i) (inr last) same = absurd (names_differ i a at_i (same ∙ ap (λ (p : HeldPod). p.name) last.1))
        apart_more i j a b (inr last) (inl at_j) same = absurd (names_differ j b at_j (sym same ∙ ap (λ (p : HeldPod). p.name) last.1))
        apart_more i j a b (inr one) (inr two) same = one.0 ∙ sym two.0

        few : length pod.steps.items ≤ length pod.plan.orders
        few = let zero_steps : length pod.steps.items ≡ 0 = ap length none in omega (arith, zero_steps)

        no_step : (place : ℕ) (step : HeldStep) → slice_get [] place ≡ Some step → HoldsStep told pod.name place step
        no_step place step is = cc (is)

        keeps_new : KeepsPod told pod
        keeps_new = record {
          planned = subst (λ (p : Plan). IsPlanOf pod.name p) (sym plan) (subst (λ (n : List ℕ). IsPlanOf n state.plan) (sym named) planned);
          holds = record {
            steps = λ place step is. no_step place step (subst (λ (ss : List HeldStep). slice_get ss place ≡ Some step) none is);
            all = λ child arming armed same. absurd (nothing_armed child arming armed (same ∙ named));
            unready = λ not_ready. none;
          };
          within = few;
        }
