-- Each start and end of a step is told once, of a pod that the kubelet claimed.
use Rattle.std.proofs.Common.{◌≡◌, ◌≢◌, ℕ, zero, suc, ◌<◌, ◌≤◌, ◌+◌, List, [], ◌∷◌, ◌++◌, length, Option, Some, None, true, false, refl, sym, ◌∙◌, ap, subst, arith, inl, inr, Contains, AllPairs, nat_eq, length-append}
use Rattle.std.specs.Prelude.{slice_get}
use Rattle.std.proofs.lemmas.Bool.{cases_Bool, eqb-true, eq-eqb}
use Rattle.std.proofs.lemmas.Option.{same_Some}
use Rattle.std.proofs.lemmas.List.Elements.{Contains-append_cases}
use Rattle.std.proofs.lemmas.List.Kept.{AllPairs-cons}
use Rattle.tk_edge.specs.declared.order.Order.{Order}
use Rattle.tk_edge.specs.declared.event.Event.{Event as HostEvent}
use Rattle.tk_edge.specs.declared.event.Event.TheVariants as events
use Rattle.tk_edge.specs.History.{IsTold, exit_of, order_of}
use Rattle.tk_edge.specs.InOrder.{Claimed, Pods, NotStarted, IsDue, AreStartsDue, IsKept}
use Rattle.tk_edge.proofs.InOrder.{order_stays, exit_stays, started_due}
use Rattle.tk_journal.specs.declared.entry.Entry.{Entry}
use Rattle.tk_journal.specs.declared.object.PodState.{PodState}
use Rattle.tk_journal.specs.declared.object.Claim.{Claim}
use Rattle.tk_journal.specs.History.{pod_of}
use Rattle.tk_deeds.specs.Deeds.{Deed, IsOfPod}
use Rattle.tk_journal.proofs.Attempts.{get_below}
use Rattle.tk_machine.proofs.Pairs.{all_of, AllPairs-append}
use Rattle.tk_held.specs.Conditions.{claimed_pod, pods_of}
use Rattle.tk_machine.specs.State.{KubeletState}
use Rattle.tk_machine.specs.Hosts.{layout, end_of, deeds_of}
use Rattle.tk_machine.specs.Fair.{deeds_in}

-- deeds only become more

pub deeds_grow : (since old : List HostEvent) → length (deeds_of old) ≤ length (deeds_of (since ++ old))
deeds_grow [] old = omega arith
deeds_grow (events.Started child order ∷ since) old = omega (arith, deeds_grow since old)
deeds_grow (events.Exited child exit ∷ since) old = omega (arith, deeds_grow since old, length-append (end_of (order_of child (since ++ old))) (deeds_of (since ++ old)))
deeds_grow (e ∷ since) old = deeds_grow since old

-- the end of an order's step
end_is : (o : Option Order) (deed : Deed) → Contains (end_of o) deed → (order : Order) × (o ≡ Some order) × (record { pod = order.pod; step = order.step; is_end = true } ≡ deed)
end_is None deed has = absurd (omega (arith, has.1))
end_is (Some order) deed (zero, below, is) = (order, refl, is)
end_is (Some order) deed (suc k, below, is) = absurd (omega (arith, below))

-- a step that wasn't started has no start
not_among : (told : List HostEvent) (pod : List ℕ) (step : ℕ) → NotStarted pod step told → (deed : Deed) → Contains (deeds_of told) deed → deed.is_end ≡ false → deed.pod ≡ pod → deed.step ≡ step → ⊥
not_among [] pod step none deed has start same_pod same_step = omega (arith, has.1)
not_among (events.Started child order ∷ older) pod step none deed (zero, below, is) start same_pod same_step = none.0 (ap (λ (d : Deed). d.pod) is ∙ same_pod) (ap (λ (d : Deed). d.step) is ∙ same_step)
not_among (events.Started child order ∷ older) pod step none deed (suc k, below, is) start same_pod same_step = not_among older pod step none.1 deed (k, omega arith, is) start same_pod same_step
not_among (events.Exited child exit ∷ older) pod step none deed has start same_pod same_step = elim (Contains-append_cases (end_of (order_of child older)) (deeds_of older) deed has) [
  | inl own ↦ (let ends : true ≡ deed.is_end = ap (λ (d : Deed). d.is_end) (end_is (order_of child older) deed own).2 in cc (ends, start))
  | inr other ↦ not_among older pod step none deed other start same_pod same_step
]
not_among (e ∷ older) pod step none deed has start same_pod same_step = not_among older pod step none deed has start same_pod same_step

pub not_ordered : (told : List HostEvent) (pod : List ℕ) (step : ℕ) → NotStarted pod step told → (child : ℕ) (order : Order) → order_of child told ≡ Some order → order.pod ≡ pod → order.step ≡ step → ⊥
not_ordered [] pod step none child order is same_pod same_step = cc
not_ordered (events.Started other first ∷ older) pod step none child order is same_pod same_step = elim (cases_Bool (nat_eq child other)) [
  | inl hit ↦ (let same : first ≡ order = same_Some first order (rw hit at is) in none.0 (ap (λ (o : Order). o.pod) same ∙ same_pod) (ap (λ (o : Order). o.step) same ∙ same_step))
  | inr miss ↦ not_ordered older pod step none.1 child order (rw miss at is) same_pod same_step
]
not_ordered (e ∷ older) pod step none child order is same_pod same_step = not_ordered older pod step none child order is same_pod same_step

-- a step is started by one child
pub one_child : (pods : Pods) (told : List HostEvent) → AreStartsDue pods told → (c d : ℕ) (o p : Order) → order_of c told ≡ Some o → order_of d told ≡ Some p → o.pod ≡ p.pod → o.step ≡ p.step → c ≡ d
one_child pods [] due c d o p is_c is_d same_pod same_step = cc
one_child pods (events.Started child order ∷ older) due c d o p is_c is_d same_pod same_step = elim (cases_Bool (nat_eq c child)) [
  | inl hit_c ↦ (
      let first : order ≡ o = same_Some order o (rw hit_c at is_c) in
      elim (cases_Bool (nat_eq d child)) [
        | inl hit_d ↦ eqb-true c child hit_c ∙ sym (eqb-true d child hit_d)
        | inr miss_d ↦ absurd (not_ordered older order.pod order.step due.1 d p (rw miss_d at is_d) (sym same_pod ∙ ap (λ (x : Order). x.pod) (sym first)) (sym same_step ∙ ap (λ (x : Order). x.step) (sym first)))
      ])
  | inr miss_c ↦ elim (cases_Bool (nat_eq d child)) [
    | inl hit_d ↦ (
        let second : order ≡ p = same_Some order p (rw hit_d at is_d) in
        absurd (not_ordered older order.pod order.step due.1 c o (rw miss_c at is_c) (same_pod ∙ ap (λ (x : Order). x.pod) (sym second)) (same_step ∙ ap (λ (x : Order). x.step) (sym second))))
    | inr miss_d ↦ one_child pods older due.2 c d o p (rw miss_c at is_c) (rw miss_d at is_d) same_pod same_step
  ]
]
one_child pods (e ∷ older) due c d o p is_c is_d same_pod same_step = one_child pods older due c d o p is_c is_d same_pod same_step

-- an end is of a child that has an exit
record EndedStep (told : List HostEvent) (deed : Deed) : Type 0 where
  child : ℕ
  order : Order
  started : order_of child told ≡ Some order
  exit : ℕ
  exited : exit_of child told ≡ Some exit
  same_pod : order.pod ≡ deed.pod
  same_step : order.step ≡ deed.step

ended_later : (e : HostEvent) (older : List HostEvent) (deed : Deed) → IsTold (e ∷ older) → EndedStep older deed → EndedStep (e ∷ older) deed
ended_later e older deed told ended = record {
  child = ended.child;
  order = ended.order;
  started = order_stays ended.child ended.order e older told.0 ended.started;
  exit = ended.exit;
  exited = exit_stays ended.child ended.exit e older told.0 ended.exited;
  same_pod = ended.same_pod;
  same_step = ended.same_step;
}

ended_step : (told : List HostEvent) (deed : Deed) → IsTold told → Contains (deeds_of told) deed → deed.is_end ≡ true → EndedStep told deed
ended_step [] deed told has ends = absurd (omega (arith, has.1))
ended_step (events.Started child order ∷ older) deed told (zero, below, is) ends = (let start : false ≡ deed.is_end = ap (λ (d : Deed). d.is_end) is in cc (start, ends))
ended_step (events.Started child order ∷ older) deed told (suc k, below, is) ends = ended_later (events.Started child order) older deed told (ended_step older deed told.1 (k, omega arith, is) ends)
ended_step (events.Exited child exit ∷ older) deed told has ends = elim (Contains-append_cases (end_of (order_of child older)) (deeds_of older) deed has) [
  | inl own ↦ (
      let from = end_is (order_of child older) deed own in
      record {
        child = child;
        order = from.0;
        started = from.1;
        exit = exit;
        exited = rw (eq-eqb child child refl) refl;
        same_pod = ap (λ (d : Deed). d.pod) from.2;
        same_step = ap (λ (d : Deed). d.step) from.2;
      })
  | inr other ↦ ended_later (events.Exited child exit) older deed told (ended_step older deed told.1 other ends)
]
ended_step (e ∷ older) deed told has ends = ended_later e older deed told (ended_step older deed told.1 has ends)

pub deeds_differ : (pods : Pods) (told : List HostEvent) → IsTold told → AreStartsDue pods told → AllPairs (λ a b. a ≢ b) (deeds_of told)
deeds_differ pods [] told due = λ i j d less below. absurd (omega arith)
deeds_differ pods (events.Started child order ∷ older) told due =
    let new : Deed = record { pod = order.pod; step = order.step; is_end = false } in
    AllPairs-cons (λ (a b : Deed). a ≢ b) new (deeds_of older)
    (all_of (λ (d : Deed). new ≢ d) (deeds_of older) (λ deed has same. not_among older order.pod order.step due.1 deed has (ap (λ (d : Deed). d.is_end) (sym same)) (ap (λ (d : Deed). d.pod) (sym same)) (ap (λ (d : Deed). d.step) (sym same))))
    (deeds_differ pods older told.1 due.2)
deeds_differ pods (events.Exited child exit ∷ older) told due =
    let order = told.0.order in
    let new : Deed = record { pod = order.pod; step = order.step; is_end = true } in
    subst (λ (o : Option Order). AllPairs (λ (a b : Deed). a ≢ b) (end_of o ++ deeds_of older)) (sym told.0.started)
    (AllPairs-cons (λ (a b : Deed). a ≢ b) new (deeds_of older)
    (all_of (λ (d : Deed). new ≢ d) (deeds_of older) (λ deed has same.
    let ended = ended_step older deed told.1 has (ap (λ (d : Deed). d.is_end) (sym same)) in
    let is_child : ended.child ≡ child = one_child pods older due ended.child child ended.order order ended.started told.0.started (ended.same_pod ∙ ap (λ (d : Deed). d.pod) (sym same)) (ended.same_step ∙ ap (λ (d : Deed). d.step) (sym same)) in
    let exited : exit_of child older ≡ Some ended.exit = subst (λ (c : ℕ). exit_of c older ≡ Some ended.exit) is_child ended.exited in
    let none = told.0.no_exit in
    cc (exited, none)))
    (deeds_differ pods older told.1 due))
deeds_differ pods (e ∷ older) told due = deeds_differ pods older told.1 due

-- a deed is of a step of a claimed pod
record OfClaimed (pods : Pods) (deed : Deed) : Type 0 where
  claimed : Claimed
  is_claimed : pods deed.pod ≡ Some claimed
  within : deed.step < length claimed.orders

of_due : (pods : Pods) (order : Order) (told : List HostEvent) (deed : Deed) → order.pod ≡ deed.pod → order.step ≡ deed.step → IsDue pods order told → OfClaimed pods deed
of_due pods order told deed same_pod same_step due = record {
  claimed = due.claimed;
  is_claimed = ap pods (sym same_pod) ∙ due.is_claimed;
  within = omega (arith, same_step, get_below due.claimed.orders order.step order due.own_order);
}

of_claimed : (pods : Pods) (told : List HostEvent) (deed : Deed) → IsTold told → AreStartsDue pods told → Contains (deeds_of told) deed → OfClaimed pods deed
of_claimed pods [] deed told due has = absurd (omega (arith, has.1))
of_claimed pods (events.Started child order ∷ older) deed told due (zero, below, is) = of_due pods order older deed (ap (λ (d : Deed). d.pod) is) (ap (λ (d : Deed). d.step) is) due.0
of_claimed pods (events.Started child order ∷ older) deed told due (suc k, below, is) = of_claimed pods older deed told.1 due.2 (k, omega arith, is)
of_claimed pods (events.Exited child exit ∷ older) deed told due has = elim (Contains-append_cases (end_of (order_of child older)) (deeds_of older) deed has) [
  | inl own ↦ (
      let from = end_is (order_of child older) deed own in
      of_due pods from.0 older deed (ap (λ (d : Deed). d.pod) from.2) (ap (λ (d : Deed). d.step) from.2) (started_due pods child from.0 older told.1 due from.1))
  | inr other ↦ of_claimed pods older deed told.1 due other
]
of_claimed pods (e ∷ older) deed told due has = of_claimed pods older deed told.1 due has

-- the pod behind it

record ClaimedBy (i : ℕ) (o : Option PodState) (claimed : Claimed) : Type 0 where
  pod : PodState
  is : o ≡ Some pod
  orders : claimed.orders ≡ pod.plan.orders
  claim : Claim
  has_claim : pod.claim ≡ Some claim
  number : claim.number ≡ i

claimed_by : (i : ℕ) (o : Option PodState) (claimed : Claimed) → claimed_pod i o ≡ Some claimed → ClaimedBy i o claimed
claimed_by i None claimed is = cc
claimed_by i (Some pod) claimed is = by_claim pod.claim refl
  where
    by_claim : (c : Option Claim) → pod.claim ≡ c → ClaimedBy i (Some pod) claimed
    by_claim None none = (let out = rw none at is in cc (out))
    by_claim (Some claim) has = elim (cases_Bool (nat_eq claim.number i)) [
      | inl hit ↦ record {
        pod = pod;
        is = refl;
        orders = ap (λ (c : Claimed). c.orders) (sym (same_Some _ claimed (rw (has, hit) at is)));
        claim = claim;
        has_claim = has;
        number = eqb-true claim.number i hit;
      }
      | inr miss ↦ (let out = rw (has, miss) at is in cc (out))
    ]

one_claimer : (i j : ℕ) (history : List Entry) (name : List ℕ) (a b : Claimed) → pods_of i history name ≡ Some a → pods_of j history name ≡ Some b → i ≡ j
one_claimer i j history name a b is_a is_b =
    let by_a = claimed_by i (pod_of history name) a is_a in
    let by_b = claimed_by j (pod_of history name) b is_b in
    let pods : by_a.pod ≡ by_b.pod = same_Some by_a.pod by_b.pod (sym by_a.is ∙ by_b.is) in
    let claims : by_a.claim ≡ by_b.claim = same_Some by_a.claim by_b.claim (sym by_a.has_claim ∙ (ap (λ (p : PodState). p.claim) pods ∙ by_b.has_claim)) in
    sym by_a.number ∙ (ap (λ (c : Claim). c.number) claims ∙ by_b.number)

-- over all kubelets

abbrev pub AreKept : List Entry → ℕ → List KubeletState → Type 0
AreKept history first ks = (i : ℕ) (k : KubeletState) → slice_get ks i ≡ Some k → IsKept layout k.killed (pods_of (first + i) history) k.told

kept_first : (history : List Entry) (first : ℕ) (k : KubeletState) (ks : List KubeletState) → AreKept history first (k ∷ ks) → IsKept layout k.killed (pods_of first history) k.told
kept_first history first k ks kept = subst (λ (n : ℕ). IsKept layout k.killed (pods_of n history) k.told) (omega arith) (kept 0 k refl)

kept_rest : (history : List Entry) (first : ℕ) (k : KubeletState) (ks : List KubeletState) → AreKept history first (k ∷ ks) → AreKept history (suc first) ks
kept_rest history first k ks kept i x at = subst (λ (n : ℕ). IsKept layout x.killed (pods_of n history) x.told) (omega arith) (kept (suc i) x at)

record OfKubelet (history : List Entry) (first : ℕ) (deed : Deed) : Type 0 where
  number : ℕ
  from : first ≤ number
  of : OfClaimed (pods_of number history) deed

of_kubelet : (history : List Entry) (first : ℕ) (ks : List KubeletState) → AreKept history first ks → (deed : Deed) → Contains (deeds_in ks) deed → OfKubelet history first deed
of_kubelet history first [] kept deed has = absurd (omega (arith, has.1))
of_kubelet history first (k ∷ ks) kept deed has = elim (Contains-append_cases (deeds_of k.told) (deeds_in ks) deed has) [
  | inl own ↦ (
      let mine = kept_first history first k ks kept in
      record { number = first; from = omega arith; of = of_claimed (pods_of first history) k.told deed mine.told mine.in_order.due own })
  | inr other ↦ (
      let rest = of_kubelet history (suc first) ks (kept_rest history first k ks kept) deed other in
      record { number = rest.number; from = omega (arith, rest.from); of = rest.of })
]

pub all_differ : (history : List Entry) (first : ℕ) (ks : List KubeletState) → AreKept history first ks → AllPairs (λ a b. a ≢ b) (deeds_in ks)
all_differ history first [] kept = λ i j d less below. absurd (omega arith)
all_differ history first (k ∷ ks) kept =
    let mine = kept_first history first k ks kept in
    let rest = kept_rest history first k ks kept in
    AllPairs-append (λ (a b : Deed). a ≢ b) (deeds_of k.told) (deeds_in ks) (deeds_differ (pods_of first history) k.told mine.told mine.in_order.due) (all_differ history (suc first) ks rest)
    (λ a b has_a has_b same.
    let of_a = of_claimed (pods_of first history) k.told a mine.told mine.in_order.due has_a in
    let of_b = of_kubelet history (suc first) ks rest b has_b in
    omega (arith, of_b.from, one_claimer first of_b.number history a.pod of_a.claimed of_b.of.claimed of_a.is_claimed (ap (λ (d : Deed). pods_of of_b.number history d.pod) same ∙ of_b.of.is_claimed)))

pub all_of_pods : (history : List Entry) (ks : List KubeletState) → AreKept history 0 ks → (deed : Deed) → Contains (deeds_in ks) deed → IsOfPod history deed
all_of_pods history ks kept deed has =
    let of = of_kubelet history 0 ks kept deed has in
    let by = claimed_by of.number (pod_of history deed.pod) of.of.claimed of.of.is_claimed in
    record { it = by.pod; is = by.is; has = omega (arith, of.of.within, ap length by.orders) }
