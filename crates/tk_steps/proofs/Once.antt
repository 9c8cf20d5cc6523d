-- Counts of watches.
use Rattle.std.proofs.Common.{◌≡◌, ℕ, zero, suc, ◌<◌, ◌≤◌, ◌+◌, List, [], ◌∷◌, length, Some, None, true, Ok, Err, refl, sym, ◌∙◌, ap, subst, inl, inr, arith, nat_eq, set, slice_get}
use Rattle.std.specs.Prelude.{◌⊎◌, map, Result, OnOk}
use Rattle.std.proofs.lemmas.Bool.{cases_Bool, cases_lt, eqb-true, eq-eqb}
use Rattle.std.proofs.lemmas.Option.{same_Some, slice_get_within}
use Rattle.tk_edge.specs.Causes.{raised, CountsWatch, IsWatchedOnce}
use Rattle.tk_edge.specs.declared.miss.Miss.{Miss}
use Rattle.tk_edge.specs.declared.miss.Miss.TheVariants as misses
use Rattle.tk_edge.specs.declared.event.Event.{Event}
use Rattle.tk_edge.specs.declared.event.Arming.{Arming}
use Rattle.tk_edge.specs.History.{arming_of}
use Rattle.tk_edge.specs.declared.order.Watch.{Watch}
use Rattle.tk_edge.specs.declared.order.Watch.TheVariants as watches
use Rattle.tk_steps.specs.declared.held.HeldPod.{HeldPod}
use Rattle.tk_steps.specs.declared.held.HeldStep.{HeldStep}
use Rattle.tk_steps.specs.Held.{HoldsStep, HoldsPod}
use Rattle.tk_steps.specs.Moves.{seen}
use Rattle.tk_steps.specs.Watched.{children_of, IsChild, WatchesPod}

-- one place after the other, each child at one place alone
module _ (At : ℕ → ℕ → Type 0) (apart : (i j c : ℕ) → At i c → At j c → i ≡ j) (start w : ℕ → ℕ) (p : ℕ) (only : (c : ℕ) → (w c ≡ start c) ⊎ ((i : ℕ) × (i < p) × At i c × (w c ≡ raised (start c)))) (now : ℕ → ℕ) (one : (c : ℕ) → (now c ≡ w c) ⊎ (At p c × (now c ≡ raised (w c)))) where
  unwatched : (c : ℕ) → At p c → w c ≡ start c
  unwatched c at = elim (only c) [
    | inl same ↦ same
    | inr seen ↦ (let below = seen.1 in let is : seen.0 ≡ p = apart seen.0 p c seen.2 at in absurd (omega (arith, below, is)))
  ]

  pub only_then : (q : ℕ) → q ≡ p + 1 → (c : ℕ) → (now c ≡ start c) ⊎ ((i : ℕ) × (i < q) × At i c × (now c ≡ raised (start c)))
  only_then q next c = elim (one c) [
    | inl stays ↦ elim (only c) [
      | inl same ↦ inl (stays ∙ same)
      | inr seen ↦ (let below = seen.1 in inr (seen.0, omega (arith, below, next), seen.2, stays ∙ seen.3))
    ]
    | inr seen ↦ inr (p, omega (arith, next), seen.0, seen.1 ∙ ap raised (unwatched c seen.0))
  ]

  pub each_then : (c : ℕ) (i : ℕ) → i ≤ p → At i c → (i < p → w c ≡ raised (start c)) → (i ≡ p → now c ≡ raised (w c)) → now c ≡ raised (start c)
  each_then c i most at before here = elim (cases_lt i p) [
    | inl less ↦ elim (one c) [
      | inl stays ↦ stays ∙ before less
      | inr seen ↦ (let is : i ≡ p = apart i p c at seen.0 in absurd (omega (arith, less, is)))
    ]
    | inr over ↦
        let is : i ≡ p = omega (arith, most, over) in
        here is ∙ ap raised (unwatched c (subst (λ (n : ℕ). At n c) is at))
  ]

-- children of held pods

get_child : (steps : List HeldStep) (i child : ℕ) → slice_get (map (λ (s : HeldStep). s.child) steps) i ≡ Some child → (step : HeldStep) × (slice_get steps i ≡ Some step) × (step.child ≡ child)
get_child [] i child at = cc
get_child (s ∷ steps) zero child at = (s, refl, same_Some s.child child at)
get_child (s ∷ steps) (suc i) child at = get_child steps i child at

pub child_at : (steps : List HeldStep) (i : ℕ) (step : HeldStep) → slice_get steps i ≡ Some step → slice_get (map (λ (s : HeldStep). s.child) steps) i ≡ Some step.child
child_at [] i step at = cc
child_at (s ∷ steps) zero step at = ap (λ (o : HeldStep). Some o.child) (same_Some s step at)
child_at (s ∷ steps) (suc i) step at = child_at steps i step at

armed_at : (told : List Event) (pod : HeldPod) (i child : ℕ) → HoldsPod told pod → slice_get (children_of pod) i ≡ Some child → (step : HeldStep) × (step.child ≡ child) × HoldsStep told pod.name i step
armed_at told pod i child holds at =
    let found = get_child pod.steps.items i child at in
    (found.0, found.2, holds.steps i found.0 found.1)

pub child_within : (pod : HeldPod) (i child : ℕ) → slice_get (children_of pod) i ≡ Some child → i < length pod.steps.items
child_within pod i child at = let found = get_child pod.steps.items i child at in slice_get_within pod.steps.items i found.0 found.1

-- no two steps of a pod have one child
pub steps_apart : (told : List Event) (pod : HeldPod) → HoldsPod told pod → (i j child : ℕ) → slice_get (children_of pod) i ≡ Some child → slice_get (children_of pod) j ≡ Some child → i ≡ j
steps_apart told pod holds i j child at_i at_j =
    let a = armed_at told pod i child holds at_i in
    let b = armed_at told pod j child holds at_j in
    let first : arming_of child told ≡ Some a.2.arming = subst (λ (c : ℕ). arming_of c told ≡ Some a.2.arming) a.1 a.2.armed in
    let second : arming_of child told ≡ Some b.2.arming = subst (λ (c : ℕ). arming_of c told ≡ Some b.2.arming) b.1 b.2.armed in
    let same : a.2.arming ≡ b.2.arming = same_Some _ _ (sym first ∙ second) in
    sym a.2.same_step ∙ (ap (λ (x : Arming). x.order.step) same ∙ b.2.same_step)

-- nor have two pods
pub pods_apart : (told : List Event) (p q : HeldPod) → HoldsPod told p → HoldsPod told q → (child : ℕ) → IsChild p child → IsChild q child → p.name ≡ q.name
pods_apart told p q holds_p holds_q child in_p in_q =
    let a = armed_at told p in_p.place child holds_p in_p.at in
    let b = armed_at told q in_q.place child holds_q in_q.at in
    let first : arming_of child told ≡ Some a.2.arming = subst (λ (c : ℕ). arming_of c told ≡ Some a.2.arming) a.1 a.2.armed in
    let second : arming_of child told ≡ Some b.2.arming = subst (λ (c : ℕ). arming_of c told ≡ Some b.2.arming) b.1 b.2.armed in
    let same : a.2.arming ≡ b.2.arming = same_Some _ _ (sym first ∙ second) in
    sym a.2.same_pod ∙ (ap (λ (x : Arming). x.order.pod) same ∙ b.2.same_pod)

-- one watch

pub children_set : (steps : List HeldStep) (i : ℕ) (step now : HeldStep) → slice_get steps i ≡ Some step → now.child ≡ step.child → map (λ (s : HeldStep). s.child) (set steps i now) ≡ map (λ (s : HeldStep). s.child) steps
children_set [] i step now at same = refl
children_set (s ∷ steps) zero step now at same =
    let here : now.child ≡ s.child = same ∙ ap (λ (x : HeldStep). x.child) (sym (same_Some s step at)) in
    ap (λ (c : ℕ). c ∷ map (λ (x : HeldStep). x.child) steps) here
children_set (s ∷ steps) (suc i) step now at same = ap (λ (cs : List ℕ). s.child ∷ cs) (children_set steps i step now at same)

pub seen_child : (watch : Watch) (step : HeldStep) → (seen watch step).child ≡ step.child
seen_child watches.Waits step = refl
seen_child watches.Started step = refl
seen_child watches.Runs step = refl
seen_child (watches.Passed exit) step = refl
seen_child (watches.Broke (Some exit)) step = refl
seen_child (watches.Broke None) step = refl

module _ (cs : List ℕ) (place child : ℕ) (at : slice_get cs place ≡ Some child) (before now : ℕ → ℕ) where
  pub hit : IsWatchedOnce child before now → (other : ℕ) → slice_get cs place ≡ Some other → now other ≡ raised (before other)
  hit once other found =
      let same : nat_eq other child ≡ true = eq-eqb other child (same_Some other child (sym found ∙ at)) in
      once other ∙ rw same refl

  pub miss : IsWatchedOnce child before now → (other : ℕ) → (now other ≡ before other) ⊎ ((slice_get cs place ≡ Some other) × (now other ≡ raised (before other)))
  miss once other = elim (cases_Bool (nat_eq other child)) [
    | inl same ↦ inr (at ∙ ap (λ (n : ℕ). Some n) (sym (eqb-true other child same)), once other ∙ rw same refl)
    | inr differ ↦ inl (once other ∙ rw differ refl)
  ]

  pub watched_once : {T : Type 0} (result : Result T Miss) → CountsWatch child before now result → OnOk result ((other : ℕ) → slice_get cs place ≡ Some other → now other ≡ raised (before other))
  watched_once (Ok answer) counts = hit counts
  watched_once (Err e) counts = tt

  pub watched_only : {T : Type 0} (result : Result T Miss) → CountsWatch child before now result → (other : ℕ) → (now other ≡ before other) ⊎ ((slice_get cs place ≡ Some other) × (now other ≡ raised (before other)))
  watched_only (Ok answer) counts other = miss counts other
  watched_only (Err misses.Failed) counts other = miss counts other
  watched_only (Err misses.Memory) counts other = inl (counts other)

-- all watches of one pod

pub none_watched : (P : ℕ → Type 0) (start now : ℕ → ℕ) → now ≡ start → (c : ℕ) → (now c ≡ start c) ⊎ P c
none_watched P start now is c = inl (ap (λ (f : ℕ → ℕ). f c) is)

module _ (told : List Event) (pod now_pod : HeldPod) (holds : HoldsPod told pod) (same : children_of now_pod ≡ children_of pod) (start w now : ℕ → ℕ) (p : ℕ) (only : (c : ℕ) → (w c ≡ start c) ⊎ ((i : ℕ) × (i < p) × (slice_get (children_of pod) i ≡ Some c) × (w c ≡ raised (start c)))) (one : (c : ℕ) → (now c ≡ w c) ⊎ ((slice_get (children_of now_pod) p ≡ Some c) × (now c ≡ raised (w c)))) where
  one_here : (c : ℕ) → (now c ≡ w c) ⊎ ((slice_get (children_of pod) p ≡ Some c) × (now c ≡ raised (w c)))
  one_here c = elim (one c) [
    | inl stays ↦ inl stays
    | inr seen ↦ inr (subst (λ (cs : List ℕ). slice_get cs p ≡ Some c) same seen.0, seen.1)
  ]

  pub steps_only : (q : ℕ) → q ≡ p + 1 → (c : ℕ) → (now c ≡ start c) ⊎ ((i : ℕ) × (i < q) × (slice_get (children_of pod) i ≡ Some c) × (now c ≡ raised (start c)))
  steps_only q next c = only_then (λ i c. slice_get (children_of pod) i ≡ Some c) (steps_apart told pod holds) start w p only now one_here q next c

  pub steps_only_pod : WatchesPod pod start now
  steps_only_pod c = elim (steps_only (p + 1) refl c) [
    | inl stays ↦ inl stays
    | inr seen ↦ inr (record { place = seen.0; at = seen.2 }, seen.3)
  ]

  pub steps_each : ((i c : ℕ) → i < p → slice_get (children_of pod) i ≡ Some c → w c ≡ raised (start c)) → ((c : ℕ) → slice_get (children_of now_pod) p ≡ Some c → now c ≡ raised (w c)) → (i c : ℕ) → i < p + 1 → slice_get (children_of pod) i ≡ Some c → now c ≡ raised (start c)
  steps_each each here i c below at =
      each_then (λ i c. slice_get (children_of pod) i ≡ Some c) (steps_apart told pod holds) start w p only now one_here c i (omega (arith, below)) at (λ less. each i c less at) (λ is. here c (subst (λ (cs : List ℕ). slice_get cs p ≡ Some c) (sym same) (subst (λ (n : ℕ). slice_get (children_of pod) n ≡ Some c) is at)))

pub pod_only : (pod : HeldPod) (p : ℕ) (start w : ℕ → ℕ) → ((c : ℕ) → (w c ≡ start c) ⊎ ((i : ℕ) × (i < p) × (slice_get (children_of pod) i ≡ Some c) × (w c ≡ raised (start c)))) → WatchesPod pod start w
pod_only pod p start w only c = elim (only c) [
  | inl stays ↦ inl stays
  | inr seen ↦ inr (record { place = seen.0; at = seen.2 }, seen.3)
]

-- the pod at one place

pub child_as : (a b : HeldPod) → children_of b ≡ children_of a → (child : ℕ) → IsChild b child → IsChild a child
child_as a b same child own = record { place = own.place; at = subst (λ (cs : List ℕ). slice_get cs own.place ≡ Some child) same own.at }
