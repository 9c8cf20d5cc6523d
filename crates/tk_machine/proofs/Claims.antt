-- What an entry does to the pods that kubelets claimed.
use Rattle.std.proofs.Common.{◌≡◌, ◌≢◌, ℕ, zero, suc, ◌≤◌, List, [], ◌∷◌, Option, Some, None, true, false, refl, sym, ◌∙◌, ap, subst, arith, inl, inr}
use Rattle.std.specs.Prelude.{◌⊎◌, slice_get, slice_set}
use Rattle.std.proofs.lemmas.Bool.{ne_eqb}
use Rattle.std.proofs.lemmas.Option.{same_Some}
use Rattle.tk_edge.specs.History.{Has as HostHas}
use Rattle.tk_edge.specs.InOrder.{Claimed, PodsGrow, AreOverSettled, IsKept}
use Rattle.tk_edge.proofs.Keeps.{growth_keeps}
use Rattle.tk_types.specs.declared.scenario.Kind.TheVariants as kinds
use Rattle.tk_journal.specs.declared.entry.Actor.{Actor}
use Rattle.tk_journal.specs.declared.entry.Actor.TheVariants as actors
use Rattle.tk_journal.specs.declared.act.Act.{Act}
use Rattle.tk_journal.specs.declared.act.Act.TheVariants as acts
use Rattle.tk_journal.specs.declared.entry.Entry.{Entry}
use Rattle.tk_journal.specs.declared.object.PodState.{PodState}
use Rattle.tk_journal.specs.declared.object.Claim.{Claim}
use Rattle.tk_journal.specs.Lists.{Has}
use Rattle.tk_journal.specs.Effects.{writes, pod_made, pod_after, claim_of}
use Rattle.tk_journal.specs.History.{View, view_at, pod_of, pod_written}
use Rattle.tk_journal.specs.PodRows.{claims_for}
use Rattle.tk_journal.specs.Legal.{IsLegal}
use Rattle.tk_journal.proofs.Past.{state_cases}
use Rattle.tk_journal.proofs.Present.{PodRow}
use Rattle.tk_journal.proofs.Grows.{pod_row_of}
use Rattle.tk_held.specs.Conditions.{claimed_pod, pods_of}
use Rattle.tk_machine.specs.State.{KubeletState}
use Rattle.tk_machine.specs.Hosts.{layout}
use Rattle.tk_machine.specs.Machine.{AreClaimsOf}

-- the actor is no life of this kubelet
abbrev pub IsNotBy : ℕ → Actor → Type 0
IsNotBy i actor = (life : ℕ) → actor ≢ actors.Kubelet i life

-- a kubelet of the world, in a life that it reached
abbrev pub IsAmong : List KubeletState → Actor → Type 0
IsAmong kubelets actor = (number life : ℕ) → actor ≡ actors.Kubelet number life → Has (slice_get kubelets number) (λ (k : KubeletState). life ≤ k.life)

new_pod : (i : ℕ) (act : Act) → claimed_pod i (pod_made act) ≡ None
new_pod i (acts.MakePod name task_run attempt plan mark) = refl
new_pod i act = refl

changed_pod : (i : ℕ) (view : View) (actor : Actor) (moment : ℕ) (act : Act) (pod : PodState) → IsNotBy i actor → PodRow view actor moment act pod → claimed_pod i (Some (pod_after actor act pod)) ≡ claimed_pod i (Some pod)
changed_pod i view actor moment (acts.ClaimPod name) pod other row =
    let hits : claims_for i (claim_of actor) ≡ false = ap (λ (a : Actor). claims_for i (claim_of a)) row.by ∙ ne_eqb row.number i (λ same. other row.life (row.by ∙ ap (λ (n : ℕ). actors.Kubelet n row.life) same)) in
    let none : claims_for i pod.claim ≡ false = ap (claims_for i) row.unclaimed in
    rw (hits, none) refl
changed_pod i view actor moment (acts.EndPod name exits outcome) pod other row =
    let none : claims_for i pod.claim ≡ false = ap (claims_for i) row.claimed ∙ ne_eqb row.number i (λ same. other row.life (row.by ∙ ap (λ (n : ℕ). actors.Kubelet n row.life) same)) in
    rw none refl
changed_pod i view actor moment _ pod other row = absurd row

pub same_pods : (e : Entry) (older : List Entry) → IsLegal (e ∷ older) → (i : ℕ) → IsNotBy i e.actor → (name : List ℕ) → pods_of i (e ∷ older) name ≡ pods_of i older name
same_pods e older legal i other name =
    state_cases (writes kinds.Pods name) (λ (before : List Entry) d was. pod_written d was) (λ (o : Option PodState). claimed_pod i o ≡ claimed_pod i (pod_of older name)) e older
    (λ miss. refl) (λ hit. written (pod_of older name) refl hit)
  where
    written : (was : Option PodState) → pod_of older name ≡ was → writes kinds.Pods name e ≡ true → claimed_pod i (pod_written e was) ≡ claimed_pod i was
    written None there hit = new_pod i e.act
    written (Some before) there hit = changed_pod i (view_at e.fronts older) e.actor e.moment e.act before other (pod_row_of older e legal.1 name before hit there)

-- so a host's history stays in order under entries of others
pub others_keep : (e : Entry) (older : List Entry) → IsLegal (e ∷ older) → (i : ℕ) (k : KubeletState) → IsNotBy i e.actor → IsKept layout k.killed (pods_of i older) k.told → IsKept layout k.killed (pods_of i (e ∷ older)) k.told
others_keep e older legal i k other kept = growth_keeps layout k.killed (pods_of i older) (pods_of i (e ∷ older)) k.told grow settled kept
  where
    grow : PodsGrow (pods_of i older) (pods_of i (e ∷ older))
    grow name claimed is = (claimed, same_pods e older legal i other name ∙ is, refl, refl)

    settled : AreOverSettled k.killed (pods_of i (e ∷ older)) k.told
    settled child order at over =
        let has : HostHas (pods_of i older order.pod) (λ (claimed : Claimed). claimed.is_over ≡ true) = record { it = over.it; is = sym (same_pods e older legal i other order.pod) ∙ over.is; has = over.has } in
        kept.in_order.settled child order at has

changed_claim : (kubelets : List KubeletState) (view : View) (actor : Actor) (moment : ℕ) (act : Act) (pod : PodState) (claim : Claim) → IsAmong kubelets actor → PodRow view actor moment act pod → (pod.claim ≡ Some claim → Has (slice_get kubelets claim.number) (λ (k : KubeletState). claim.life ≤ k.life)) → (pod_after actor act pod).claim ≡ Some claim → Has (slice_get kubelets claim.number) (λ (k : KubeletState). claim.life ≤ k.life)
changed_claim kubelets view actor moment (acts.ClaimPod name) pod claim among row before is =
    let same : record { number = row.number; life = row.life } ≡ claim = same_Some _ claim (sym (ap claim_of row.by) ∙ is) in
    subst (λ (c : Claim). Has (slice_get kubelets c.number) (λ (k : KubeletState). c.life ≤ k.life)) same (among row.number row.life row.by)
changed_claim kubelets view actor moment (acts.EndPod name exits outcome) pod claim among row before is = before is
changed_claim kubelets view actor moment _ pod claim among row before is = absurd row

pub unclaimed_new : (act : Act) (pod : PodState) → pod_made act ≡ Some pod → pod.claim ≡ None
unclaimed_new (acts.MakePod name task_run attempt plan mark) pod is = ap (λ (p : PodState). p.claim) (sym (same_Some _ pod is))
unclaimed_new act pod is = cc

pub claims_step : (kubelets : List KubeletState) (e : Entry) (older : List Entry) → IsLegal (e ∷ older) → IsAmong kubelets e.actor → AreClaimsOf kubelets older → AreClaimsOf kubelets (e ∷ older)
claims_step kubelets e older legal among claims name pod claim is =
    state_cases (writes kinds.Pods name) (λ (before : List Entry) d was. pod_written d was) (λ (o : Option PodState). (p : PodState) → o ≡ Some p → p.claim ≡ Some claim → Has (slice_get kubelets claim.number) (λ (k : KubeletState). claim.life ≤ k.life)) e older
    (λ miss p there. claims name p claim there) (λ hit. written (pod_of older name) refl hit) pod is
  where
    written : (was : Option PodState) → pod_of older name ≡ was → writes kinds.Pods name e ≡ true → (p : PodState) → pod_written e was ≡ Some p → p.claim ≡ Some claim → Has (slice_get kubelets claim.number) (λ (k : KubeletState). claim.life ≤ k.life)
    written None there hit p now claimed = let none = unclaimed_new e.act p now in cc (none, claimed)
    written (Some before) there hit p now claimed =
        changed_claim kubelets (view_at e.fronts older) e.actor e.moment e.act before claim among (pod_row_of older e legal.1 name before hit there) (claims name before claim there)
        (ap (λ (x : PodState). x.claim) (same_Some _ p now) ∙ claimed)

-- lists of kubelets

pub set_cases : {X : Type 0} (xs : List X) (i j : ℕ) (y x : X) → slice_get (slice_set xs i y) j ≡ Some x → ((j ≡ i) × (x ≡ y)) ⊎ ((j ≢ i) × (slice_get xs j ≡ Some x))
set_cases [] i j y x is = cc
set_cases (z ∷ xs) zero zero y x is = inl (refl, sym (same_Some y x is))
set_cases (z ∷ xs) zero (suc j) y x is = inr (λ same. omega (arith, same), is)
set_cases (z ∷ xs) (suc i) zero y x is = inr (λ same. omega (arith, same), is)
set_cases (z ∷ xs) (suc i) (suc j) y x is = elim (set_cases xs i j y x is) [
  | inl hit ↦ inl (ap suc hit.0, hit.1)
  | inr miss ↦ inr (λ same. miss.0 (omega (arith, same)), miss.1)
]

pub set_there : {X : Type 0} (P : X → Type 0) (xs : List X) (i j : ℕ) (y : X) → Has (slice_get xs j) P → ((x : X) → slice_get xs i ≡ Some x → P x → P y) → Has (slice_get (slice_set xs i y) j) P
set_there P [] i j y has keeps = let at = has.is in cc (at)
set_there P (z ∷ xs) zero zero y has keeps = record { it = y; is = refl; has = keeps z refl (subst P (sym (same_Some z has.it has.is)) has.has) }
set_there P (z ∷ xs) zero (suc j) y has keeps = record { it = has.it; is = has.is; has = has.has }
set_there P (z ∷ xs) (suc i) zero y has keeps = record { it = has.it; is = has.is; has = has.has }
set_there P (z ∷ xs) (suc i) (suc j) y has keeps = set_there P xs i j y (record { it = has.it; is = has.is; has = has.has }) keeps
