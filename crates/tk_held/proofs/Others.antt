-- The entries of all others leave what a kubelet has in the journal.
use Rattle.std.proofs.Common.{◌≡◌, ℕ, List, ◌∷◌, Option, Some, None, true, false, refl, sym, ◌∙◌, ap, subst, inl, inr}
use Rattle.std.specs.Prelude.{◌⊎◌, nat_eq}
use Rattle.std.proofs.lemmas.Bool.{false_from_ne_true, eqb-true}
use Rattle.tk_types.specs.declared.scenario.Kind.TheVariants as kinds
use Rattle.tk_edge.specs.InOrder.{Pods, IsKept}
use Rattle.tk_journal.specs.declared.act.Act.{Act}
use Rattle.tk_journal.specs.declared.act.Act.TheVariants as acts
use Rattle.tk_journal.specs.declared.entry.Actor.TheVariants as actors
use Rattle.tk_journal.specs.declared.entry.Entry.{Entry}
use Rattle.tk_journal.specs.declared.object.Claim.{Claim}
use Rattle.tk_journal.specs.declared.object.PodState.{PodState}
use Rattle.tk_journal.specs.Effects.{writes, pod_made, pod_after, claim_of as claim_by}
use Rattle.tk_journal.specs.History.{View, pod_of, pod_written, view_at}
use Rattle.tk_journal.specs.Legal.{IsLegal}
use Rattle.tk_journal.specs.PodRows.{claims_for}
use Rattle.tk_journal.proofs.Grows.{pod_row_of}
use Rattle.tk_journal.proofs.Past.{state_cases}
use Rattle.tk_journal.proofs.Present.{PodRow}
use Rattle.tk_steps.specs.Paths.{layout_of}
use Rattle.tk_held.specs.Conditions.{claim_of, claimed_with, claimed_pod, pods_of, AreArmedSettled}
use Rattle.tk_held.specs.Laws.{IsOfOther, OthersKeep}
use Rattle.tk_held.proofs.Again.{claims_own}

-- a pod that is claimed by another number isn't this kubelet's

unclaimed : (number : ℕ) (pod : PodState) → claims_for number pod.claim ≡ false → claimed_pod number (Some pod) ≡ None
unclaimed number pod miss = rw miss refl

no_claim : (number : ℕ) (claim : Option Claim) → claim ≡ None → claims_for number claim ≡ false
no_claim number None is = refl
no_claim number (Some claim) is = cc

other_claim : (number : ℕ) (theirs : Claim) (claim : Option Claim) → claim ≡ Some theirs → nat_eq theirs.number number ≡ false → claims_for number claim ≡ false
other_claim number theirs claim is miss = ap (claims_for number) is ∙ miss

made_free : (number : ℕ) (act : Act) → claimed_pod number (pod_made act) ≡ None
made_free number (acts.MakePod name task_run attempt plan mark) = refl
made_free number _ = refl

module _ (number : ℕ) (older : List Entry) (e : Entry) (legal : IsLegal (e ∷ older)) (other : IsOfOther number e) where
  abbrev now : List Entry
  now = e ∷ older

  -- a kubelet that acts has another number
  differs : (theirs life : ℕ) → e.actor ≡ actors.Kubelet theirs life → nat_eq theirs number ≡ false
  differs theirs life by = false_from_ne_true (nat_eq theirs number) (λ hit. other life (by ∙ ap (λ (n : ℕ). actors.Kubelet n life) (eqb-true theirs number hit)))

  -- the pod is as it was, or this kubelet had and has no claim on it
  abbrev Stays : Option PodState → Option PodState → Type 0
  Stays was is = (is ≡ was) ⊎ ((claimed_pod number was ≡ None) × (claimed_pod number is ≡ None))

  changed : (view : View) (act : Act) (pod : PodState) → PodRow view e.actor e.moment act pod → Stays (Some pod) (Some (pod_after e.actor act pod))
  changed view (acts.ClaimPod name) pod row =
      let claim : claim_by e.actor ≡ Some (claim_of row.number row.life) = ap claim_by row.by in
      inr (
        unclaimed number pod (no_claim number pod.claim row.unclaimed),
        unclaimed number (pod_after e.actor (acts.ClaimPod name) pod) (other_claim number (claim_of row.number row.life) (claim_by e.actor) claim (differs row.number row.life row.by)),
      )
  changed view (acts.EndPod name exits outcome) pod row =
      let miss : claims_for number pod.claim ≡ false = other_claim number (claim_of row.number row.claimed_in) pod.claim row.claimed (differs row.number row.life row.by) in
      inr (unclaimed number pod miss, unclaimed number (pod_after e.actor (acts.EndPod name exits outcome) pod) miss)
  changed view _ pod row = absurd row

  stays : (name : List ℕ) → Stays (pod_of older name) (pod_of now name)
  stays name =
      state_cases (writes kinds.Pods name) (λ (before : List Entry) d was. pod_written d was) (Stays (pod_of older name)) e older (λ miss. inl refl)
      (λ hit. written (pod_of older name) refl hit)
    where
      written : (was : Option PodState) → pod_of older name ≡ was → writes kinds.Pods name e ≡ true → Stays was (pod_written e was)
      written None there hit = inr (refl, made_free number e.act)
      written (Some pod) there hit = changed (view_at e.fronts older) e.act pod (pod_row_of older e legal.1 name pod hit there)

  same_claimed : (name : List ℕ) → pods_of number now name ≡ pods_of number older name
  same_claimed name = elim (stays name) [
    | inl same ↦ ap (claimed_pod number) same
    | inr free ↦ free.1 ∙ sym free.0
  ]

  pub same_pods : pods_of number now ≡ pods_of number older
  same_pods = λ i name. same_claimed name i

  not_free : (state : PodState) → claims_for number state.claim ≡ true → claimed_pod number (Some state) ≡ None → ⊥
  not_free state mine none =
      let some : claimed_pod number (Some state) ≡ Some (claimed_with state) = rw mine refl in
      let bad : Some (claimed_with state) ≡ None = sym some ∙ none in
      cc (bad)

  -- a pod of this kubelet's is as it was
  pub was_mine : (name : List ℕ) (state : PodState) → pod_of now name ≡ Some state → claims_for number state.claim ≡ true → pod_of older name ≡ Some state
  was_mine name state is mine = elim (stays name) [
    | inl same ↦ sym same ∙ is
    | inr free ↦ absurd (not_free state mine (sym (ap (claimed_pod number) is) ∙ free.1))
  ]

  pub is_mine : (name : List ℕ) (state : PodState) → pod_of older name ≡ Some state → claims_for number state.claim ≡ true → pod_of now name ≡ Some state
  is_mine name state is mine = elim (stays name) [
    | inl same ↦ same ∙ is
    | inr free ↦ absurd (not_free state mine (sym (ap (claimed_pod number) is) ∙ free.0))
  ]

pub others_keep : OthersKeep
others_keep number life root held history killed told e legal other met = record {
  claimed = record {
    mine = λ place pod at.
        let mine = met.claimed.mine place pod at in
        record { it = mine.it; is = is_mine number history e legal other pod.name mine.it mine.is (claims_own number life mine.it.claim mine.has.claimed); has = mine.has };
    all = λ name state is mine unended. met.claimed.all name state (was_mine number history e legal other name state is (claims_own number life state.claim mine)) mine unended;
    apart = met.claimed.apart;
    none_lost = λ name state ended is mine is_ended. met.claimed.none_lost name state ended (was_mine number history e legal other name state is (claims_own number life state.claim mine)) mine is_ended;
  };
  keeps = met.keeps;
  ready = λ have. met.ready have.1;
  kept = subst (λ (pods : Pods). IsKept (layout_of root) killed pods told) (sym (same_pods number history e legal other)) met.kept;
  settled = subst (λ (pods : Pods). AreArmedSettled killed pods told) (sym (same_pods number history e legal other)) met.settled;
}
