-- Where all entries of a kubelet are of one life, so are all its claims.
use Rattle.std.proofs.Common.{◌≡◌, ℕ, List, [], ◌∷◌, Option, Some, None, true, refl, sym, ◌∙◌, ap, inl, inr}
use Rattle.std.proofs.lemmas.Bool.{cases_Bool, eq-eqb, eqb-true}
use Rattle.std.proofs.lemmas.Option.{same_Some}
use Rattle.std.proofs.lemmas.List.Elements.{All-head, All-tail}
use Rattle.tk_types.specs.declared.scenario.Kind.TheVariants as kinds
use Rattle.tk_edge.specs.InOrder.{Claimed}
use Rattle.tk_journal.specs.declared.act.Act.{Act}
use Rattle.tk_journal.specs.declared.act.Act.TheVariants as acts
use Rattle.tk_journal.specs.declared.entry.Entry.{Entry}
use Rattle.tk_journal.specs.declared.object.Claim.{Claim}
use Rattle.tk_journal.specs.declared.object.PodState.{PodState}
use Rattle.tk_journal.specs.Effects.{claim_of as claim_by, pod_after, pod_made, writes}
use Rattle.tk_journal.specs.History.{View, pod_of, pod_written, view_at}
use Rattle.tk_journal.specs.Legal.{IsLegal}
use Rattle.tk_journal.specs.PodRows.{claims_for}
use Rattle.tk_journal.proofs.Grows.{pod_row_of}
use Rattle.tk_journal.proofs.Past.{state_cases}
use Rattle.tk_journal.proofs.Present.{PodRow}
use Rattle.tk_held.specs.Conditions.{claim_of, claimed_pod}
use Rattle.tk_rounds.specs.Members.{AreOfLife, IsOfLife, by_kubelet}

-- what a kubelet has claimed

pub claim_number : (number : ℕ) (claim : Option Claim) → claims_for number claim ≡ true → (c : Claim) × (claim ≡ Some c) × (c.number ≡ number)
claim_number number None is = cc
claim_number number (Some c) is = (c, refl, eqb-true c.number number is)

pub claimed_for : (number : ℕ) (pod : Option PodState) (claimed : Claimed) → claimed_pod number pod ≡ Some claimed → (state : PodState) × (pod ≡ Some state) × (claims_for number state.claim ≡ true)
claimed_for number None claimed is = cc
claimed_for number (Some state) claimed is = elim (cases_Bool (claims_for number state.claim)) [
  | inl hit ↦ (state, refl, hit)
  | inr miss ↦ (let none = rw miss at is in cc (none))
]

unclaimed_new : (act : Act) (pod : PodState) → pod_made act ≡ Some pod → pod.claim ≡ None
unclaimed_new (acts.MakePod name task_run attempt plan mark) pod is = ap (λ (p : PodState). p.claim) (sym (same_Some _ pod is))
unclaimed_new act pod is = cc

module _ (number life : ℕ) where
  changed : (view : View) (e : Entry) (act : Act) (pod : PodState) (claim : Claim) → IsOfLife number life e → PodRow view e.actor e.moment act pod
      → (pod.claim ≡ Some claim → claim.life ≡ life) → claim.number ≡ number → (pod_after e.actor act pod).claim ≡ Some claim → claim.life ≡ life
  changed view e (acts.ClaimPod name) pod claim own row before mine is =
      let same : record { number = row.number; life = row.life } ≡ claim = same_Some _ claim (sym (ap claim_by row.by) ∙ is) in
      let here : row.number ≡ number = ap (λ (c : Claim). c.number) same ∙ mine in
      let by = own (ap (by_kubelet number) row.by ∙ eq-eqb row.number number here) in
      let now : record { number = number; life = life } ≡ claim = same_Some _ claim (sym (ap claim_by by) ∙ is) in
      ap (λ (c : Claim). c.life) (sym now)
  changed view e (acts.EndPod name exits outcome) pod claim own row before mine is = before is
  changed view e _ pod claim own row before mine is = absurd row

  written : (e : Entry) (older : List Entry) → IsLegal (e ∷ older) → (name : List ℕ) (pod : PodState) (claim : Claim) → IsOfLife number life e → pod.claim ≡ Some claim → claim.number ≡ number
      → ((p : PodState) → pod_of older name ≡ Some p → p.claim ≡ Some claim → claim.life ≡ life)
      → (was : Option PodState) → pod_of older name ≡ was → writes kinds.Pods name e ≡ true → pod_written e was ≡ Some pod → claim.life ≡ life
  written e older legal name pod claim own claimed mine earlier None there hit made = let none = unclaimed_new e.act pod made in cc (none, claimed)
  written e older legal name pod claim own claimed mine earlier (Some before) there hit made =
      changed (view_at e.fronts older) e e.act before claim own (pod_row_of older e legal.1 name before hit there) (earlier before there) mine
      (ap (λ (p : PodState). p.claim) (same_Some _ pod made) ∙ claimed)

  pub of_life : (history : List Entry) → IsLegal history → AreOfLife number life history → (name : List ℕ) (pod : PodState) (claim : Claim) → pod_of history name ≡ Some pod → pod.claim ≡ Some claim → claim.number ≡ number → claim.life ≡ life
  of_life [] legal own name pod claim is claimed mine = cc (is)
  of_life (e ∷ older) legal own name pod claim is claimed mine =
      state_cases (writes kinds.Pods name) (λ (before : List Entry) d was. pod_written d was) (λ (o : Option PodState). o ≡ Some pod → claim.life ≡ life) e older
      (λ miss there. of_life older legal.0 (All-tail (IsOfLife number life) e older own) name pod claim there claimed mine)
      (λ hit made. written e older legal name pod claim (All-head (IsOfLife number life) e older own) claimed mine
      (λ p there has. of_life older legal.0 (All-tail (IsOfLife number life) e older own) name p claim there has mine) (pod_of older name) refl hit made)
      is

  -- so what it has claimed it claimed in this life
  pub own_claim : (history : List Entry) → IsLegal history → AreOfLife number life history → (name : List ℕ) (pod : PodState) → pod_of history name ≡ Some pod → claims_for number pod.claim ≡ true → pod.claim ≡ Some (claim_of number life)
  own_claim history legal own name pod is mine =
      let claim = claim_number number pod.claim mine in
      let lived = of_life history legal own name pod claim.0 is claim.1 claim.2 in
      claim.1 ∙ ap Some (same claim.0 claim.2 lived)
    where
      same : (c : Claim) → c.number ≡ number → c.life ≡ life → c ≡ claim_of number life
      same c one two = rw (one, two) refl
