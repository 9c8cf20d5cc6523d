-- The pod that a kubelet ends first.
use Rattle.std.proofs.Common.{◌≡◌, ℕ, zero, suc, ◌<◌, List, [], ◌∷◌, length, Option, Some, None, Bool, true, false, refl, sym, ◌∙◌, ap, subst, inl, inr, nat_eq, slice_get, set}
use Rattle.std.specs.Prelude.{bytes_eq, ◌&&◌, ◌||◌, nat_lt, find}
use Rattle.std.proofs.lemmas.Bool.{cases_Bool, eqb-true, ltb-true, eq-eqb, lt-ltb}
use Rattle.std.proofs.lemmas.Option.{same_Some}
use Rattle.std.proofs.lemmas.Slice.Eq.{bytes_eq-Decides}
use Rattle.tk_journal.specs.declared.object.Claim.{Claim}
use Rattle.tk_journal.specs.declared.object.EndedPod.{EndedPod}
use Rattle.tk_journal.specs.declared.object.PodState.{PodState}
use Rattle.tk_journal.specs.History.{View}
use Rattle.tk_journal.specs.PodRows.{is_unended}
use Rattle.tk_steps.specs.declared.held.HeldPod.{HeldPod}
use Rattle.tk_kubelet.specs.Choice.{claimed_before, ends_claim, ends_held, ends_of_held, ends_pod, ends_state, first_end, held_named, is_before}
use Rattle.tk_kubelet.specs.Ends.{IsLost}
use Rattle.tk_kubelet.proofs.Found.{find_true, find_same}
use Rattle.tk_kubelet.proofs.Rows.{and_left, and_right}

no_end : (ended : Option EndedPod) → is_unended ended ≡ true → ended ≡ None
no_end None is = refl
no_end (Some ended) is = cc (is)

-- claimed in an earlier life

lost_claim : (number life : ℕ) (ends : Bool) (claim : Option Claim) → ends_claim number life ends claim ≡ true → is_before life claim ≡ true → (l : ℕ) × (claim ≡ Some record { number = number; life = l }) × (l < life)
lost_claim number life ends None is before = cc (before)
lost_claim number life ends (Some claim) is before =
    let same : claim.number ≡ number = eqb-true claim.number number (and_left (nat_eq claim.number number) (nat_lt claim.life life || (nat_eq claim.life life && ends)) is) in
    (claim.life, ap (λ (n : ℕ). Some record { number = n; life = claim.life }) same, ltb-true claim.life life before)

-- claimed in this life, and to be ended
own_claim : (number life : ℕ) (ends : Bool) (claim : Option Claim) → ends_claim number life ends claim ≡ true → is_before life claim ≡ false → (claim ≡ Some record { number = number; life = life }) × (ends ≡ true)
own_claim number life ends None is later = cc (is)
own_claim number life ends (Some claim) is later =
    let same : claim.number ≡ number = eqb-true claim.number number (and_left (nat_eq claim.number number) (nat_lt claim.life life || (nat_eq claim.life life && ends)) is) in
    let rest : (nat_lt claim.life life || (nat_eq claim.life life && ends)) ≡ true = and_right (nat_eq claim.number number) (nat_lt claim.life life || (nat_eq claim.life life && ends)) is in
    let live : (nat_eq claim.life life && ends) ≡ true = rw later at rest in
    let lives : claim.life ≡ life = eqb-true claim.life life (and_left (nat_eq claim.life life) ends live) in
    let whole : Some claim ≡ Some record { number = number; life = life } = ap (λ (n : ℕ). Some record { number = n; life = claim.life }) same ∙ ap (λ (l : ℕ). Some record { number = number; life = l }) lives in
    (whole, and_right (nat_eq claim.life life) ends live)

-- the pod is seen as claimed in this life, and unended
pub record SeesOwn (number life : ℕ) (view : View) (name : List ℕ) (ends : Bool) : Type 0 where
  pub state : PodState
  pub is_seen : view.pod name ≡ Some state
  pub claimed : state.claim ≡ Some record { number = number; life = life }
  pub unended : state.ended ≡ None
  pub is_over : ends ≡ true

module _ (number life moment : ℕ) (view : View) (held : List HeldPod) (name : List ℕ) (first : first_end number life view moment held ≡ Some name) where
  abbrev ends : Bool
  ends = ends_of_held view moment (held_named held name)

  tested : ends_state number life ends (view.pod name) ≡ true
  tested = find_true (ends_pod number life view moment held) view.pods name first

  pub sees_lost : claimed_before life (view.pod name) ≡ true → IsLost record { number = number; life = life } view name
  sees_lost before = go (view.pod name) refl tested before
    where
      go : (o : Option PodState) → view.pod name ≡ o → ends_state number life ends o ≡ true → claimed_before life o ≡ true → IsLost record { number = number; life = life } view name
      go None at is before = cc (before)
      go (Some state) at is before =
          let lost = lost_claim number life ends state.claim (and_right (is_unended state.ended) (ends_claim number life ends state.claim) is) before in
          record {
            state = state;
            is_seen = at;
            life = lost.0;
            claimed = lost.1;
            earlier = lost.2;
            unended = no_end state.ended (and_left (is_unended state.ended) (ends_claim number life ends state.claim) is);
          }

  pub sees_own : claimed_before life (view.pod name) ≡ false → SeesOwn number life view name ends
  sees_own before = go (view.pod name) refl tested before
    where
      go : (o : Option PodState) → view.pod name ≡ o → ends_state number life ends o ≡ true → claimed_before life o ≡ false → SeesOwn number life view name ends
      go None at is before = cc (is)
      go (Some state) at is before =
          let own = own_claim number life ends state.claim (and_right (is_unended state.ended) (ends_claim number life ends state.claim) is) before in
          record {
            state = state;
            is_seen = at;
            claimed = own.0;
            unended = no_end state.ended (and_left (is_unended state.ended) (ends_claim number life ends state.claim) is);
            is_over = own.1;
          }

  -- one of this life is held, and over
  pub not_absent : claimed_before life (view.pod name) ≡ false → held_named held name ≡ None → ⊥
  not_absent before none =
      let over = (sees_own before).is_over in
      let bad : false ≡ true = ap (ends_of_held view moment) (sym none) ∙ over in
      cc (bad)

  pub ends_this : claimed_before life (view.pod name) ≡ false → (pod : HeldPod) → held_named held name ≡ Some pod → ends_held view moment pod ≡ true
  ends_this before pod found = ap (ends_of_held view moment) (sym found) ∙ (sees_own before).is_over

pub has_name : (held : List HeldPod) (name : List ℕ) (pod : HeldPod) → held_named held name ≡ Some pod → pod.name ≡ name
has_name held name pod found = (bytes_eq-Decides pod.name name).0 (find_true (λ (p : HeldPod). bytes_eq p.name name) held pod found)

-- a pod that ends before and behind a change of it changes no choice

module _ (view : View) (moment : ℕ) (pod now : HeldPod) (same_name : now.name ≡ pod.name) (same_end : ends_held view moment now ≡ ends_held view moment pod) where
  ends_set : (held : List HeldPod) (place : ℕ) (name : List ℕ) → slice_get held place ≡ Some pod → ends_of_held view moment (held_named (set held place now) name) ≡ ends_of_held view moment (held_named held name)
  ends_set [] place name at = cc
  ends_set (x ∷ xs) zero name at = elim (cases_Bool (bytes_eq x.name name)) [
    | inl hit ↦
        let here : bytes_eq now.name name ≡ true = ap (λ (n : List ℕ). bytes_eq n name) named ∙ hit in
        rw (hit, here) (same_end ∙ ap (ends_held view moment) (sym is))
    | inr miss ↦
        let here : bytes_eq now.name name ≡ false = ap (λ (n : List ℕ). bytes_eq n name) named ∙ miss in
        rw (miss, here) refl
  ]
    where
      is : x ≡ pod
      is = same_Some x pod at

      named : now.name ≡ x.name
      named = same_name ∙ ap (λ (p : HeldPod). p.name) (sym is)
  ends_set (x ∷ xs) (suc place) name at = elim (cases_Bool (bytes_eq x.name name)) [
    | inl hit ↦ rw hit refl
    | inr miss ↦ rw miss (ends_set xs place name at)
  ]

  pub first_stays : (number life : ℕ) (held : List HeldPod) (place : ℕ) → slice_get held place ≡ Some pod → first_end number life view moment (set held place now) ≡ first_end number life view moment held
  first_stays number life held place at = find_same (ends_pod number life view moment (set held place now)) (ends_pod number life view moment held) view.pods
      (λ name. ap (λ (b : Bool). ends_state number life b (view.pod name)) (ends_set held place name at))

-- the pod at the place that was found has the name
pub found_pod : (held slot : List HeldPod) (name : List ℕ) (place : ℕ) (pod : HeldPod) → slot ≡ held → held_named slot name ≡ slice_get slot place → slice_get held place ≡ Some pod → held_named held name ≡ Some pod
found_pod held slot name place pod same first at = subst (λ (ps : List HeldPod). held_named ps name ≡ slice_get ps place) same first ∙ at
