-- Held pods for which a call failed, counted in one list and in another.
use Rattle.std.proofs.Common.{◌≡◌, ◌≢◌, ◌≤◌, ◌+◌, ℕ, zero, suc, List, [], ◌∷◌, Some, true, refl, sym, ◌∙◌, ap, arith, inl, inr}
use Rattle.std.specs.Prelude.{slice_get}
use Rattle.std.proofs.lemmas.Bool.{cases_Bool}
use Rattle.std.proofs.lemmas.Option.{same_Some}
use Rattle.tk_steps.specs.declared.held.HeldPod.{HeldPod}
use Rattle.tk_held.specs.Pods.{AreApart, count_failed, one_if}

-- a list without what stands at a place

abbrev without : {X : Type 0} → ℕ → List X → List X
without place [] = []
without zero (x ∷ xs) = xs
without (suc place) (x ∷ xs) = x ∷ without place xs

record Found {X : Type 0} (xs : List X) (x : X) : Type 0 where
  place : ℕ
  at : slice_get xs place ≡ Some x

found_without : {X : Type 0} (xs : List X) (i j : ℕ) (x : X) → j ≢ i → slice_get xs j ≡ Some x → Found (without i xs) x
found_without [] i j x differ at = record { place = j; at = at }
found_without (y ∷ ys) zero zero x differ at = absurd (differ refl)
found_without (y ∷ ys) zero (suc j) x differ at = record { place = j; at = at }
found_without (y ∷ ys) (suc i) zero x differ at = record { place = zero; at = at }
found_without (y ∷ ys) (suc i) (suc j) x differ at =
    let rest = found_without ys i j x (λ same. differ (ap suc same)) at in
    record { place = suc rest.place; at = rest.at }

count_without : (pods : List HeldPod) (i : ℕ) (pod : HeldPod) → slice_get pods i ≡ Some pod → count_failed pods ≡ one_if pod.failed + count_failed (without i pods)
count_without [] i pod at = cc (at)
count_without (q ∷ qs) zero pod at = ap (λ (p : HeldPod). one_if p.failed + count_failed qs) (same_Some q pod at)
count_without (q ∷ qs) (suc i) pod at = let rest = count_without qs i pod at in omega (arith, rest)

-- each pod of the first list for which a call failed stands in the second one

abbrev FailedAmong : List HeldPod → List HeldPod → Type 0
FailedAmong pods others = (place : ℕ) (pod : HeldPod) → slice_get pods place ≡ Some pod → pod.failed ≡ true → Found others pod

apart_tail : (pod : HeldPod) (pods : List HeldPod) → AreApart (pod ∷ pods) → AreApart pods
apart_tail pod pods apart i j a b at_a at_b same = let more = apart (suc i) (suc j) a b at_a at_b same in omega (arith, more)

count_among : (pods others : List HeldPod) → AreApart pods → FailedAmong pods others → count_failed pods ≤ count_failed others
count_among [] others apart among = omega arith
count_among (pod ∷ pods) others apart among = elim (cases_Bool pod.failed) [
  | inl hit ↦ (
      let here = among zero pod refl hit in
      let rest = count_among pods (without here.place others) (apart_tail pod pods apart)
      (λ place q at failed.
      let there = among (suc place) q at failed in
      found_without others here.place there.place q
      (λ same.
      let one : q ≡ pod = same_Some q pod (sym there.at ∙ (ap (slice_get others) same ∙ here.at)) in
      let bad = apart (suc place) zero q pod at refl (ap (λ (p : HeldPod). p.name) one) in
      omega (arith, bad))
      there.at) in
      let all = count_without others here.place pod here.at in
      omega (arith, rest, all))
  | inr miss ↦ (
      let rest = count_among pods others (apart_tail pod pods apart) (λ place q at failed. among (suc place) q at failed) in
      let none : one_if pod.failed ≡ 0 = ap one_if miss in
      omega (arith, rest, none))
]

-- where one of the second list is none of the first
pub count_but : (pods others : List HeldPod) (place : ℕ) (gone : HeldPod) → AreApart pods → ((i : ℕ) (pod : HeldPod) → slice_get pods i ≡ Some pod → pod.failed ≡ true → (j : ℕ) × (slice_get others j ≡ Some pod)) → slice_get others place ≡ Some gone → ((i : ℕ) (pod : HeldPod) → slice_get pods i ≡ Some pod → pod.name ≢ gone.name) → one_if gone.failed + count_failed pods ≤ count_failed others
count_but pods others place gone apart among at none =
    let rest = count_among pods (without place others) apart
    (λ i pod at_i failed.
    let there = among i pod at_i failed in
    found_without others place there.0 pod
    (λ same. none i pod at_i (ap (λ (p : HeldPod). p.name) (same_Some pod gone (sym there.1 ∙ (ap (slice_get others) same ∙ at)))))
    there.1) in
    let all = count_without others place gone at in
    omega (arith, rest, all)

pub count_in : (pods others : List HeldPod) → AreApart pods → ((i : ℕ) (pod : HeldPod) → slice_get pods i ≡ Some pod → pod.failed ≡ true → (j : ℕ) × (slice_get others j ≡ Some pod)) → count_failed pods ≤ count_failed others
count_in pods others apart among = count_among pods others apart (λ i pod at failed. let there = among i pod at failed in record { place = there.0; at = there.1 })
