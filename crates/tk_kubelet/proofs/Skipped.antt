-- Pods that aren't marked needn't be looked at.
use Rattle.std.proofs.Common.{◌≡◌, ◌≤◌, ◌<◌, ℕ, zero, suc, ◌+◌, List, [], ◌∷◌, length, drop, Option, Some, None, Bool, true, false, refl, sym, ap, ◌∙◌, slice_get, inl, inr, arith}
use Rattle.std.specs.Prelude.{◌&&◌, find, filter, is_some, nat_eq}
use Rattle.std.proofs.lemmas.Bool.{cases_Bool}
use Rattle.std.proofs.lemmas.Option.{slice_get_within}
use Rattle.tk_journal.specs.declared.object.Claim.{Claim}
use Rattle.tk_journal.specs.declared.object.EndedPod.{EndedPod}
use Rattle.tk_journal.specs.declared.object.PodState.{PodState}
use Rattle.tk_journal.specs.PodRows.{claims_for, is_held_by, is_unended}
use Rattle.tk_places.specs.Places.{AreMarked, has}
use Rattle.tk_pod_cache.specs.Marks.{is_held}
use Rattle.tk_kubelet.specs.Choice.{IsNextBelow, ends_claim, ends_state}
use Rattle.tk_kubelet.proofs.Found.{count_past, find_past}

-- what isn't held is neither ended nor counted

pub idle_ends : (number life : ℕ) (ends : Bool) (state : Option PodState) → is_held state ≡ false → ends_state number life ends state ≡ false
idle_ends number life ends None idle = refl
idle_ends number life ends (Some state) idle = by state.claim state.ended idle
  where
    by : (claim : Option Claim) (ended : Option EndedPod) → (is_some claim && is_unended ended) ≡ false → (is_unended ended && ends_claim number life ends claim) ≡ false
    by None None is = refl
    by None (Some e) is = refl
    by (Some c) None is = absurd (cc (is))
    by (Some c) (Some e) is = refl

pub idle_held_by : (number : ℕ) (state : Option PodState) → is_held state ≡ false → is_held_by number state ≡ false
idle_held_by number None idle = refl
idle_held_by number (Some state) idle = by state.claim state.ended idle
  where
    and_false : (b : Bool) → (b && false) ≡ false
    and_false true = refl
    and_false false = refl

    by : (claim : Option Claim) (ended : Option EndedPod) → (is_some claim && is_unended ended) ≡ false → (claims_for number claim && is_unended ended) ≡ false
    by None None is = refl
    by None (Some e) is = refl
    by (Some c) None is = absurd (cc (is))
    by (Some c) (Some e) is = and_false (nat_eq c.number number)

-- what passes over an element that fails a test passes over all that fail it
module _ {X R : Type 0} (p : X → Bool) (f : List X → R) (over : (x : X) (xs : List X) → p x ≡ false → f (x ∷ xs) ≡ f xs) where
  skipped : (xs : List X) (i j : ℕ) → i ≤ j → ((k : ℕ) (x : X) → i ≤ k → k < j → slice_get xs k ≡ Some x → p x ≡ false) → f (drop i xs) ≡ f (drop j xs)
  skipped [] zero zero order fails = refl
  skipped [] zero (suc j) order fails = refl
  skipped [] (suc i) zero order fails = absurd (omega (arith, order))
  skipped [] (suc i) (suc j) order fails = refl
  skipped (y ∷ ys) zero zero order fails = refl
  skipped (y ∷ ys) zero (suc j) order fails =
      over y ys (fails 0 y (omega arith) (omega arith) refl)
      ∙ skipped ys zero j (omega arith) (λ k x from below at. fails (suc k) x (omega arith) (omega (arith, below)) at)
  skipped (y ∷ ys) (suc i) zero order fails = absurd (omega (arith, order))
  skipped (y ∷ ys) (suc i) (suc j) order fails = skipped ys i j (omega (arith, order)) (λ k x from below at. fails (suc k) x (omega (arith, from)) (omega (arith, below)) at)

-- what is marked where it passes one test, and fails another where it fails that one
module _ {R : Type 0} (test p : List ℕ → Bool) (f : List (List ℕ) → R) (over : (name : List ℕ) (names : List (List ℕ)) → p name ≡ false → f (name ∷ names) ≡ f names)
    (names : List (List ℕ)) (places : List ℕ) (marked : AreMarked test names places) (idle : (name : List ℕ) → test name ≡ false → p name ≡ false) (from : ℕ) where
  lacking_fails : (place : ℕ) (name : List ℕ) → slice_get names place ≡ Some name → has places place ≡ false → p name ≡ false
  lacking_fails place name at lacking = elim (cases_Bool (test name)) [
    | inl passes ↦
        let there : has places place ≡ true = marked place name at passes in
        absurd (cc (lacking, there))
    | inr fails ↦ idle name fails
  ]

  -- up to the next place
  to_next : (end place : ℕ) → IsNextBelow end from places (Some place) → f (drop from names) ≡ f (drop place names)
  to_next end place next = skipped p f over names from place next.1.0 (λ k name within below at. lacking_fails k name at (next.1.2 k within below))

  -- up to the end
  to_end : (end : ℕ) → end ≡ length names → IsNextBelow end from places None → f (drop from names) ≡ f (drop (from + length names) names)
  to_end end whole none = skipped p f over names from (from + length names) (omega arith) (λ k name within below at. lacking_fails k name at (none k within (inside k name at)))
    where
      inside : (k : ℕ) (name : List ℕ) → slice_get names k ≡ Some name → k < end
      inside k name at = omega (arith, whole, slice_get_within names k name at)

find_over : (p : List ℕ → Bool) (name : List ℕ) (names : List (List ℕ)) → p name ≡ false → find p (name ∷ names) ≡ find p names
find_over p name names fails = rw fails refl

count_over : (p : List ℕ → Bool) (name : List ℕ) (names : List (List ℕ)) → p name ≡ false → length (filter p (name ∷ names)) ≡ length (filter p names)
count_over p name names fails = rw fails refl

-- what is found, and how many are counted, from a place on
module _ (test p : List ℕ → Bool) (names : List (List ℕ)) (places : List ℕ) (marked : AreMarked test names places) (idle : (name : List ℕ) → test name ≡ false → p name ≡ false) (from : ℕ) where
  pub find_next : (end place : ℕ) → IsNextBelow end from places (Some place) → find p (drop from names) ≡ find p (drop place names)
  find_next end place next = to_next test p (find p) (find_over p) names places marked idle from end place next

  pub find_end : (end : ℕ) → end ≡ length names → IsNextBelow end from places None → find p (drop from names) ≡ None
  find_end end whole none = to_end test p (find p) (find_over p) names places marked idle from end whole none ∙ find_past p names (from + length names) (omega arith)

  pub count_next : (end place : ℕ) → IsNextBelow end from places (Some place) → length (filter p (drop from names)) ≡ length (filter p (drop place names))
  count_next end place next = to_next test p (λ (ns : List (List ℕ)). length (filter p ns)) (count_over p) names places marked idle from end place next

  pub count_end : (end : ℕ) → end ≡ length names → IsNextBelow end from places None → length (filter p (drop from names)) ≡ 0
  count_end end whole none = to_end test p (λ (ns : List (List ℕ)). length (filter p ns)) (count_over p) names places marked idle from end whole none ∙ count_past p names (from + length names) (omega arith)
