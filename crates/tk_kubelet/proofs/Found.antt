-- The first of a list that is found, and how many pass a test, place by place.
use Rattle.std.proofs.Common.{◌≡◌, ℕ, zero, suc, ◌<◌, ◌≤◌, ◌+◌, List, [], ◌∷◌, Contains, length, drop, get_or, Option, Some, None, Ok, Err, Bool, true, false, refl, sym, ◌∙◌, ap, slice_get, arith, inl, inr}
use Rattle.std.specs.Prelude.{find, filter, IfSome, bytes_eq, Result, OnErr}
use Rattle.std.proofs.lemmas.Bool.{cases_Bool}
use Rattle.std.proofs.lemmas.Option.{same_Some, slice_get_read}
use Rattle.std.proofs.lemmas.List.Folds.{find_at}
use Rattle.std.specs.List.{position_or_len}
use Rattle.tk_steps.specs.declared.held.HeldPod.{HeldPod}
use Rattle.tk_kubelet.specs.Choice.{AreReadable, IsReadable, held_named}

pub named_readable : (held : List HeldPod) (name : List ℕ) → AreReadable held → IfSome (held_named held name) IsReadable
named_readable held name readable = go (held_named held name) (sym (find_at (λ (pod : HeldPod). bytes_eq pod.name name) held))
  where
    go : (found : Option HeldPod) → slice_get held (position_or_len (λ (pod : HeldPod). bytes_eq pod.name name) held) ≡ found → IfSome found IsReadable
    go None is = tt
    go (Some pod) is = readable (position_or_len (λ (pod : HeldPod). bytes_eq pod.name name) held) pod is

module _ {X : Type 0} (p : X → Bool) where
  pub find_true : (xs : List X) (x : X) → find p xs ≡ Some x → p x ≡ true
  find_true [] x is = cc (is)
  find_true (y ∷ ys) x is = elim (cases_Bool (p y)) [
    | inl hit ↦
        let now : Some y ≡ Some x = rw hit at is in
        ap p (sym (same_Some y x now)) ∙ hit
    | inr miss ↦ find_true ys x (rw miss at is)
  ]

  -- an element that passes the test at a place is the first one from there on
  pub find_here : (xs : List X) (i : ℕ) (x : X) → slice_get xs i ≡ Some x → p x ≡ true → find p (drop i xs) ≡ Some x
  find_here [] i x at hit = cc (at)
  find_here (y ∷ ys) zero x at hit =
      let here : p y ≡ true = ap p (same_Some y x at) ∙ hit in
      rw here at
  find_here (y ∷ ys) (suc i) x at hit = find_here ys i x at hit

  pub find_later : (xs : List X) (i : ℕ) (x : X) → slice_get xs i ≡ Some x → p x ≡ false → find p (drop i xs) ≡ find p (drop (i + 1) xs)
  find_later [] i x at miss = cc (at)
  find_later (y ∷ ys) zero x at miss =
      let here : p y ≡ false = ap p (same_Some y x at) ∙ miss in
      rw here refl
  find_later (y ∷ ys) (suc i) x at miss = let e : suc i + 1 ≡ suc (i + 1) = omega arith in rw e (find_later ys i x at miss)

  pub find_past : (xs : List X) (i : ℕ) → length xs ≤ i → find p (drop i xs) ≡ None
  find_past [] zero past = refl
  find_past [] (suc i) past = refl
  find_past (y ∷ ys) zero past = absurd (omega (arith, past))
  find_past (y ∷ ys) (suc i) past = find_past ys i (omega (arith, past))

  -- how many pass it from a place on
  pub count_here : (xs : List X) (i : ℕ) (x : X) → slice_get xs i ≡ Some x → p x ≡ true → length (filter p (drop i xs)) ≡ length (filter p (drop (i + 1) xs)) + 1
  count_here [] i x at hit = cc (at)
  count_here (y ∷ ys) zero x at hit =
      let here : p y ≡ true = ap p (same_Some y x at) ∙ hit in
      rw here (omega arith)
  count_here (y ∷ ys) (suc i) x at hit = let e : suc i + 1 ≡ suc (i + 1) = omega arith in rw e (count_here ys i x at hit)

  pub count_later : (xs : List X) (i : ℕ) (x : X) → slice_get xs i ≡ Some x → p x ≡ false → length (filter p (drop i xs)) ≡ length (filter p (drop (i + 1) xs))
  count_later [] i x at miss = cc (at)
  count_later (y ∷ ys) zero x at miss =
      let here : p y ≡ false = ap p (same_Some y x at) ∙ miss in
      rw here refl
  count_later (y ∷ ys) (suc i) x at miss = let e : suc i + 1 ≡ suc (i + 1) = omega arith in rw e (count_later ys i x at miss)

  pub count_past : (xs : List X) (i : ℕ) → length xs ≤ i → length (filter p (drop i xs)) ≡ 0
  count_past [] zero past = refl
  count_past [] (suc i) past = refl
  count_past (y ∷ ys) zero past = absurd (omega (arith, past))
  count_past (y ∷ ys) (suc i) past = count_past ys i (omega (arith, past))

-- tests that agree find the same
pub find_same : {X : Type 0} (p q : X → Bool) (xs : List X) → ((x : X) → p x ≡ q x) → find p xs ≡ find q xs
find_same p q [] same = refl
find_same p q (y ∷ ys) same = elim (cases_Bool (p y)) [
  | inl hit ↦ let other : q y ≡ true = sym (same y) ∙ hit in rw (hit, other) refl
  | inr miss ↦ let other : q y ≡ false = sym (same y) ∙ miss in rw (miss, other) (find_same p q ys same)
]

-- where nothing is found, none passes the test
pub find_none : {X : Type 0} (p : X → Bool) (xs : List X) (x : X) → find p xs ≡ None → Contains xs x → p x ≡ false
find_none p [] x none (k, below, is) = absurd (omega (arith, below))
find_none p (y ∷ ys) x none (zero, below, is) = elim (cases_Bool (p y)) [
  | inl hit ↦ (let bad : Some y ≡ None = rw hit at none in cc (bad))
  | inr miss ↦ ap p (sym is) ∙ miss
]
find_none p (y ∷ ys) x none (suc k, below, is) = elim (cases_Bool (p y)) [
  | inl hit ↦ (let bad : Some y ≡ None = rw hit at none in cc (bad))
  | inr miss ↦ find_none p ys x (rw miss at none) (k, omega arith, is)
]

-- the element that is read at a place and passes the test is the first, where none before it did
pub find_at_place : {X : Type 0} (p : X → Bool) (xs : List X) (place : ℕ) (x : X) → place < length xs → x ≡ get_or xs place x → p x ≡ true → find p (drop place xs) ≡ find p xs → find p xs ≡ slice_get xs place
find_at_place p xs place x within here hit rest =
    let at : slice_get xs place ≡ Some x = slice_get_read xs (length xs) place x refl within here in
    sym rest ∙ (find_here p xs place x at hit ∙ sym at)

-- what holds holds at an error
pub on_err : {T E : Type 0} (P : Type 0) (result : Result T E) → P → OnErr result P
on_err P (Ok x) p = tt
on_err P (Err e) p = p
