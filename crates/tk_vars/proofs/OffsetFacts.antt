-- The bad offset that is computed is the bad offset.
use Rattle.std.proofs.Common.{◌≡◌, ℕ, zero, suc, ◌+◌, ◌<◌, ◌≤◌, List, length, drop, refl, sym, ◌∙◌, ap, Bool, true, false, ◌&&◌, not, Some, None, inl, inr, arith}
use Rattle.std.specs.Prelude.{find}
use Rattle.std.specs.List.{range_with_len}
use Rattle.std.proofs.lemmas.Bool.{cases_lt}
use Rattle.std.proofs.lemmas.List.{drop_all}
use Rattle.tk_vars.specs.declared.reference.Reference.{Reference}
use Rattle.tk_vars.specs.Grammar.{must_stand}
use Rattle.tk_vars.specs.Offset.{bad_offset, stands_at}
use Rattle.tk_vars.specs.Reading.{StandsAt, IsBadOffset, HasReading, reference_at, pieces_of}
use Rattle.tk_vars.proofs.BadOffset.{is_standing, from_test, to_test, stands_is, stands_where_due}
use Rattle.tk_vars.proofs.TailFacts.{never, and_both}

no_true : false ≡ true → ⊥
no_true e = cc

-- the first number of a range that passes a test

find_first : (p : ℕ → Bool) (n a o : ℕ) → a ≤ o → o < a + n → p o ≡ true → ((i : ℕ) → a ≤ i → i < o → p i ≡ false) → find p (range_with_len a n) ≡ Some o
find_first p zero a o low high passes before = absurd (omega arith)
find_first p (suc n) a o low high passes before =
    elim (cases_lt a o) [
      | inl below ↦ rw (before a (omega arith) below) (find_first p n (a + 1) o (omega arith) (omega arith) passes (λ i above. before i (omega arith)))
      | inr at ↦ let same : o ≡ a = omega arith in rw (ap p (sym same) ∙ passes) (ap Some (sym same))
    ]

find_none : (p : ℕ → Bool) (n a : ℕ) → ((i : ℕ) → a ≤ i → i < a + n → p i ≡ false) → find p (range_with_len a n) ≡ None
find_none p zero a fails = refl
find_none p (suc n) a fails = rw (fails a (omega arith) (omega arith)) (find_none p n (a + 1) (λ i low high. fails i (omega arith) (omega arith)))

-- a reference that stands is the one that is tested
standing : (text : List ℕ) (o : ℕ) → (reference : Reference) × StandsAt text o reference → stands_at text o ≡ true
standing text o (reference, stands) = ap (is_standing text o) (stands_is text o reference stands) ∙ to_test text o reference stands

abbrev is_bad : List ℕ → ℕ → Bool
is_bad text o = must_stand (drop o text) && not (stands_at text o)

fine : (text : List ℕ) (o : ℕ) → (must_stand (drop o text) ≡ true → stands_at text o ≡ true) → is_bad text o ≡ false
fine text o meets = by_test (must_stand (drop o text)) refl
  where
    by_test : (due : Bool) → must_stand (drop o text) ≡ due → (due && not (stands_at text o)) ≡ false
    by_test false e = refl
    by_test true e = ap not (meets e)

within_text : (text : List ℕ) (o : ℕ) → must_stand (drop o text) ≡ true → o < length text
within_text text o due =
    elim (cases_lt o (length text)) [
      | inl below ↦ below
      | inr past ↦ absurd (no_true (sym (ap must_stand (drop_all o text past)) ∙ due))
    ]

pub bad_offset-some : (text : List ℕ) (offset : ℕ) → IsBadOffset text offset → bad_offset text ≡ Some offset
bad_offset-some text offset bad =
    let none : stands_at text offset ≡ false = never (stands_at text offset) (λ e. bad.none (reference_at (drop offset text)) (from_test text offset (reference_at (drop offset text)) e)) in
    find_first (is_bad text) (length text) 0 offset (omega arith) (let lt : offset < length text = within_text text offset bad.due in omega arith)
    (and_both (must_stand (drop offset text)) (not (stands_at text offset)) bad.due (ap not none)) (λ i low below. fine text i (λ due. standing text i (bad.least i below due)))

pub bad_offset-none : (text : List ℕ) → HasReading text → bad_offset text ≡ None
bad_offset-none text reads = find_none (is_bad text) (length text) 0 (λ i low high. fine text i (λ due. standing text i (stands_where_due text (pieces_of text) i reads due)))
