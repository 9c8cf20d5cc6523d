-- Names whose places a set has.
use Rattle.std.proofs.Common.{◌≡◌, ◌≢◌, ◌≤◌, ◌<◌, ℕ, ◌+◌, List, [], Bool, true, false, Some, None, sym, ap, ◌∙◌, cond, inl, inr, arith}
use Rattle.std.specs.Prelude.{slice_get, bytes_eq}
use Rattle.std.proofs.lemmas.Bool.{cases_Bool, cases_lt, eq-eqb, ne_eqb}
use Rattle.std.proofs.lemmas.Option.{same_Some}
use Rattle.std.proofs.lemmas.Slice.Eq.{bytes_eq-Decides}
use Rattle.tk_places.specs.Places.{has, IsSet, IsNext, IsPlaceOf, AreMarked, AllBefore}

-- without names none is to be marked
pub none_marked : (test : List ℕ → Bool) (names : List (List ℕ)) (places : List ℕ) → names ≡ [] → AreMarked test names places
none_marked test names places empty place name at passes =
    let nothing : None ≡ Some name = ap (λ (ns : List (List ℕ)). slice_get ns place) (sym empty) ∙ at in
    absurd (cc (nothing))

-- the same names that pass
pub alike_marked : (test after : List ℕ → Bool) (names later : List (List ℕ)) (places : List ℕ) → later ≡ names → ((name : List ℕ) → after name ≡ test name)
    → AreMarked test names places → AreMarked after later places
alike_marked test after names later places same alike marked place name at passes =
    marked place name (ap (λ (ns : List (List ℕ)). slice_get ns place) (sym same) ∙ at) (sym (alike name) ∙ passes)

-- one name is judged anew, and all others are as they were
module _ (test after : List ℕ → Bool) (names later : List (List ℕ)) (places : List ℕ) (name : List ℕ) (marked : AreMarked test names places)
    (others : (other : List ℕ) → name ≢ other → after other ≡ test other)
    (stand : (place : ℕ) (other : List ℕ) → name ≢ other → slice_get later place ≡ Some other → slice_get names place ≡ Some other) where
  other_marked : (place : ℕ) (other : List ℕ) → name ≢ other → slice_get later place ≡ Some other → after other ≡ true → has places place ≡ true
  other_marked place other differ at passes = marked place other (stand place other differ at) (sym (others other differ) ∙ passes)

  -- it stands nowhere
  pub absent_marked : IsPlaceOf later name None → AreMarked after later places
  absent_marked nowhere place other at passes =
      other_marked place other (λ (same : name ≡ other). nowhere place (at ∙ ap Some (sym same))) at passes

  -- its place is put in or taken out
  pub judged_marked : (own : ℕ) → IsPlaceOf later name (Some own) → (new : List ℕ) → IsSet own (after name) places new → AreMarked after later new
  judged_marked own is new set place other at passes = elim (cases_Bool (bytes_eq name other)) [
    | inl same ↦
        let own_name : name ≡ other = (bytes_eq-Decides name other).0 same in
        let here : place ≡ own = is.1 place (at ∙ ap Some (sym own_name)) in
        set place
        ∙ ap (λ (b : Bool). cond b (after name) (has places place)) (eq-eqb own place (sym here))
        ∙ (ap after own_name ∙ passes)
    | inr apart ↦
        let differ : name ≢ other = λ same. absurd (cc (apart, (bytes_eq-Decides name other).1 same)) in
        let elsewhere : own ≢ place = λ here. differ (same_Some name other (sym is.0 ∙ ap (slice_get later) here ∙ at)) in
        set place
        ∙ ap (λ (b : Bool). cond b (after name) (has places place)) (ne_eqb own place elsewhere)
        ∙ other_marked place other differ at passes
  ]

-- what a set lacks needn't be looked at
module _ (test : List ℕ → Bool) (IsSo : List ℕ → Type 0) (names : List (List ℕ)) (places : List ℕ) (marked : AreMarked test names places)
    (idle : (name : List ℕ) → test name ≡ false → IsSo name) (from : ℕ) (before : AllBefore IsSo names from) where
  lacking_so : (place : ℕ) (name : List ℕ) → slice_get names place ≡ Some name → has places place ≡ false → IsSo name
  lacking_so place name at lacking = elim (cases_Bool (test name)) [
    | inl passes ↦
        let there : has places place ≡ true = marked place name at passes in
        absurd (cc (lacking, there))
    | inr fails ↦ idle name fails
  ]

  pub all_before_next : (place : ℕ) → IsNext from places (Some place) → AllBefore IsSo names place
  all_before_next next is place name below at = elim (cases_lt place from) [
    | inl early ↦ before place name early at
    | inr late ↦ lacking_so place name at (is.2 place late below)
  ]

  pub all_so : IsNext from places None → (end : ℕ) → AllBefore IsSo names end
  all_so is end place name below at = elim (cases_lt place from) [
    | inl early ↦ before place name early at
    | inr late ↦ lacking_so place name at (is place late)
  ]

-- one place further
pub all_behind : (IsSo : List ℕ → Type 0) (names : List (List ℕ)) (place : ℕ) → AllBefore IsSo names place → ((name : List ℕ) → slice_get names place ≡ Some name → IsSo name) → AllBefore IsSo names (place + 1)
all_behind IsSo names end before here place name below at = elim (cases_lt place end) [
  | inl early ↦ before place name early at
  | inr late ↦ here name (ap (slice_get names) (sym (only place end late below)) ∙ at)
]
  where
    only : (place end : ℕ) → end ≤ place → place < end + 1 → place ≡ end
    only place end late below = omega (arith, late, below)
