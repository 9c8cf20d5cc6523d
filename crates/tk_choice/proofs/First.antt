-- The first act that a name of a list gives rise to, and its place.
use Rattle.std.proofs.Common.{◌≡◌, ◌≢◌, ℕ, zero, suc, ◌+◌, ◌<◌, ◌≤◌, List, [], ◌∷◌, length, map, drop, Option, Some, None, Bool, true, false, refl, sym, ◌∙◌, ap, inl, inr, ◌⊎◌, arith, Contains}
use Rattle.std.specs.Prelude.{bytes_eq, option_and_then, slice_get, if◌then◌else◌}
use Rattle.std.specs.Cmp.Lexicographic.{bytes_decides}
use Rattle.std.proofs.lemmas.Bool.{cases_Bool}
use Rattle.tk_journal.specs.declared.act.Act.{Act}
use Rattle.tk_journal.specs.Choice.{place_of}
use Rattle.tk_choice.specs.First.{first_act}

pub first_is : (o : Option Act) (later : List (Option Act)) (act : Act) → first_act (o ∷ later) ≡ Some act → (o ≡ Some act) ⊎ ((o ≡ None) × (first_act later ≡ Some act))
first_is None later act is = inr (refl, is)
first_is (Some first) later act is = inl is

pub none_first : (o : Option Act) (later : List (Option Act)) → first_act (o ∷ later) ≡ None → (o ≡ None) × (first_act later ≡ None)
none_first None later none = (refl, none)
none_first (Some first) later none = absurd (cc (none))

same_name : (a b : List ℕ) → bytes_eq a b ≡ true → a ≡ b
same_name a b hit = (bytes_decides a b).0 hit

module _ (gives : List ℕ → Option Act) where
  -- another name gives nothing, is this one, or stands later
  abbrev pub IsLater : List ℕ → List (List ℕ) → List ℕ → Type 0
  IsLater name names other = (place_of name names < place_of other names) ⊎ ((other ≡ name) ⊎ (gives other ≡ None))

  -- the name that gives the act is the first one that gives any
  pub record IsFirst (names : List (List ℕ)) (act : Act) : Type 0 where
    pub name : List ℕ
    pub given : gives name ≡ Some act
    pub later : (other : List ℕ) → IsLater name names other

  other_than : (x name : List ℕ) (act : Act) → gives x ≡ None → gives name ≡ Some act → bytes_eq name x ≡ false
  other_than x name act none given = elim (cases_Bool (bytes_eq name x)) [
    | inl hit ↦ let same = ap gives (same_name name x hit) in absurd (cc (same, none, given))
    | inr miss ↦ miss
  ]

  at_head : (x : List ℕ) (names : List (List ℕ)) (other : List ℕ) → IsLater x (x ∷ names) other
  at_head x names other = elim (cases_Bool (bytes_eq other x)) [
    | inl hit ↦ inr (inl (same_name other x hit))
    | inr miss ↦
        let itself : bytes_eq x x ≡ true = (bytes_decides x x).1 refl in
        inl (rw (itself, miss) (omega arith))
  ]

  behind : (x name : List ℕ) (names : List (List ℕ)) (other : List ℕ) → gives x ≡ None → bytes_eq name x ≡ false → IsLater name names other → IsLater name (x ∷ names) other
  behind x name names other none apart later = elim (cases_Bool (bytes_eq other x)) [
    | inl hit ↦ inr (inr (ap gives (same_name other x hit) ∙ none))
    | inr miss ↦ elim later [
      | inl less ↦ inl (rw (apart, miss) (omega (arith, less)))
      | inr rest ↦ inr rest
    ]
  ]

  pub first_of : (names : List (List ℕ)) (act : Act) → first_act (map gives names) ≡ Some act → IsFirst names act
  first_of [] act is = absurd (cc (is))
  first_of (x ∷ names) act is = elim (first_is (gives x) (map gives names) act is) [
    | inl here ↦ record { name = x; given = here; later = at_head x names }
    | inr there ↦
        let rest = first_of names act there.1 in
        record { name = rest.name; given = rest.given; later = λ other. behind x rest.name names other there.0 (other_than x rest.name act there.0 rest.given) (rest.later other) }
  ]

  pub none_of : (names : List (List ℕ)) (name : List ℕ) → first_act (map gives names) ≡ None → Contains names name → gives name ≡ None
  none_of [] name none (k, below, is) = absurd (omega (arith, below))
  none_of (x ∷ names) name none (zero, below, is) = ap gives (sym is) ∙ (none_first (gives x) (map gives names) none).0
  none_of (x ∷ names) name none (suc k, below, is) = none_of names name (none_first (gives x) (map gives names) none).1 (k, omega arith, is)

  -- name by name

  from_place : (names : List (List ℕ)) (place : ℕ) → place < length names → first_act (map gives (drop place names)) ≡ first_act (option_and_then gives (slice_get names place) ∷ map gives (drop (place + 1) names))
  from_place [] place below = absurd (omega (arith, below))
  from_place (x ∷ names) zero below = refl
  from_place (x ∷ names) (suc place) below = let e : suc place + 1 ≡ suc (place + 1) = omega arith in rw e (from_place names place (omega (arith, below)))

  -- where a name gives nothing, the first act is that of the later ones
  pub first_later : (names : List (List ℕ)) (place : ℕ) → place < length names → option_and_then gives (slice_get names place) ≡ None → first_act (map gives (drop place names)) ≡ first_act (map gives (drop (place + 1) names))
  first_later names place below none = from_place names place below ∙ ap (λ (o : Option Act). first_act (o ∷ map gives (drop (place + 1) names))) none

  -- where it gives an act, this is the first
  pub first_here : (names : List (List ℕ)) (place : ℕ) (act : Act) → place < length names → option_and_then gives (slice_get names place) ≡ Some act → first_act (map gives (drop place names)) ≡ Some act
  first_here names place act below some = from_place names place below ∙ ap (λ (o : Option Act). first_act (o ∷ map gives (drop (place + 1) names))) some

  -- no name is left
  pub first_end : (names : List (List ℕ)) (place : ℕ) → length names ≤ place → first_act (map gives (drop place names)) ≡ None
  first_end [] zero past = refl
  first_end [] (suc place) past = refl
  first_end (x ∷ names) zero past = absurd (omega (arith, past))
  first_end (x ∷ names) (suc place) past = first_end names place (omega (arith, past))
