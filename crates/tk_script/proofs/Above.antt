-- The folders that a path is below, from the last one on.
use Rattle.std.proofs.Common.{◌≡◌, ◌≢◌, ◌≤◌, ◌<◌, ℕ, zero, suc, List, [], ◌∷◌, inl, inr, length, take, get_or, true, sym, ap, ◌∙◌, subst, arith, slice_get}
use Rattle.std.specs.Prelude.{nat_eq}
use Rattle.std.specs.List.{starts_with}
use Rattle.std.proofs.lemmas.Bool.{and_parts, cases_lt, eqb-true}
use Rattle.std.proofs.lemmas.List.{get_or-take, length-take-le, take-take}
use Rattle.std.proofs.lemmas.Slice.Eq.{bytes_eq-Decides}
use Rattle.std.proofs.Math.Nat.{eq-or-lt_of_le}
use Rattle.tk_edge.specs.Files.{is_slash, is_under}

-- the folder begins the path, and a slash comes next
record Begins (folder path : List ℕ) : Type 0 where
  pub front : take (length folder) path ≡ folder
  pub shorter : length folder < length path
  pub slash : get_or path (length folder) 0 ≡ 47

slash_at : (path : List ℕ) (n : ℕ) → is_slash (slice_get path n) ≡ true → (n < length path) × (get_or path n 0 ≡ 47)
slash_at [] n is = cc
slash_at (b ∷ bs) zero is = (omega arith, eqb-true b 47 is)
slash_at (b ∷ bs) (suc n) is = let rest = slash_at bs n is in (omega (arith, rest.0), rest.1)

begins : (folder path : List ℕ) → is_under folder path ≡ true → Begins folder path
begins folder path is =
    let parts = and_parts (is_slash (slice_get path (length folder))) (starts_with nat_eq path folder) is in
    let next = slash_at path (length folder) parts.0 in
    record { front = sym ((bytes_eq-Decides folder (take (length folder) path)).0 parts.1); shorter = next.0; slash = next.1 }

pub front_of_front : (path front next : List ℕ) (place : ℕ) → take (length front) path ≡ front → next ≡ take place front → place < length front → take (length next) path ≡ next
front_of_front path front next place front_is is within =
    let len : length next ≡ place = ap length is ∙ length-take-le place front (omega (arith, within)) in
    ap (λ (n : ℕ). take n path) len ∙ (sym (take-take place (length front) path (omega (arith, within))) ∙ (ap (take place) front_is ∙ sym is))

module _ (path : List ℕ) (named : List ℕ → Type 0) where
  -- what is said of the folders of the path that are at least so long
  abbrev pub AreNamed : List ℕ → Type 0
  AreNamed front = (folder : List ℕ) → is_under folder path ≡ true → length front ≤ length folder → named folder

  pub none_so_long : AreNamed path
  none_so_long folder is long = absurd (omega (arith, (begins folder path is).shorter, long))

  module _ (front : List ℕ) (front_is : take (length front) path ≡ front) (longer : AreNamed front) where
    slash_in : (folder : List ℕ) → Begins folder path → length folder < length front → get_or front (length folder) 0 ≡ 47
    slash_in folder b short = ap (λ (l : List ℕ). get_or l (length folder) 0) (sym front_is) ∙ (get_or-take (length front) path (length folder) 0 short ∙ b.slash)

    -- up to the last slash
    pub next_named : (next : List ℕ) (place : ℕ) → next ≡ take place front → place < length front → ((i : ℕ) → place < i → i < length front → get_or front i 0 ≢ 47) → named next → AreNamed next
    next_named next place is within last has folder under long = elim (cases_lt (length folder) (length front)) [
      | inr so_long ↦ longer folder under so_long
      | inl short ↦
          let b = begins folder path under in
          let len : length next ≡ place = ap length is ∙ length-take-le place front (omega (arith, within)) in
          elim (eq-or-lt_of_le (subst (λ (n : ℕ). n ≤ length folder) len long)) [
            | inr behind ↦ absurd (last (length folder) behind short (slash_in folder b short))
            | inl here ↦
                let same : next ≡ folder =
                is ∙ (ap (take place) (sym front_is) ∙ (take-take place (length front) path (omega (arith, within)) ∙ (ap (λ (n : ℕ). take n path) here ∙ b.front))) in
                subst named same has
          ]
    ]

    -- all, where there is no slash
    pub all_named : ((i : ℕ) → i < length front → get_or front i 0 ≢ 47) → (folder : List ℕ) → is_under folder path ≡ true → named folder
    all_named none folder under = elim (cases_lt (length folder) (length front)) [
      | inr so_long ↦ longer folder under so_long
      | inl short ↦ absurd (none (length folder) short (slash_in folder (begins folder path under) short))
    ]
