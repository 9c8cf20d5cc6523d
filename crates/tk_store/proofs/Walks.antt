-- Chains of links: a link that is added leaves the chains as they are, and a chain is never longer than its first number.
use Rattle.std.proofs.Common.{◌≡◌, ℕ, zero, suc, ◌<◌, ◌≤◌, List, [], ◌∷◌, ◌++◌, length, get_or, Option, Some, None, Bool, false, refl, sym, ap, ◌∙◌, inl, inr, arith}
use Rattle.std.specs.Prelude.{slice_get, if◌then◌else◌}
use Rattle.std.specs.Option.{option_map_or}
use Rattle.std.proofs.lemmas.Bool.{cases_Bool}
use Rattle.std.proofs.lemmas.Option.{slice_get_within, slice_get-get_or}
use Rattle.tk_store.specs.declared.index.Link.{Link}
use Rattle.tk_store.specs.Index.{walk}

pub get_left : {X : Type 0} (xs : List X) (y : X) (i : ℕ) → i < length xs → slice_get (xs ++ y ∷ []) i ≡ slice_get xs i
get_left [] y i less = absurd (omega (arith, less))
get_left (x ∷ xs) y zero less = refl
get_left (x ∷ xs) y (suc i) less = get_left xs y i (omega (arith, less))

pub get_last : {X : Type 0} (xs : List X) (y : X) → slice_get (xs ++ y ∷ []) (length xs) ≡ Some y
get_last [] y = refl
get_last (x ∷ xs) y = get_last xs y

abbrev pub AreOlder : List Link → Type 0
AreOlder links = (place : ℕ) (link : Link) → slice_get links place ≡ Some link → link.next ≤ place

-- what a walk finds at a link
abbrev pub at_link : (Link → Bool) → ℕ → (ℕ → ℕ) → Link → ℕ
at_link test place rest link = if test link then suc place else rest link.next

same_rest : (test : Link → Bool) (place : ℕ) (f g : ℕ → ℕ) (o : Option Link) → ((link : Link) → o ≡ Some link → f link.next ≡ g link.next)
    → option_map_or (λ (link : Link). if test link then suc place else f link.next) o 0 ≡ option_map_or (λ (link : Link). if test link then suc place else g link.next) o 0
same_rest test place f g None rec = refl
same_rest test place f g (Some link) rec = ap (λ w. if test link then suc place else w) (rec link refl)

pub same_test : (test other : Link → Bool) (place : ℕ) (f g : ℕ → ℕ) (o : Option Link) → ((link : Link) → o ≡ Some link → other link ≡ test link) → ((link : Link) → o ≡ Some link → f link.next ≡ g link.next)
    → option_map_or (λ (link : Link). if other link then suc place else f link.next) o 0 ≡ option_map_or (λ (link : Link). if test link then suc place else g link.next) o 0
same_test test other place f g None same rec = refl
same_test test other place f g (Some link) same rec = rw (same link refl) (ap (λ w. if test link then suc place else w) (rec link refl))

module _ (test : Link → Bool) (links : List Link) (older : AreOlder links) where
  pub enough : (more at : ℕ) → at ≤ more → walk test links (suc more) at ≡ walk test links more at
  enough zero zero le = refl
  enough zero (suc place) le = absurd (omega (arith, le))
  enough (suc more) zero le = refl
  enough (suc more) (suc place) le =
      same_rest test place (walk test links (suc more)) (walk test links more) (slice_get links place) (λ link is. let down = older place link is in enough more link.next (omega (arith, le, down)))

  -- one link of a chain
  pub next_link : (more place : ℕ) (link : Link) → suc place ≤ more → slice_get links place ≡ Some link → walk test links more (suc place) ≡ (if test link then suc place else walk test links more link.next)
  next_link zero place link le is = absurd (omega (arith, le))
  next_link (suc more) place link le is =
      let down = older place link is in
      ap (λ o. option_map_or (λ (l : Link). if test l then suc place else walk test links more l.next) o 0) is
      ∙ ap (λ w. if test link then suc place else w) (sym (enough more link.next (omega (arith, le, down))))

module _ (test other : Link → Bool) (links : List Link) (link : Link) (older : AreOlder links) (same : (place : ℕ) (l : Link) → slice_get links place ≡ Some l → other l ≡ test l) where
  pub added : (more at : ℕ) → at ≤ length links → walk other (links ++ link ∷ []) more at ≡ walk test links more at
  added zero at le = refl
  added (suc more) zero le = refl
  added (suc more) (suc place) le =
      ap (λ o. option_map_or (λ (l : Link). if other l then suc place else walk other (links ++ link ∷ []) more l.next) o 0) (get_left links link place (omega (arith, le)))
      ∙ same_test test other place (walk other (links ++ link ∷ []) more) (walk test links more) (slice_get links place) (λ l is. same place l is)
      (λ l is. let down = older place l is in added more l.next (omega (arith, le, down)))

module _ (test : Link → Bool) (links : List Link) where
  within_at : (more place : ℕ) (o : Option Link) → slice_get links place ≡ o → ((link : Link) → walk test links more link.next ≤ length links)
      → option_map_or (λ (link : Link). if test link then suc place else walk test links more link.next) o 0 ≤ length links
  within_at more place None is rec = omega arith
  within_at more place (Some link) is rec = elim (cases_Bool (test link)) [
    | inl hit ↦ let less = slice_get_within links place link is in rw hit (omega (arith, less))
    | inr miss ↦ rw miss (rec link)
  ]

  -- what a walk finds is one of the links
  pub walk_within : (more at : ℕ) → walk test links more at ≤ length links
  walk_within zero at = omega arith
  walk_within (suc more) zero = omega arith
  walk_within (suc more) (suc place) = within_at more place (slice_get links place) refl (λ link. walk_within more link.next)

-- one turn of the loop that walks a chain
pub step_on : (test : Link → Bool) (links : List Link) → AreOlder links → (at place head : ℕ) (d : Link) → suc place ≡ at → at ≤ length links → walk test links (length links) at ≡ walk test links (length links) head
    → test (get_or links place d) ≡ false → ((get_or links place d).next ≤ length links) × (walk test links (length links) (get_or links place d).next ≡ walk test links (length links) head)
step_on test links older at place head d number le before missed =
    let is : slice_get links place ≡ Some (get_or links place d) = slice_get-get_or links place d (omega (arith, number, le)) in
    let down = older place (get_or links place d) is in
    let on : walk test links (length links) (suc place) ≡ (if test (get_or links place d) then suc place else walk test links (length links) (get_or links place d).next) = next_link test links older (length links) place (get_or links place d) (omega (arith, number, le)) is in (
      omega (arith, down, number, le),
      sym (ap (λ (b : Bool). if b then suc place else walk test links (length links) (get_or links place d).next) missed) ∙ sym on ∙ ap (walk test links (length links)) number ∙ before,
    )
