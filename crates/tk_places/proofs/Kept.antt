-- Places of a set, by the set's own order.
use Rattle.std.proofs.Common.{◌≡◌, ◌≤◌, ◌<◌, ℕ, List, [], ◌∷◌, Bool, false, nat_eq, Option, Some, None, refl, ap, sym, ◌∙◌, ◌||◌, cond, subst, inl, inr, Bor, arith}
use Rattle.std.proofs.lemmas.Bool.{cases_Bool}
use Rattle.std.specs.List.{list_any}
use Rattle.std.specs.Option.{MatchOption, option_copied}
use Rattle.std.specs.Ordering.{nat_cmp, is_gt, MatchOrdering}
use Rattle.std.specs.declared.cmp.Ordering.{Ordering}
use Rattle.std.specs.declared.cmp.Ordering.TheVariants.{Less, Equal, Greater}
use Rattle.std.specs.declared.ops.Bound.TheVariants.{Included, Unbounded}
use Rattle.std.specs.BTreeSet.{BTreeSet, IsKeyRangeOf}
use Rattle.std.specs.Cmp.{unsigned_tied, ranks}
use Rattle.std.specs.BTreeMap.{is_at}
use Rattle.tk_places.specs.Places.{has, IsSet, IsNext}

-- two places are the same by their order
same_place : (a b : ℕ) → is_at (nat_cmp a) b ≡ nat_eq a b
same_place a b = unsigned_tied a b

pub kept_has : (place : ℕ) (places : List ℕ) → list_any (is_at (nat_cmp place)) places ≡ has places place
kept_has place [] = refl
kept_has place (first ∷ places) = ap (λ (b : Bool). b || list_any (is_at (nat_cmp place)) places) (same_place place first) ∙ ap (λ (b : Bool). nat_eq place first || b) (kept_has place places)

-- a set as it is once a place was put in or taken out
pub kept_set : (place : ℕ) (is_in : Bool) (old new : List ℕ) → ((other : ℕ) → list_any (is_at (nat_cmp other)) new ≡ cond (is_at (nat_cmp place) other) is_in (list_any (is_at (nat_cmp other)) old)) → IsSet place is_in old new
kept_set place is_in old new given other =
    sym (kept_has other new) ∙ given other
    ∙ ap (λ (b : Bool). cond b is_in (list_any (is_at (nat_cmp other)) old)) (same_place place other)
    ∙ ap (λ (b : Bool). cond (nat_eq place other) is_in b) (kept_has other old)

-- the order of places is that of numbers
from_order : (a b : ℕ) (o : Ordering) → MatchOrdering o (a < b) (a ≡ b) (b < a) → is_gt o ≡ false → a ≤ b
from_order a b Less below given = omega (arith, below)
from_order a b Equal same given = omega (arith, same)
from_order a b Greater above given = absurd (cc (given))

to_order : (a b : ℕ) (o : Ordering) → MatchOrdering o (a < b) (a ≡ b) (b < a) → a ≤ b → is_gt o ≡ false
to_order a b Less below within = refl
to_order a b Equal same within = refl
to_order a b Greater above within = absurd (omega (arith, above, within))

-- the first of what a set has from a place on
module _ (from : ℕ) (set : BTreeSet ℕ) where
  is_lacking : IsKeyRangeOf nat_cmp (Included from) Unbounded set [] → IsNext from set.keys None
  is_lacking ranged other within = sym (kept_has other set.keys) ∙ ranged.5 refl other (to_order from other (nat_cmp from other) (ranks from other) within, tt)

  is_first : (place : ℕ) (rest : List ℕ) → IsKeyRangeOf nat_cmp (Included from) Unbounded set (place ∷ rest) → IsNext from set.keys (Some place)
  is_first place rest ranged =
      (from_order from place (nat_cmp from place) (ranks from place) ranged.1.0.0, sym (kept_has place set.keys) ∙ ranged.1.1, none_below)
    where
      none_below : (other : ℕ) → from ≤ other → other < place → has set.keys other ≡ false
      none_below other within under = elim (cases_Bool (has set.keys other)) [
        | inl there ↦ absurd (omega (arith, under, from_order place other (nat_cmp place other) (ranks place other) (ranged.2 other (to_order from other (nat_cmp from other) (ranks from other) within, tt) (kept_has other set.keys ∙ there))))
        | inr lacking ↦ lacking
      ]

  pub next_is : (range left : List ℕ) (found : Option (Bor ℕ)) → IsKeyRangeOf nat_cmp (Included from) Unbounded set range → MatchOption found ((range ≡ []) × (left ≡ [])) (λ (x : Bor ℕ). range ≡ x.now ∷ left) → IsNext from set.keys (option_copied found)
  next_is range left None ranged found = is_lacking (subst (IsKeyRangeOf nat_cmp (Included from) Unbounded set) found.0 ranged)
  next_is range left (Some x) ranged found = is_first x.now left (subst (IsKeyRangeOf nat_cmp (Included from) Unbounded set) found ranged)
