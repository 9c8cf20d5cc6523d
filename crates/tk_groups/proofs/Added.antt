-- What a map of groups holds once a name was added.
use Rattle.std.proofs.Common.{◌≡◌, ℕ, List, [], ◌∷◌, ◌++◌, Option, Some, refl, sym, ap, ◌∙◌, inl, inr}
use Rattle.std.specs.Prelude.{bytes_eq, unwrap_or, if◌then◌else◌}
use Rattle.std.specs.declared.string.String.{String}
use Rattle.std.proofs.lemmas.Bool.{cases_Bool}
use Rattle.std.proofs.lemmas.Slice.Eq.{bytes_eq-Decides}
use Rattle.indexmap.specs.IndexMap.{IndexMap, get_by_text}
use Rattle.tk_groups.specs.Groups.{groups_in, IsAdded, names_of}
use Rattle.tk_groups.proofs.Named.{names_named}

-- one group is another one now
pub added : {A S : Type 0} (m n : IndexMap (String A) (List (List ℕ)) S) (owner name : List ℕ) (names : List (List ℕ)) → names ≡ unwrap_or (get_by_text m owner) [] ++ name ∷ []
    → ((other : List ℕ) → get_by_text n other ≡ (if bytes_eq owner other then Some names else get_by_text m other)) → IsAdded owner name (groups_in m) (groups_in n)
added m n owner name names is at other = elim (cases_Bool (bytes_eq owner other)) [
  | inl hit ↦
      let own : owner ≡ other = (bytes_eq-Decides owner other).0 hit in
      let there : get_by_text n other ≡ Some names = at other ∙ rw hit refl in
      let new : names_of (groups_in n) other ≡ names = names_named n other ∙ ap (λ (o : Option (List (List ℕ))). unwrap_or o []) there in
      let old : unwrap_or (get_by_text m owner) [] ≡ names_of (groups_in m) other = ap (λ (x : List ℕ). unwrap_or (get_by_text m x) []) own ∙ sym (names_named m other) in
      let more : names_of (groups_in n) other ≡ names_of (groups_in m) other ++ name ∷ [] = new ∙ is ∙ ap (λ (ns : List (List ℕ)). ns ++ name ∷ []) old in
      rw hit more
  | inr miss ↦
      let there : get_by_text n other ≡ get_by_text m other = at other ∙ rw miss refl in
      let same : names_of (groups_in n) other ≡ names_of (groups_in m) other = names_named n other ∙ ap (λ (o : Option (List (List ℕ))). unwrap_or o []) there ∙ sym (names_named m other) in
      rw miss same
]
