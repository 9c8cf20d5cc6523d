-- What an index knows of an object.
use Rattle.std.proofs.Common.{◌≡◌, ℕ, zero, suc, ◌%◌, ◌<◌, List, length, get_or, Some, refl, sym, ap, ◌∙◌, arith}
use Rattle.std.specs.Prelude.{slice_get}
use Rattle.std.specs.Option.{option_map_or}
use Rattle.std.proofs.lemmas.Option.{slice_get_read}
use Rattle.tk_types.specs.declared.scenario.Kind.{Kind}
use Rattle.tk_journal.specs.declared.entry.Entry.{Entry}
use Rattle.tk_journal.specs.History.{version_of}
use Rattle.tk_store.specs.declared.index.Link.{Link}
use Rattle.tk_store.specs.declared.index.Index.{Index}
use Rattle.tk_store.specs.Index.{hash_of, is_of, walk, IsIndex, made_of, version_in, number_of}
use Rattle.tk_store.specs.Writes.{made_at}
use Rattle.tk_store.proofs.Adding.{same_default}

module _ (history : List Entry) (index : Index) (right : IsIndex history index) (kind : Kind) (name : List ℕ) (bucket head number : ℕ)
    (at : bucket ≡ hash_of name % length index.heads.items) (less : bucket < length index.heads.items) (first : head ≡ get_or index.heads.items bucket head)
    (is : number ≡ walk (is_of history kind name) index.links.items (length index.links.items) head) where
  pub is_number : number_of history index.heads.items index.links.items kind name ≡ number
  is_number = ap (λ (p : ℕ). walk (is_of history kind name) index.links.items (length index.links.items) (get_or index.heads.items p 0)) (sym at)
      ∙ ap (walk (is_of history kind name) index.links.items (length index.links.items)) (same_default index.heads.items bucket 0 head less ∙ sym first) ∙ sym is

  pub unknown : number ≡ 0 → (made_at kind name history ≡ 0) × (version_of kind name history ≡ 0)
  unknown none =
      let found = right.found kind name in (
        sym found.0 ∙ ap (made_of index.links.items) (is_number ∙ none),
        sym found.1 ∙ ap (version_in index.versions.items) (is_number ∙ none),
      )

  pub known : (place : ℕ) → suc place ≡ number → place < length index.links.items → (link : Link) (version : ℕ) → link ≡ get_or index.links.items place link → version ≡ get_or index.versions.items place version
      → (0 < link.made) × (link.made ≡ made_at kind name history) × (version ≡ version_of kind name history)
  known place some within link version link_is version_is =
      let found = right.found kind name in
      let there : slice_get index.links.items place ≡ Some link = slice_get_read index.links.items (length index.links.items) place link refl within link_is in
      let beside : slice_get index.versions.items place ≡ Some version = slice_get_read index.versions.items (length index.links.items) place version (sym right.paired) within version_is in (
        right.links.from_one place link there,
        sym (ap (λ o. option_map_or (λ (l : Link). l.made) o 0) there) ∙ ap (made_of index.links.items) (some ∙ sym is_number) ∙ found.0,
        sym (ap (λ o. option_map_or (λ (v : ℕ). v) o 0) beside) ∙ ap (version_in index.versions.items) (some ∙ sym is_number) ∙ found.1,
      )

  -- what was made is known
  pub is_known : 0 < made_at kind name history → 0 < number
  is_known there = by number refl
    where
      by : (n : ℕ) → number ≡ n → 0 < n
      by zero none = let gone = unknown none in absurd (omega (arith, there, gone.0))
      by (suc n) some = omega arith
