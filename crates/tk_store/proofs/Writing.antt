-- An index once an entry has changed an object that is there.
use Rattle.std.proofs.Common.{◌≡◌, ℕ, zero, suc, ◌<◌, ◌≤◌, List, [], ◌∷◌, length, get_or, set, Option, Some, None, Bool, true, false, refl, sym, ap, ◌∙◌, subst, inl, inr, arith}
use Rattle.std.specs.Prelude.{slice_get, nat_eq, bytes_eq, ◌&&◌, if◌then◌else◌}
use Rattle.std.specs.Option.{option_map_or}
use Rattle.std.proofs.lemmas.Bool.{cases_Bool, and_parts, eqb-true, eqb-false}
use Rattle.std.proofs.lemmas.Option.{slice_get_within, same_Some}
use Rattle.std.proofs.lemmas.List.{length-set}
use Rattle.std.proofs.lemmas.Slice.Eq.{bytes_eq-Decides}
use Rattle.tk_types.specs.declared.scenario.Kind.{Kind}
use Rattle.tk_types.specs.declared.scenario.Kind.TheVariants as kinds
use Rattle.tk_journal.specs.declared.entry.Entry.{Entry}
use Rattle.tk_journal.specs.Effects.{name_of, kind_of, same_kind, writes, is_create}
use Rattle.tk_journal.specs.History.{creates, version_of}
use Rattle.tk_journal.specs.Journal.{entry_at}
use Rattle.tk_store.specs.declared.index.Link.{Link}
use Rattle.tk_store.specs.declared.index.Index.{Index}
use Rattle.tk_store.specs.Index.{is_of, walk, AreLinks, AreFound, IsIndex, made_of, version_in, head_of, number_of}
use Rattle.tk_store.specs.Writes.{made_at}
use Rattle.tk_store.proofs.Walks.{same_test}
use Rattle.tk_store.proofs.Creates.{same_kind_is, creates_create, is_written}
use Rattle.tk_store.proofs.Adding.{entry_older}

set_same : (xs : List ℕ) (i v : ℕ) → i < length xs → slice_get (set xs i v) i ≡ Some v
set_same [] i v less = absurd (omega (arith, less))
set_same (x ∷ xs) zero v less = refl
set_same (x ∷ xs) (suc i) v less = set_same xs i v (omega (arith, less))

set_other : (xs : List ℕ) (i j v : ℕ) → (j ≡ i → ⊥) → slice_get (set xs i v) j ≡ slice_get xs j
set_other [] i j v apart = refl
set_other (x ∷ xs) zero zero v apart = absurd (apart refl)
set_other (x ∷ xs) zero (suc j) v apart = refl
set_other (x ∷ xs) (suc i) zero v apart = refl
set_other (x ∷ xs) (suc i) (suc j) v apart = set_other xs i j v (λ same. apart (ap suc same))

-- a walk by a test that gives the same at each link
retested : (test other : Link → Bool) (links : List Link) → ((place : ℕ) (l : Link) → slice_get links place ≡ Some l → other l ≡ test l) → (more at : ℕ) → walk other links more at ≡ walk test links more at
retested test other links same zero at = refl
retested test other links same (suc more) zero = refl
retested test other links same (suc more) (suc place) =
    same_test test other place (walk other links more) (walk test links more) (slice_get links place) (λ l is. same place l is) (λ l is. retested test other links same more l.next)

-- what a walk finds passes its test
record IsHit (test : Link → Bool) (links : List Link) (place : ℕ) : Type 0 where
  link : Link
  is : slice_get links place ≡ Some link
  passes : test link ≡ true

hits : (test : Link → Bool) (links : List Link) (more at found : ℕ) → walk test links more at ≡ suc found → IsHit test links found
hits test links zero at found is = cc
hits test links (suc more) zero found is = cc
hits test links (suc more) (suc place) found is = by (slice_get links place) refl is (λ l rest. hits test links more l.next found rest)
  where
    by : (o : Option Link) → slice_get links place ≡ o → option_map_or (λ (l : Link). if test l then suc place else walk test links more l.next) o 0 ≡ suc found
        → ((l : Link) → walk test links more l.next ≡ suc found → IsHit test links found) → IsHit test links found
    by None there is rec = cc
    by (Some l) there is rec = elim (cases_Bool (test l)) [
      | inl hit ↦
          let same : place ≡ found = let e : suc place ≡ suc found = sym (rw hit refl) ∙ is in omega (arith, e) in
          record { link = l; is = subst (λ (p : ℕ). slice_get links p ≡ Some l) same there; passes = hit }
      | inr miss ↦ rec l (sym (rw miss refl) ∙ is)
    ]

same_kind_itself : (kind : Kind) → same_kind kind kind ≡ true
same_kind_itself kinds.Runs = refl
same_kind_itself kinds.TaskRuns = refl
same_kind_itself kinds.Pods = refl

writes_itself : (e : Entry) → writes (kind_of e.act) (name_of e.act) e ≡ true
writes_itself e = rw (same_kind_itself (kind_of e.act), (bytes_eq-Decides (name_of e.act) (name_of e.act)).1 refl) refl

module _ (history : List Entry) (heads : List ℕ) (links : List Link) (versions : List ℕ) (e : Entry)
    (paired : length versions ≡ length links) (right : AreLinks history links) (found : AreFound history heads links versions) (update : is_create e.act ≡ false)
    (own : ℕ) (there : number_of history heads links (kind_of e.act) (name_of e.act) ≡ suc own) where
  abbrev versions_after : List ℕ
  versions_after = set versions own (suc (length history))

  own_hit : IsHit (is_of history (kind_of e.act) (name_of e.act)) links own
  own_hit = hits (is_of history (kind_of e.act) (name_of e.act)) links (length links) (head_of heads (name_of e.act)) own there

  was_made : 0 < made_at (kind_of e.act) (name_of e.act) history
  was_made =
      let positive = right.from_one own own_hit.link own_hit.is in
      let at : made_of links (suc own) ≡ own_hit.link.made = ap (λ o. option_map_or (λ (l : Link). l.made) o 0) own_hit.is in
      let same : made_of links (suc own) ≡ made_at (kind_of e.act) (name_of e.act) history = sym (ap (made_of links) there) ∙ (found (kind_of e.act) (name_of e.act)).0 in
      omega (arith, positive, at, same)

  own_within : own < length versions
  own_within = let less = slice_get_within links own own_hit.link own_hit.is in omega (arith, less, paired)

  right_after : AreLinks (e ∷ history) links
  right_after = record {
    older = right.older;
    from_one = right.from_one;
    within = λ place l is. let before = right.within place l is in omega (arith, before);
  }

  -- an entry that writes two objects, which are then the same
  both_of : (d : Entry) (kind other : Kind) (name called : List ℕ) → writes kind name d ≡ true → writes other called d ≡ true → (kind ≡ other) × (name ≡ called)
  both_of d kind other name called one two =
      let first = and_parts (same_kind kind (kind_of d.act)) (bytes_eq (name_of d.act) name) one in
      let second = and_parts (same_kind other (kind_of d.act)) (bytes_eq (name_of d.act) called) two in (
        same_kind_is kind (kind_of d.act) first.0 ∙ sym (same_kind_is other (kind_of d.act) second.0),
        sym ((bytes_eq-Decides (name_of d.act) name).0 first.1) ∙ (bytes_eq-Decides (name_of d.act) called).0 second.1,
      )

  -- two objects that are found at one link are the same
  same_object : (kind other : Kind) (name called : List ℕ) (o : Option Entry) → option_map_or (writes kind name) o false ≡ true → option_map_or (writes other called) o false ≡ true → (kind ≡ other) × (name ≡ called)
  same_object kind other name called None one two = cc
  same_object kind other name called (Some d) one two = both_of d kind other name called one two

  module _ (kind : Kind) (name : List ℕ) where
    still : number_of (e ∷ history) heads links kind name ≡ number_of history heads links kind name
    still = retested (is_of history kind name) (is_of (e ∷ history) kind name) links
        (λ place l is. ap (λ o. option_map_or (writes kind name) o false) (entry_older e history l.made (right.within place l is))) (length links) (head_of heads name)

    made_older : made_at kind name (e ∷ history) ≡ made_at kind name history
    made_older = elim (cases_Bool (creates kind e.act && bytes_eq (name_of e.act) name)) [
      | inl hit ↦
          let parts = and_parts (creates kind e.act) (bytes_eq (name_of e.act) name) hit in
          let create = creates_create kind e.act parts.0 in
          absurd (let both : is_create e.act ≡ true = create in cc)
      | inr other ↦ rw other refl
    ]

    made_is : kind_of e.act ≡ kind → name_of e.act ≡ name → 0 < made_at kind name history
    made_is kinds_same names_same = subst (λ (n : List ℕ). 0 < made_at kind n history) names_same (subst (λ (k : Kind). 0 < made_at k (name_of e.act) history) kinds_same was_made)

    version_after : version_in versions_after (number_of history heads links kind name) ≡ version_of kind name (e ∷ history)
    version_after = elim (cases_Bool (writes kind name e)) [
      | inl hit ↦
          let parts = and_parts (same_kind kind (kind_of e.act)) (bytes_eq (name_of e.act) name) hit in
          let kinds_same : kind_of e.act ≡ kind = sym (same_kind_is kind (kind_of e.act) parts.0) in
          let names_same : name_of e.act ≡ name = (bytes_eq-Decides (name_of e.act) name).0 parts.1 in
          let at : number_of history heads links kind name ≡ suc own =
          subst (λ (n : List ℕ). number_of history heads links kind n ≡ suc own) names_same (subst (λ (k : Kind). number_of history heads links k (name_of e.act) ≡ suc own) kinds_same there) in
          ap (version_in versions_after) at ∙ ap (λ o. option_map_or (λ (v : ℕ). v) o 0) (set_same versions own (suc (length history)) own_within) ∙ sym (is_written kind name e history hit update (made_is kinds_same names_same))
      | inr miss ↦ others miss (number_of history heads links kind name) refl
    ]
      where
        others : writes kind name e ≡ false → (number : ℕ) → number_of history heads links kind name ≡ number → version_in versions_after (number_of history heads links kind name) ≡ version_of kind name (e ∷ history)
        others miss zero at = ap (version_in versions_after) at ∙ sym (ap (version_in versions) at) ∙ (found kind name).1 ∙ sym (rw miss refl)
        others miss (suc place) at = elim (cases_Bool (nat_eq place own)) [
          | inl hit ↦
              let is : place ≡ own = eqb-true place own hit in
              let mine = hits (is_of history kind name) links (length links) (head_of heads name) place at in
              let link_same : mine.link ≡ own_hit.link = same_Some mine.link own_hit.link (sym mine.is ∙ ap (slice_get links) is ∙ own_hit.is) in
              let passes : is_of history kind name own_hit.link ≡ true = subst (λ (l : Link). is_of history kind name l ≡ true) link_same mine.passes in
              let same = same_object kind (kind_of e.act) name (name_of e.act) (entry_at own_hit.link.made history) passes own_hit.passes in
              absurd (let all : writes kind name e ≡ true = rw (same.0, same.1) (writes_itself e) in cc)
          | inr other ↦
              let apart = eqb-false place own other in
              ap (version_in versions_after) at ∙ ap (λ o. option_map_or (λ (v : ℕ). v) o 0) (set_other versions own place (suc (length history)) apart)
              ∙ sym (ap (version_in versions) at) ∙ (found kind name).1 ∙ sym (rw miss refl)
        ]

  pub index_written : (new : Index) → 0 < length heads → ((place : ℕ) → get_or heads place 0 ≤ length links) → new.heads.items ≡ heads → new.links.items ≡ links → new.versions.items ≡ versions_after → IsIndex (e ∷ history) new
  index_written new some few hs ls vs = record {
    some = let same = ap length hs in omega (arith, same, some);
    paired = ap length vs ∙ length-set versions own (suc (length history)) ∙ paired ∙ sym (ap length ls);
    heads = subst (λ (xs : List ℕ). (place : ℕ) → get_or xs place 0 ≤ length new.links.items) (sym hs) (subst (λ (xs : List Link). (place : ℕ) → get_or heads place 0 ≤ length xs) (sym ls) few);
    links = subst (AreLinks (e ∷ history)) (sym ls) right_after;
    found = subst (λ (xs : List ℕ). AreFound (e ∷ history) xs new.links.items new.versions.items) (sym hs)
        (subst (λ (xs : List Link). AreFound (e ∷ history) heads xs new.versions.items) (sym ls)
        (subst (λ (xs : List ℕ). AreFound (e ∷ history) heads links xs) (sym vs)
        (λ kind name. (ap (made_of links) (still kind name) ∙ (found kind name).0 ∙ sym (made_older kind name), ap (version_in versions_after) (still kind name) ∙ version_after kind name))));
  }

-- the same, with what a body computed
pub index_set : (history : List Entry) (index : Index) (e : Entry) → IsIndex history index → is_create e.act ≡ false → (new : Index) (own number version : ℕ)
    → number_of history index.heads.items index.links.items (kind_of e.act) (name_of e.act) ≡ number → suc own ≡ number → version ≡ suc (length history)
    → new.heads.items ≡ index.heads.items → new.links.items ≡ index.links.items → new.versions.items ≡ set index.versions.items own version → IsIndex (e ∷ history) new
index_set history index e right update new own number version there some is hs ls vs =
    index_written history index.heads.items index.links.items index.versions.items e right.paired right.links right.found update own (there ∙ sym some) new right.some right.heads hs ls
    (vs ∙ ap (λ (v : ℕ). set index.versions.items own v) is)
