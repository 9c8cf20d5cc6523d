-- An index with one object more.
use Rattle.std.proofs.Common.{◌≡◌, ℕ, zero, suc, ◌+◌, ◌%◌, ◌<◌, ◌≤◌, List, [], ◌∷◌, ◌++◌, length, get_or, set, Some, Bool, true, false, refl, sym, ap, ◌∙◌, subst, inl, inr, arith, length-append}
use Rattle.std.specs.Prelude.{slice_get, nat_eq, bytes_eq, ◌&&◌, ◌⊎◌, if◌then◌else◌}
use Rattle.std.specs.Option.{option_map_or}
use Rattle.std.proofs.lemmas.Bool.{cases_Bool, and_parts, eqb-true, eqb-false, eq-eqb, ne_eqb}
use Rattle.std.proofs.lemmas.Option.{same_Some}
use Rattle.std.proofs.lemmas.List.{get_or-set_same, get_or-set_other, length-set}
use Rattle.std.proofs.lemmas.Slice.Eq.{bytes_eq-Decides}
use Rattle.tk_types.specs.declared.scenario.Kind.{Kind}
use Rattle.tk_journal.specs.declared.entry.Entry.{Entry}
use Rattle.tk_journal.specs.Effects.{name_of, kind_of, same_kind, writes}
use Rattle.tk_journal.specs.History.{creates, version_of}
use Rattle.tk_journal.specs.Journal.{entry_at}
use Rattle.tk_store.specs.declared.index.Link.{Link}
use Rattle.tk_store.specs.declared.index.Index.{Index}
use Rattle.tk_store.specs.Index.{hash_of, is_of, walk, AreLinks, AreFound, IsIndex, made_of, version_in, head_of, number_of}
use Rattle.tk_store.specs.Writes.{made_at}
use Rattle.tk_store.proofs.Creates.{same_kind_is, creates_kind, creates_create}
use Rattle.tk_store.proofs.Walks.{get_left, get_last, enough, added, walk_within}

get_cases : {X : Type 0} (xs : List X) (y : X) (i : ℕ) (x : X) → slice_get (xs ++ y ∷ []) i ≡ Some x → (slice_get xs i ≡ Some x) ⊎ ((i ≡ length xs) × (y ≡ x))
get_cases [] y zero x is = inr (refl, same_Some y x is)
get_cases [] y (suc i) x is = cc
get_cases (z ∷ zs) y zero x is = inl is
get_cases (z ∷ zs) y (suc i) x is = elim (get_cases zs y i x is) [
  | inl there ↦ inl there
  | inr last ↦ inr (omega (arith, last.0), last.1)
]

-- the entries of a history stay where they are
pub entry_older : (e : Entry) (history : List Entry) (position : ℕ) → position ≤ length history → entry_at position (e ∷ history) ≡ entry_at position history
entry_older e history position le = rw (ne_eqb position (suc (length history)) (λ same. omega (arith, le, same))) refl

entry_first : (e : Entry) (history : List Entry) → entry_at (suc (length history)) (e ∷ history) ≡ Some e
entry_first e history = rw (eq-eqb (suc (length history)) (suc (length history)) refl) refl

module _ (history : List Entry) (heads : List ℕ) (links : List Link) (versions : List ℕ) (e : Entry)
    (some : 0 < length heads) (paired : length versions ≡ length links) (few : (place : ℕ) → get_or heads place 0 ≤ length links)
    (right : AreLinks history links) (found : AreFound history heads links versions) (makes : creates (kind_of e.act) e.act ≡ true) where
  abbrev place_of : List ℕ → ℕ
  place_of name = hash_of name % length heads

  abbrev link : Link
  link = record { made = suc (length history); next = get_or heads (place_of (name_of e.act)) 0 }

  abbrev links_after : List Link
  links_after = links ++ link ∷ []

  abbrev versions_after : List ℕ
  versions_after = versions ++ suc (length history) ∷ []

  abbrev heads_after : List ℕ
  heads_after = set heads (place_of (name_of e.act)) (suc (length links))

  links_right : AreLinks (e ∷ history) links_after
  links_right = record {
    older = λ place l is. elim (get_cases links link place l is) [
      | inl there ↦ right.older place l there
      | inr last ↦ let next = few (place_of (name_of e.act)) in subst (λ (x : Link). x.next ≤ place) last.1 (omega (arith, next, last.0))
    ];
    from_one = λ place l is. elim (get_cases links link place l is) [
      | inl there ↦ right.from_one place l there
      | inr last ↦ subst (λ (x : Link). 0 < x.made) last.1 (omega arith)
    ];
    within = λ place l is. elim (get_cases links link place l is) [
      | inl there ↦ let before = right.within place l there in omega (arith, before)
      | inr last ↦ subst (λ (x : Link). x.made ≤ suc (length history)) last.1 (omega arith)
    ];
  }

  module _ (kind : Kind) (name : List ℕ) where
    abbrev test : Link → Bool
    test = is_of history kind name

    abbrev test_after : Link → Bool
    test_after = is_of (e ∷ history) kind name

    same : (place : ℕ) (l : Link) → slice_get links place ≡ Some l → test_after l ≡ test l
    same place l is = ap (λ o. option_map_or (writes kind name) o false) (entry_older e history l.made (right.within place l is))

    own : test_after link ≡ writes kind name e
    own = ap (λ o. option_map_or (writes kind name) o false) (entry_first e history)

    -- a chain as it was finds what it found
    still : (more at : ℕ) → at ≤ length links → walk test_after links_after more at ≡ walk test links more at
    still more at le = added test test_after links link right.older same more at le

    number : ℕ
    number = number_of history heads links kind name

    made_still : (at : ℕ) → at ≤ length links → made_of links_after at ≡ made_of links at
    made_still zero le = refl
    made_still (suc place) le = ap (λ o. option_map_or (λ (l : Link). l.made) o 0) (get_left links link place (omega (arith, le)))

    version_still : (at : ℕ) → at ≤ length links → version_in versions_after at ≡ version_in versions at
    version_still zero le = refl
    version_still (suc place) le = ap (λ o. option_map_or (λ (v : ℕ). v) o 0) (get_left versions (suc (length history)) place (omega (arith, le, paired)))

    made_older : writes kind name e ≡ false → made_at kind name (e ∷ history) ≡ made_at kind name history
    made_older miss = elim (cases_Bool (creates kind e.act && bytes_eq (name_of e.act) name)) [
      | inl hit ↦
          let parts = and_parts (creates kind e.act) (bytes_eq (name_of e.act) name) hit in
          let kinds_same = creates_kind kind e.act parts.0 in
          absurd (let both : writes kind name e ≡ true = rw (kinds_same, parts.1) refl in cc)
      | inr other ↦ rw other refl
    ]

    version_older : writes kind name e ≡ false → version_of kind name (e ∷ history) ≡ version_of kind name history
    version_older miss = rw miss refl

    abbrev IsFoundBy : ℕ → Type 0
    IsFoundBy at = (made_of links_after at ≡ made_at kind name (e ∷ history)) × (version_in versions_after at ≡ version_of kind name (e ∷ history))

    -- an object of another name or kind
    others : writes kind name e ≡ false → IsFoundBy (walk test links (length links) (head_of heads name))
    others miss =
        let within = walk_within test links (length links) (head_of heads name) in
        let was = found kind name in (
          made_still (walk test links (length links) (head_of heads name)) within ∙ was.0 ∙ sym (made_older miss),
          version_still (walk test links (length links) (head_of heads name)) within ∙ was.1 ∙ sym (version_older miss),
        )

    -- the object that the entry makes
    itself : writes kind name e ≡ true → IsFoundBy (suc (length links))
    itself hit =
        let parts = and_parts (same_kind kind (kind_of e.act)) (bytes_eq (name_of e.act) name) hit in
        let is : kind ≡ kind_of e.act = same_kind_is kind (kind_of e.act) parts.0 in
        let made : creates kind e.act ≡ true = subst (λ (k : Kind). creates k e.act ≡ true) (sym is) makes in
        let create = creates_create kind e.act made in (
          ap (λ o. option_map_or (λ (l : Link). l.made) o 0) (get_last links link) ∙ sym (rw (made, parts.1) refl),
          ap (λ o. option_map_or (λ (v : ℕ). v) o 0) (ap (slice_get versions_after) (sym paired) ∙ get_last versions (suc (length history))) ∙ sym (rw (hit, create) refl),
        )

    long : length links_after ≡ suc (length links)
    long = length-append links (link ∷ []) ∙ omega arith

    at_head : (head : ℕ) → IsFoundBy (walk test_after links_after (suc (length links)) head) → head_of heads_after name ≡ head → IsFoundBy (number_of (e ∷ history) heads_after links_after kind name)
    at_head head is same_head = subst (λ (n : ℕ). IsFoundBy (walk test_after links_after n (head_of heads_after name))) (sym long) (subst (λ (h : ℕ). IsFoundBy (walk test_after links_after (suc (length links)) h)) (sym same_head) is)

    head_at : head_of heads_after name ≡ get_or heads_after (place_of name) 0
    head_at = ap (λ (n : ℕ). get_or heads_after (hash_of name % n) 0) (length-set heads (place_of (name_of e.act)) (suc (length links)))

    first_link : walk test_after links_after (suc (length links)) (suc (length links)) ≡ (if test_after link then suc (length links) else walk test_after links_after (length links) link.next)
    first_link = ap (λ o. option_map_or (λ (l : Link). if test_after l then suc (length links) else walk test_after links_after (length links) l.next) o 0) (get_last links link)

    -- the entry's own chain begins with the new link
    own_chain : place_of name ≡ place_of (name_of e.act) → IsFoundBy (walk test_after links_after (suc (length links)) (suc (length links)))
    own_chain at = elim (cases_Bool (writes kind name e)) [
      | inl hit ↦ subst IsFoundBy (sym (first_link ∙ ap (λ (b : Bool). if b then suc (length links) else walk test_after links_after (length links) link.next) (own ∙ hit))) (itself hit)
      | inr miss ↦
          let rest : walk test_after links_after (suc (length links)) (suc (length links)) ≡ walk test links (length links) (head_of heads name) =
          first_link ∙ ap (λ (b : Bool). if b then suc (length links) else walk test_after links_after (length links) link.next) (own ∙ miss)
          ∙ still (length links) link.next (few (place_of (name_of e.act)))
          ∙ ap (λ (p : ℕ). walk test links (length links) (get_or heads p 0)) (sym at) in
          subst IsFoundBy (sym rest) (others miss)
    ]

    -- the other chains are as they were
    other_chain : (place_of name ≡ place_of (name_of e.act) → ⊥) → IsFoundBy (walk test_after links_after (suc (length links)) (get_or heads (place_of name) 0))
    other_chain apart = elim (cases_Bool (writes kind name e)) [
      | inl hit ↦
          let parts = and_parts (same_kind kind (kind_of e.act)) (bytes_eq (name_of e.act) name) hit in
          absurd (apart (ap place_of (sym ((bytes_eq-Decides (name_of e.act) name).0 parts.1))))
      | inr miss ↦
          let rest : walk test_after links_after (suc (length links)) (get_or heads (place_of name) 0) ≡ walk test links (length links) (head_of heads name) =
          still (suc (length links)) (get_or heads (place_of name) 0) (few (place_of name)) ∙ enough test links right.older (length links) (get_or heads (place_of name) 0) (few (place_of name)) in
          subst IsFoundBy (sym rest) (others miss)
    ]

    found_after : place_of (name_of e.act) < length heads → IsFoundBy (number_of (e ∷ history) heads_after links_after kind name)
    found_after less = elim (cases_Bool (nat_eq (place_of name) (place_of (name_of e.act)))) [
      | inl hit ↦
          let at = eqb-true (place_of name) (place_of (name_of e.act)) hit in
          at_head (suc (length links)) (own_chain at) (head_at ∙ ap (λ (p : ℕ). get_or heads_after p 0) at ∙ get_or-set_same heads (place_of (name_of e.act)) (suc (length links)) 0 less)
      | inr miss ↦
          let apart = eqb-false (place_of name) (place_of (name_of e.act)) miss in
          at_head (get_or heads (place_of name) 0) (other_chain apart) (head_at ∙ get_or-set_other heads (place_of (name_of e.act)) (place_of name) (suc (length links)) 0 apart)
    ]

  -- the heads point at links
  few_after : place_of (name_of e.act) < length heads → (place : ℕ) → get_or heads_after place 0 ≤ length links_after
  few_after less place = elim (cases_Bool (nat_eq place (place_of (name_of e.act)))) [
    | inl hit ↦
        let at = eqb-true place (place_of (name_of e.act)) hit in
        let here : get_or heads_after place 0 ≡ suc (length links) = ap (λ (p : ℕ). get_or heads_after p 0) at ∙ get_or-set_same heads (place_of (name_of e.act)) (suc (length links)) 0 less in
        let grown : length links_after ≡ suc (length links) = length-append links (link ∷ []) ∙ omega arith in
        omega (arith, here, grown)
    | inr miss ↦
        let apart = eqb-false place (place_of (name_of e.act)) miss in
        let there : get_or heads_after place 0 ≡ get_or heads place 0 = get_or-set_other heads (place_of (name_of e.act)) place (suc (length links)) 0 apart in
        let before = few place in
        let grown : length links_after ≡ suc (length links) = length-append links (link ∷ []) ∙ omega arith in
        omega (arith, there, before, grown)
  ]

  pub index_after : place_of (name_of e.act) < length heads → (new : Index) → new.heads.items ≡ heads_after → new.links.items ≡ links_after → new.versions.items ≡ versions_after → IsIndex (e ∷ history) new
  index_after less new hs ls vs = record {
    some = let same = ap length hs ∙ length-set heads (place_of (name_of e.act)) (suc (length links)) in omega (arith, same, some);
    paired = ap length vs ∙ length-append versions (suc (length history) ∷ []) ∙ ap (λ n. n + 1) paired ∙ sym (length-append links (link ∷ [])) ∙ ap length (sym ls);
    heads = subst (λ (xs : List ℕ). (place : ℕ) → get_or xs place 0 ≤ length new.links.items) (sym hs) (subst (λ (xs : List Link). (place : ℕ) → get_or heads_after place 0 ≤ length xs) (sym ls) (few_after less));
    links = subst (AreLinks (e ∷ history)) (sym ls) links_right;
    found = subst (λ (xs : List ℕ). AreFound (e ∷ history) xs new.links.items new.versions.items) (sym hs)
        (subst (λ (xs : List Link). AreFound (e ∷ history) heads_after xs new.versions.items) (sym ls)
        (subst (λ (xs : List ℕ). AreFound (e ∷ history) heads_after links_after xs) (sym vs) (λ kind name. found_after kind name less)));
  }

pub same_default : (xs : List ℕ) (i a b : ℕ) → i < length xs → get_or xs i a ≡ get_or xs i b
same_default [] i a b less = absurd (omega (arith, less))
same_default (x ∷ xs) zero a b less = refl
same_default (x ∷ xs) (suc i) a b less = same_default xs i a b (omega (arith, less))

-- the same, with what a body computed
pub index_added : (history : List Entry) (index : Index) (e : Entry) → IsIndex history index → creates (kind_of e.act) e.act ≡ true → (new : Index) (place made next last : ℕ)
    → place ≡ hash_of (name_of e.act) % length index.heads.items → place < length index.heads.items → made ≡ suc (length history) → next ≡ get_or index.heads.items place next → last ≡ suc (length index.links.items)
    → new.heads.items ≡ set index.heads.items place last → new.links.items ≡ index.links.items ++ record { made = made; next = next } ∷ [] → new.versions.items ≡ index.versions.items ++ made ∷ [] → IsIndex (e ∷ history) new
index_added history index e right makes new place made next last at less made_is next_is last_is hs ls vs =
    index_after history index.heads.items index.links.items index.versions.items e right.some right.paired right.heads right.links right.found makes
    (subst (λ (p : ℕ). p < length index.heads.items) at less) new
    (hs ∙ ap (λ (p : ℕ). set index.heads.items p last) at ∙ ap (λ (l : ℕ). set index.heads.items (hash_of (name_of e.act) % length index.heads.items) l) last_is)
    (ls ∙ ap (λ (m : ℕ). index.links.items ++ record { made = m; next = next } ∷ []) made_is ∙ ap (λ (n : ℕ). index.links.items ++ record { made = suc (length history); next = n } ∷ []) (next_is ∙ same_default index.heads.items place next 0 less ∙ ap (λ (p : ℕ). get_or index.heads.items p 0) at))
    (vs ∙ ap (λ (m : ℕ). index.versions.items ++ m ∷ []) made_is)
