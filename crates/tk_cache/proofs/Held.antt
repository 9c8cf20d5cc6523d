-- What a map holds once an object was added, or changed in place.
use Rattle.std.proofs.Common.{◌≡◌, ℕ, List, [], ◌∷◌, ◌++◌, map, Option, Some, None, false, refl, sym, ap, ◌∙◌, subst, inl, inr}
use Rattle.std.specs.Prelude.{bytes_eq, option_map, string_bytes, if◌then◌else◌}
use Rattle.std.proofs.lemmas.Bool.{cases_Bool}
use Rattle.std.proofs.lemmas.List.{map-append}
use Rattle.std.proofs.lemmas.Slice.Eq.{bytes_eq-Decides}
use Rattle.std.specs.declared.string.String.{String}
use Rattle.std.specs.Map.{keys_of}
use Rattle.std.specs.String.{string_eq}
use Rattle.indexmap.specs.IndexMap.{IndexMap, get, insert_entry, keys}
use Rattle.indexmap.proofs.CallerLemmas.{insert_entry-new}
use Rattle.tk_types.specs.declared.scenario.Kind.{Kind}
use Rattle.tk_journal.specs.declared.entry.Entry.{Entry}
use Rattle.tk_journal.specs.Effects.{name_of}
use Rattle.tk_journal.specs.History.{creates}
use Rattle.tk_journal.specs.Made.{MakesOrChanges}
use Rattle.tk_cache.specs.declared.objects.Held.{Held}
use Rattle.tk_cache.specs.Objects.{held_at, object_at, names_in, held_after}

module _ {A T S : Type 0} (m n : IndexMap (String A) (Held T) S) where
  pub named_last : (key : String A) (name : List ℕ) (h : Held T) → string_bytes key ≡ name → held_at m name ≡ None → n.entries ≡ insert_entry string_eq m.entries key h → names_in n ≡ names_in m ++ name ∷ []
  named_last key name h is none entries =
      let absent : get string_eq m key ≡ None = subst (λ (bs : List ℕ). held_at m bs ≡ None) (sym is) none in
      ap (λ es. map string_bytes (keys_of es)) (entries ∙ insert_entry-new string_eq m key h absent)
      ∙ ap (map string_bytes) (map-append (λ (e : String A × Held T). e.0) m.entries ((key, h) ∷ []))
      ∙ map-append string_bytes (keys m) (key ∷ [])
      ∙ ap (λ (bs : List ℕ). names_in m ++ bs ∷ []) is

  module _ (kind : Kind) (e : Entry) (position : ℕ) (after : T → T) (made : Option T) (bs : List ℕ) (h w : Held T) (is : bs ≡ name_of e.act) (there : held_at m bs ≡ Some h) where
    pub held_written : w ≡ record { object = after h.object; version = position } → ((cs : List ℕ) → held_at n cs ≡ (if bytes_eq bs cs then Some w else held_at m cs))
        → (name : List ℕ) → held_at n name ≡ (if bytes_eq (name_of e.act) name then held_after position after made (held_at m name) else held_at m name)
    held_written same at name = subst (λ (own : List ℕ). held_at n name ≡ (if bytes_eq own name then held_after position after made (held_at m name) else held_at m name)) is
        (elim (cases_Bool (bytes_eq bs name)) [
          | inl hit ↦
              let own : bs ≡ name = (bytes_eq-Decides bs name).0 hit in
              let found : held_at m name ≡ Some h = subst (λ (x : List ℕ). held_at m x ≡ Some h) own there in
              at name ∙ rw hit (ap Some same ∙ sym (ap (held_after position after made) found))
          | inr miss ↦ at name ∙ rw miss refl
        ])

    pub names_kept : MakesOrChanges kind e made (object_at m (name_of e.act)) → keys n ≡ keys m → names_in n ≡ (if creates kind e.act then names_in m ++ name_of e.act ∷ [] else names_in m)
    names_kept fits same =
        let found : object_at m (name_of e.act) ≡ Some h.object = ap (option_map (λ (x : Held T). x.object)) (subst (λ (x : List ℕ). held_at m x ≡ Some h) is there) in
        let none : creates kind e.act ≡ false = subst (λ (o : Option T). MakesOrChanges kind e made o) found fits in
        ap (map string_bytes) same ∙ sym (rw none refl)

  pub held_added : (e : Entry) (position : ℕ) (after : T → T) (made : Option T) (bs : List ℕ) (x : T) → bs ≡ name_of e.act → held_at m bs ≡ None → made ≡ Some x
      → ((cs : List ℕ) → held_at n cs ≡ (if bytes_eq bs cs then Some record { object = x; version = position } else held_at m cs))
      → (name : List ℕ) → held_at n name ≡ (if bytes_eq (name_of e.act) name then held_after position after made (held_at m name) else held_at m name)
  held_added e position after made bs x is none there at name = subst (λ (own : List ℕ). held_at n name ≡ (if bytes_eq own name then held_after position after made (held_at m name) else held_at m name)) is
      (elim (cases_Bool (bytes_eq bs name)) [
        | inl hit ↦
            let own : bs ≡ name = (bytes_eq-Decides bs name).0 hit in
            let gone : held_at m name ≡ None = subst (λ (y : List ℕ). held_at m y ≡ None) own none in
            let new : held_after position after made (held_at m name) ≡ Some record { object = x; version = position } =
            ap (held_after position after made) gone ∙ ap (option_map (λ object. record { object = object; version = position })) there in
            at name ∙ rw hit (sym new)
        | inr miss ↦ at name ∙ rw miss refl
      ])
