-- Notes say all that the entries say.
use Rattle.std.proofs.Common.{◌≡◌, List, [], ◌∷◌, ◌++◌, length, map, reverse, refl, sym, ap, ◌∙◌}
use Rattle.std.proofs.lemmas.List.{map-append, length-map, length-reverse, reverse-append, reverse-reverse}
use Rattle.tk_turn.specs.Claims.{Note}
use Rattle.tk_journal.specs.declared.entry.Entry.{Entry}
use Rattle.tk_journal.specs.contracts.entry.Entry.{the_row}
use Rattle.tk_store.specs.Notes.{note_of, notes_of}

note_inj : (e f : Entry) → note_of e ≡ note_of f → e ≡ f
note_inj e f same = the_row.coded.inj e f (ap (λ (n : Note). n.body) same)

-- notes that begin with those of a list are of that list and more
begin : (list longer : List Entry) (rest : List Note) → map note_of longer ≡ map note_of list ++ rest → (more : List Entry) × (longer ≡ list ++ more) × (map note_of more ≡ rest)
begin [] longer rest is = (longer, refl, is)
begin (e ∷ list) [] rest is = absurd (cc)
begin (e ∷ list) (f ∷ longer) rest is =
    let head : note_of f ≡ note_of e = cc in
    let tail : map note_of longer ≡ map note_of list ++ rest = cc in
    let more = begin list longer rest tail in
    (more.0, (λ i. note_inj f e head i ∷ more.1 i), more.2)

pub notes_added : (new history : List Entry) → notes_of (new ++ history) ≡ notes_of history ++ notes_of new
notes_added new history = ap (map note_of) (reverse-append new history) ∙ map-append note_of (reverse history) (reverse new)

pub notes_grown : (history after : List Entry) (rest : List Note) → notes_of after ≡ notes_of history ++ rest → (new : List Entry) × (after ≡ new ++ history) × (notes_of new ≡ rest)
notes_grown history after rest is =
    let more = begin (reverse history) (reverse after) rest is in (
      reverse more.0,
      sym (reverse-reverse after) ∙ (ap reverse more.1 ∙ (reverse-append (reverse history) more.0 ∙ ap (λ (h : List Entry). reverse more.0 ++ h) (reverse-reverse history))),
      ap (map note_of) (reverse-reverse more.0) ∙ more.2,
    )

same_notes : (list other : List Entry) → map note_of list ≡ map note_of other → list ≡ other
same_notes [] [] same = refl
same_notes [] (f ∷ other) same = absurd (cc)
same_notes (e ∷ list) [] same = absurd (cc)
same_notes (e ∷ list) (f ∷ other) same =
    let head : note_of e ≡ note_of f = cc in
    let tail : map note_of list ≡ map note_of other = cc in
    λ i. note_inj e f head i ∷ same_notes list other tail i

pub notes_same : (history other : List Entry) → notes_of history ≡ notes_of other → history ≡ other
notes_same history other same =
    sym (reverse-reverse history) ∙ (ap reverse (same_notes (reverse history) (reverse other) same) ∙ reverse-reverse other)

pub length_notes : (history : List Entry) → length (notes_of history) ≡ length history
length_notes history = length-map (reverse history) note_of ∙ length-reverse history
