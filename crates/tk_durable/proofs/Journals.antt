-- What the bytes at and behind the last gate of a journal stand for.
use Rattle.std.proofs.Common.{◌≡◌, ◌≢◌, inl, inr, ℕ, ◌+◌, ◌≤◌, ◌<◌, List, [], ◌∷◌, ◌++◌, length, get_or, take, drop, All, sym, ◌∙◌, ap, arith, append_assoc, length-append, take-append-drop}
use Rattle.std.proofs.lemmas.Bool.{cases_eq}
use Rattle.std.proofs.lemmas.List.{append-nil, take_at, drop_more}
use Rattle.std.proofs.lemmas.List.Elements.{All-append, All-cons, All-nil}
use Rattle.tk_disk.specs.Disk.{Only}
use Rattle.tk_journal.specs.declared.entry.Entry.{Entry}
use Rattle.tk_payload.specs.Fits.{IsEntry}
use Rattle.tk_payload.specs.Forms.{entry_text}
use Rattle.tk_durable.specs.Damage.{IsWholeAt, IsBroken, BrokenAt}
use Rattle.tk_durable.specs.Gates.{IsUntouched, HasBehind, IsAddedOrNot, IsAdded}
use Rattle.tk_durable.specs.Journal.{head, sized, blocks, end_of, HasLength, IsJournal, IsWithOrWithout, Stands}

-- the block of an entry
abbrev block : Entry → List ℕ
block e = 1 ∷ sized (entry_text e)

blocks-push : (entries : List Entry) (e : Entry) (rest : List ℕ) → blocks (entries ++ e ∷ []) ++ rest ≡ blocks entries ++ (block e ++ rest)
blocks-push [] e rest = ap (λ (l : List ℕ). l ++ rest) (append-nil (block e))
blocks-push (x ∷ entries) e rest =
    append_assoc (block x) (blocks (entries ++ e ∷ [])) rest ∙ ap (λ (l : List ℕ). block x ++ l) (blocks-push entries e rest) ∙ sym (append_assoc (block x) (blocks entries) (block e ++ rest))

-- one block more behind the others
pub file-push : (entries : List Entry) (e : Entry) (rest : List ℕ) → (head ++ blocks (entries ++ e ∷ [])) ++ rest ≡ (head ++ blocks entries) ++ (block e ++ rest)
file-push entries e rest =
    append_assoc head (blocks (entries ++ e ∷ [])) rest ∙ ap (λ (l : List ℕ). head ++ l) (blocks-push entries e rest) ∙ sym (append_assoc head (blocks entries) (block e ++ rest))

-- and one entry more of which something holds
pub All-push : (P : Entry → Type 0) (entries : List Entry) (e : Entry) → All P entries → P e → All P (entries ++ e ∷ [])
All-push P entries e each has = All-append P entries (e ∷ []) each (All-cons P e [] has (All-nil P))

pub end-push : (entries : List Entry) (e : Entry) → end_of (entries ++ e ∷ []) ≡ end_of entries + length (block e)
end-push entries e = ap length (sym (append-nil (head ++ blocks (entries ++ e ∷ []))) ∙ file-push entries e [] ∙ ap (λ (l : List ℕ). (head ++ blocks entries) ++ l) (append-nil (block e))) ∙ length-append (head ++ blocks entries) (block e)

module _ (entries : List Entry) (content : List ℕ) (images : List ℕ → Type 0) (gate : ℕ) (stands : Stands entries content images gate) where
  abbrev front : List ℕ
  front = head ++ blocks entries

  pub long : gate + 1 ≤ length content
  long = omega (arith, stands.at, ap length stands.journal.is, length-append front (stands.journal.gate ∷ stands.journal.behind))

  front_is : take gate content ≡ front
  front_is = ap (λ (l : List ℕ). take gate l) stands.journal.is ∙ take_at front (stands.journal.gate ∷ stands.journal.behind) gate (sym stands.at)

  through_gate : take (gate + 1) content ≡ front ++ stands.journal.gate ∷ []
  through_gate =
      ap (λ (l : List ℕ). take (gate + 1) l) (stands.journal.is ∙ sym (append_assoc front (stands.journal.gate ∷ []) stands.journal.behind))
      ∙ take_at (front ++ stands.journal.gate ∷ []) stands.journal.behind (gate + 1) (omega (arith, stands.at, length-append front (stands.journal.gate ∷ [])))

  -- with the gate closed, whatever follows
  pub untouched : (c : List ℕ) → IsUntouched gate content c → IsJournal entries c
  untouched c same = record {
    gate = stands.journal.gate;
    behind = drop (gate + 1) c;
    is = sym (take-append-drop (gate + 1) c) ∙ ap (λ (l : List ℕ). l ++ drop (gate + 1) c) (same ∙ through_gate) ∙ append_assoc front (stands.journal.gate ∷ []) (drop (gate + 1) c);
    closed = stands.journal.closed;
    each = stands.journal.each;
    lengths = stands.journal.lengths;
  }

  module _ (e : Entry) (is_entry : IsEntry e) (fits : HasLength e) where
    abbrev more : List Entry
    more = entries ++ e ∷ []

    -- its length, its text and a closed gate
    abbrev bytes : List ℕ
    bytes = sized (entry_text e) ++ 0 ∷ []

    opened : (c rest : List ℕ) → c ≡ front ++ (1 ∷ (bytes ++ rest)) → IsJournal more c
    opened c rest is = record {
      gate = 0;
      behind = rest;
      is = is ∙ ap (λ (l : List ℕ). front ++ (1 ∷ l)) (append_assoc (sized (entry_text e)) (0 ∷ []) rest) ∙ sym (file-push entries e (0 ∷ rest));
      closed = λ is. absurd (omega (arith, is));
      each = All-push IsEntry entries e stands.journal.each is_entry;
      lengths = All-push HasLength entries e stands.journal.lengths fits;
    }

    pub behind : (c : List ℕ) → HasBehind gate content bytes c → IsWithOrWithout entries e c
    behind c has =
        let is : c ≡ front ++ (has.value ∷ (bytes ++ has.rest)) = has.is ∙ ap (λ (l : List ℕ). l ++ (has.value ∷ (bytes ++ has.rest))) front_is in
        elim (cases_eq has.value 1) [
          | inl is_open ↦ inr (opened c has.rest (is ∙ ap (λ (v : ℕ). front ++ (v ∷ (bytes ++ has.rest))) is_open))
          | inr shut ↦ inl (record { gate = has.value; behind = bytes ++ has.rest; is = is; closed = shut; each = stands.journal.each; lengths = stands.journal.lengths })
        ]

    pub with_or_without : (c : List ℕ) → IsAddedOrNot gate content bytes c → IsWithOrWithout entries e c
    with_or_without c (inl same) = inl (untouched c same)
    with_or_without c (inr has) = behind c has

    pub added : (new : List ℕ) (after : List ℕ → Type 0) (next : ℕ) → IsAdded gate content bytes new → Only new after → next ≡ gate + length bytes → Stands more new after next
    added new after next is_added only at = record {
      journal = opened new is_added.rest (is_added.is ∙ ap (λ (l : List ℕ). l ++ (1 ∷ (bytes ++ is_added.rest))) front_is);
      at = omega (arith, at, stands.at, end-push entries e, length-append (sized (entry_text e)) (0 ∷ []));
      only = only;
    }

drop_gate : (file : List ℕ) (gate : ℕ) → gate < length file → get_or file gate 0 ≡ 1 → drop gate file ≡ 1 ∷ drop (gate + 1) file
drop_gate file gate within open_gate = drop_more file gate 0 within ∙ ap (λ (v : ℕ). v ∷ drop (gate + 1) file) open_gate

-- a whole block behind the gate is one entry more
pub step : (entries : List Entry) (file : List ℕ) (gate next : ℕ) (e : Entry) → file ≡ (head ++ blocks entries) ++ drop gate file → gate < length file → get_or file gate 0 ≡ 1 → IsWholeAt file gate e next
    → file ≡ (head ++ blocks (entries ++ e ∷ [])) ++ drop next file
step entries file gate next e read within open_gate whole =
    read ∙ ap (λ (l : List ℕ). (head ++ blocks entries) ++ l) (drop_gate file gate within open_gate ∙ ap (λ (l : List ℕ). 1 ∷ l) whole.is) ∙ sym (file-push entries e (drop next file))

pub step_at : (entries : List Entry) (e : Entry) (gate next : ℕ) → gate ≡ end_of entries → next ≡ gate + (9 + length (entry_text e)) → next ≡ end_of (entries ++ e ∷ [])
step_at entries e gate next at is = omega (arith, at, is, end-push entries e)

pub broken_at : (entries : List Entry) (file : List ℕ) (gate : ℕ) → file ≡ (head ++ blocks entries) ++ drop gate file → gate < length file → get_or file gate 0 ≡ 1 → gate ≡ end_of entries
    → All IsEntry entries → All HasLength entries → IsBroken (drop (gate + 1) file) → BrokenAt gate file
broken_at entries file gate read within open_gate at each lengths broken = record {
  entries = entries;
  tail = drop (gate + 1) file;
  is = read ∙ ap (λ (l : List ℕ). (head ++ blocks entries) ++ l) (drop_gate file gate within open_gate);
  at = at;
  each = each;
  lengths = lengths;
  broken = broken;
}

pub closed_at : (entries : List Entry) (file : List ℕ) (gate : ℕ) → file ≡ (head ++ blocks entries) ++ drop gate file → gate < length file → get_or file gate 0 ≢ 1
    → All IsEntry entries → All HasLength entries → IsJournal entries file
closed_at entries file gate read within shut each lengths = record {
  gate = get_or file gate 0;
  behind = drop (gate + 1) file;
  is = read ∙ ap (λ (l : List ℕ). (head ++ blocks entries) ++ l) (drop_more file gate 0 within);
  closed = shut;
  each = each;
  lengths = lengths;
}
