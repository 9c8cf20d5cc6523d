-- What a text says: plain pieces and references.
use Rattle.std.specs.Prelude.{◌≡◌, ℕ, zero, suc, ◌+◌, ◌-◌, ◌*◌, ◌<◌, Bool, true, false, ◌||◌, not, if◌then◌else◌, ◌==◌, nat_le, List, [], ◌∷◌, ◌++◌, length, take, drop, codes, bytes_eq, flat_map, fold, take_while, IsTrue, nat_eq}
use Rattle.std.specs.List.{list_any, list_all, starts_with}
use Rattle.std.specs.Char.{is_ascii_alphabetic}
use Rattle.std.specs.Str.{all_ascii_digits}
use Rattle.tk_vars.specs.declared.part.Part.{Part}
use Rattle.tk_vars.specs.declared.part.Part.TheVariants.{Name, Index, Star}
use Rattle.tk_vars.specs.declared.reference.Reference.{Reference}
use Rattle.tk_vars.specs.declared.piece.Piece.{Piece}
use Rattle.tk_vars.specs.declared.piece.Piece.TheVariants.{Plain, Ref}
use Rattle.tk_vars.specs.Grammar.{must_stand, is_reference}

-- the bytes of a piece
abbrev pub spelling_of : Piece → List ℕ
spelling_of (Plain word) = word
spelling_of (Ref reference) = reference.spelling

-- a reference must stand somewhere in the text
abbrev pub must_stand_within : List ℕ → Bool
must_stand_within [] = false
must_stand_within (b ∷ bs) = must_stand (b ∷ bs) || must_stand_within bs

-- a plain piece isn't empty and holds no place of a reference; a reference is one of the table
abbrev pub is_piece : Piece → Bool
is_piece (Plain []) = false
is_piece (Plain (b ∷ bs)) = not (must_stand_within (b ∷ bs))
is_piece (Ref reference) = is_reference reference

-- no two plain pieces stand side by side
abbrev pub plain_apart : List Piece → Bool
plain_apart (Plain v ∷ Plain w ∷ pieces) = false
plain_apart (p ∷ pieces) = plain_apart pieces
plain_apart [] = true

-- the last part is `[*]`
abbrev pub ends_with_star : List Part → Bool
ends_with_star [] = false
ends_with_star (Star ∷ []) = true
ends_with_star (p ∷ ps) = ends_with_star ps

-- the part is `[*]`
abbrev pub is_star_part : Part → Bool
is_star_part Star = true
is_star_part part = false

-- the piece is a reference that ends with `[*]`
abbrev pub is_star : Piece → Bool
is_star (Plain word) = false
is_star (Ref reference) = ends_with_star reference.parts

-- a reference that ends with `[*]` is the only piece
abbrev pub star_alone : List Piece → Bool
star_alone pieces = not (list_any is_star pieces) || nat_le (length pieces) 1

-- the text reads as these pieces
pub record Reads (text : List ℕ) (pieces : List Piece) : Type 0 where
  pub joined : flat_map spelling_of pieces ≡ text
  pub allowed : IsTrue (list_all is_piece pieces)
  pub apart : IsTrue (plain_apart pieces)
  pub alone : IsTrue (star_alone pieces)

-- a reference stands at the offset
pub record StandsAt (text : List ℕ) (offset : ℕ) (reference : Reference) : Type 0 where
  pub there : IsTrue (starts_with nat_eq (drop offset text) reference.spelling)
  pub allowed : IsTrue (is_reference reference)
  pub alone : IsTrue (ends_with_star reference.parts) → reference.spelling ≡ text

-- the least offset at which a reference must stand and none does
pub record IsBadOffset (text : List ℕ) (offset : ℕ) : Type 0 where
  pub due : IsTrue (must_stand (drop offset text))
  pub none : (reference : Reference) → ¬ StandsAt text offset reference
  pub least : (o : ℕ) → o < offset → IsTrue (must_stand (drop o text)) → (reference : Reference) × StandsAt text o reference

-- The one reading, where there is one. The other definitions compute with it.

-- the number that digits write
abbrev pub number_of : List ℕ → ℕ
number_of digits = fold (λ n d. n * 10 + (d - 48)) 0 digits

-- the part that stands in brackets as `*`, as digits, or as a name in quotes
abbrev pub bracketed : List ℕ → Part
bracketed inner = if bytes_eq inner (codes "*") then Star else if all_ascii_digits inner then Index (number_of inner) else Name (take (length inner - 2) (drop 1 inner))

-- the part that begins with this byte, and how many bytes come after that one
abbrev pub part_at : ℕ → List ℕ → Part × ℕ
part_at b rest =
    let named = take_while (λ c. not (c == 46 || c == 91)) rest in
    let inner = take_while (λ c. not (c == 93)) rest in
    if b == 91 then (bracketed inner, length inner + 1) else (Name named, length named)

-- the parts of a text without its first bytes
abbrev pub parts_from : ℕ → List ℕ → List Part
parts_from skip [] = []
parts_from (suc skip) (b ∷ bs) = parts_from skip bs
parts_from zero (b ∷ bs) = let next = part_at b bs in next.0 ∷ parts_from next.1 bs

-- the reference with this text between `$(` and `)`
abbrev pub reference_of : List ℕ → Reference
reference_of inner =
    let head = take_while is_ascii_alphabetic inner in
    record { spelling = codes "$(" ++ inner ++ codes ")"; parts = Name head ∷ parts_from 0 (drop (length head) inner) }

-- the reference that a text begins with, up to the first `)`
abbrev pub reference_at : List ℕ → Reference
reference_at text = reference_of (take_while (λ c. not (c == 41)) (drop 2 text))

-- a byte in front of the pieces
abbrev pub with_byte : ℕ → List Piece → List Piece
with_byte b (Plain word ∷ pieces) = Plain (b ∷ word) ∷ pieces
with_byte b pieces = Plain (b ∷ []) ∷ pieces

-- the pieces of a text without its first bytes
abbrev pub pieces_from : ℕ → List ℕ → List Piece
pieces_from skip [] = []
pieces_from (suc skip) (b ∷ bs) = pieces_from skip bs
pieces_from zero (b ∷ bs) =
    elim (must_stand (b ∷ bs)) [
      | true ↦ let reference = reference_at (b ∷ bs) in Ref reference ∷ pieces_from (length reference.spelling - 1) bs
      | false ↦ with_byte b (pieces_from 0 bs)
    ]

-- the pieces of a text
abbrev pub pieces_of : List ℕ → List Piece
pieces_of text = pieces_from 0 text

-- the text has a reading
abbrev pub HasReading : List ℕ → Type 0
HasReading text = Reads text (pieces_of text)
