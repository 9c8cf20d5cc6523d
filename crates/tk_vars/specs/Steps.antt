-- What the scanner's own steps compute.
use Rattle.std.specs.Prelude.{◌≡◌, ℕ, ◌-◌, ◌<◌, Bool, true, false, ◌||◌, ◌&&◌, not, ◌==◌, nat_le, List, [], ◌∷◌, ◌++◌, length, take, drop, Option, codes, bytes_eq, nat_eq, slice_index}
use Rattle.std.specs.List.{list_any, list_all, starts_with}
use Rattle.std.specs.Option.{option_map_or}
use Rattle.std.specs.Char.{is_ascii_digit}
use Rattle.tk_vars.specs.declared.part.Part.{Part}
use Rattle.tk_vars.specs.declared.piece.Piece.{Piece}
use Rattle.tk_vars.specs.declared.piece.Piece.TheVariants.{Plain}
use Rattle.tk_vars.specs.declared.reference.Reference.{Reference}
use Rattle.tk_vars.specs.Grammar.{Slot, parts, forms, is_name_byte, is_quoted_byte, slots_spellings, is_reference}
use Rattle.tk_vars.specs.Reading.{parts_from, reference_at, ends_with_star}
use denote.Ref.{Bor}

-- a byte that goes on with a name behind a dot, one inside a bracket, and one inside a reference
abbrev pub in_name : ℕ → Bool
in_name c = not (c == 46 || c == 91)

abbrev pub in_bracket : ℕ → Bool
in_bracket c = not (c == 93)

abbrev pub in_reference : ℕ → Bool
in_reference c = not (c == 41)

-- the text is empty, or begins with a byte that fails the test
abbrev pub StopsAt : (ℕ → Bool) → List ℕ → Type 0
StopsAt p [] = Unit {0}
StopsAt p (b ∷ bs) = p b ≡ false

-- the text is a front whose bytes pass the test, and a rest that goes on with none
pub record SplitsAt (p : ℕ → Bool) (text front rest : List ℕ) : Type 0 where
  pub text_is : text ≡ front ++ rest
  pub within : list_all p front ≡ true
  pub stops : StopsAt p rest

-- the text begins with a dot, then comes the name up to the next part, then the rest
pub record IsDotted (tail name rest : List ℕ) : Type 0 where
  pub text_is : tail ≡ 46 ∷ name ++ rest
  pub within : list_all in_name name ≡ true
  pub stops : StopsAt in_name rest

-- the text begins with a bracket with this inside, then comes the rest
pub record IsBracketed (tail inner rest : List ℕ) : Type 0 where
  pub text_is : tail ≡ 91 ∷ inner ++ 93 ∷ rest
  pub within : list_all in_bracket inner ≡ true

-- the text begins as a part does
abbrev pub opens : List ℕ → Bool
opens [] = false
opens (b ∷ bs) = b == 46 || b == 91

-- the text begins with this byte, a dot, a bracket that ends
abbrev pub begins_with : ℕ → List ℕ → Bool
begins_with byte [] = false
begins_with byte (b ∷ bs) = b == byte

abbrev pub begins_dotted : List ℕ → Bool
begins_dotted text = begins_with 46 text

abbrev pub begins_bracketed : List ℕ → Bool
begins_bracketed [] = false
begins_bracketed (b ∷ bs) = b == 91 && not (list_all in_bracket bs)

-- a name behind a dot
abbrev pub is_name : List ℕ → Bool
is_name text = not (length text == 0) && list_all is_name_byte text

-- `0`, or one to nine digits without a leading zero
abbrev pub is_index : List ℕ → Bool
is_index inner = bytes_eq inner (codes "0") || (not (length inner == 0) && not (slice_index inner 0 == 48) && nat_le (length inner) 9 && list_all is_ascii_digit inner)

-- a name of at least one byte between two quotes of one kind
abbrev pub is_between : ℕ → List ℕ → Bool
is_between quote inner =
    let middle = take (length inner - 2) (drop 1 inner) in
    bytes_eq inner (quote ∷ middle ++ quote ∷ []) && not (length middle == 0) && list_all is_quoted_byte middle

abbrev pub is_in_quotes : List ℕ → Bool
is_in_quotes inner = is_between 39 inner || is_between 34 inner

-- what stands in brackets as a part, and as a selector
abbrev pub is_choice : List ℕ → Bool
is_choice inner = bytes_eq inner (codes "*") || is_index inner

abbrev pub is_inside : List ℕ → Bool
is_inside inner = is_choice inner || is_in_quotes inner

-- these slots allow the text
abbrev pub is_tail : List Slot → List ℕ → Bool
is_tail slots tail = list_any (bytes_eq tail) (slots_spellings slots (parts_from 0 tail))

-- the rest is there, and these slots allow it
abbrev pub is_rest_of : List Slot → Option (Bor (List ℕ)) → Bool
is_rest_of slots rest = option_map_or (λ (r : Bor (List ℕ)). is_tail slots r.now) rest false

-- the table allows the head with this text behind it
abbrev pub is_allowed : List ℕ → List ℕ → Bool
is_allowed head tail = list_any (λ (form : List ℕ × List Slot). bytes_eq head form.0 && is_tail form.1 tail) forms

-- a reference stands at the beginning of the text; one that ends with `[*]` only where it is the whole text, and that one is at the beginning
abbrev pub stands_first : Bool → List ℕ → Bool
stands_first is_first text =
    let reference = reference_at text in
    (starts_with nat_eq text reference.spelling && is_reference reference) && (not (ends_with_star reference.parts) || (is_first && bytes_eq reference.spelling text))

-- the parts of the text are this one and those of the rest, which are parts too
pub record IsFirstPart (tail : List ℕ) (first : Part) (rest : List ℕ) : Type 0 where
  pub parsed : parts_from 0 tail ≡ first ∷ parts_from 0 rest
  pub allowed : is_tail (parts ∷ []) rest ≡ true
  pub shorter : length rest < length tail

-- this reference is the one that stands at the beginning of the text, and what follows it is the rest
pub record IsFirstReference (is_first : Bool) (text : List ℕ) (first : Reference) (rest : List ℕ) : Type 0 where
  pub stands : stands_first is_first text ≡ true
  pub first_is : first ≡ reference_at text
  pub text_is : text ≡ first.spelling ++ rest

-- the text as a plain piece, where it is there
abbrev pub plain_pieces : List ℕ → List Piece
plain_pieces [] = []
plain_pieces (b ∷ bs) = Plain (b ∷ bs) ∷ []

-- the text is a front without this byte, then the byte, then a rest
pub record IsSplitAt (byte : ℕ) (text front rest : List ℕ) : Type 0 where
  pub text_is : text ≡ front ++ byte ∷ rest
  pub other : list_all (λ b. not (b == byte)) front ≡ true

-- the text ends with this rest
abbrev pub EndsWith : List ℕ → List ℕ → Type 0
EndsWith text rest = (front : List ℕ) × (text ≡ front ++ rest)
