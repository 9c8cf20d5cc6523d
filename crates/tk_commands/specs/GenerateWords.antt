-- The words of `generate`.
use Rattle.std.specs.Prelude.{ℕ, ◌^◌, ◌==◌, Bool, true, false, not, ◌&&◌, nat_le, nat_lt, if◌then◌else◌, List, [], ◌∷◌, Option, Some, None, option_and_then, codes, bytes_eq}
use Rattle.std.specs.List.{list_all}
use Rattle.std.specs.Char.{is_ascii_digit}
use Rattle.std.specs.Str.Parse.{digits_value}
use Rattle.tk_commands.specs.declared.generate_words.Generation.{Generation}
use Rattle.tk_commands.specs.RunWords.{is_empty}
use Rattle.tk_words.specs.declared.line.Line.{Line}
use Rattle.tk_words.specs.Line.{line_of}

-- a numeral: decimal digits, the first of several not 0
abbrev pub has_leading_zero : List ℕ → Bool
has_leading_zero (first ∷ second ∷ rest) = first == 48
has_leading_zero word = false

abbrev pub is_numeral : List ℕ → Bool
is_numeral word = not (is_empty word) && list_all is_ascii_digit word && not (has_leading_zero word)

-- the number below 2^64 that a word tells
abbrev pub numeral_told : List ℕ → Option ℕ
numeral_told word = if is_numeral word && nat_lt (digits_value 10 word) (2 ^ 64) then Some (digits_value 10 word) else None

-- a number from the least to the greatest
abbrev pub between : ℕ → ℕ → Option ℕ → Option ℕ
between least greatest None = None
between least greatest (Some number) = if nat_le least number && nat_le number greatest then Some number else None

abbrev pub told_between : ℕ → ℕ → List ℕ → Option ℕ
told_between least greatest word = between least greatest (numeral_told word)

-- NUMBER is below 2^31, and SIZE is 1 to 4,000
abbrev pub number_told : List ℕ → Option ℕ
number_told = told_between 0 2147483647

abbrev pub size_told : List ℕ → Option ℕ
size_told = told_between 1 4000

-- both numbers are there
abbrev pub generation_with : Bool → Option ℕ → Option ℕ → Option Generation
generation_with run (Some number) (Some size) = Some record { number = number; size = size; run = run }
generation_with run None size = None
generation_with run (Some number) None = None

abbrev pub generation_by : Bool → List (List ℕ) → Option Generation
generation_by run (number ∷ size ∷ []) = generation_with run (number_told number) (size_told size)
generation_by run _ = None

-- what a line of `generate` asks for
abbrev pub generation_in : Line → Option Generation
generation_in line = generation_by line.run line.others

abbrev pub generation_of : List (List ℕ) → Option Generation
generation_of words = option_and_then generation_in (line_of words)

-- the same, where the first word is that
abbrev pub generate_of : List (List ℕ) → Option (Option Generation)
generate_of [] = None
generate_of (word ∷ words) = if bytes_eq word (codes "generate") then Some (generation_of (word ∷ words)) else None
