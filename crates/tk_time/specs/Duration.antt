-- Which texts are durations, of how many milliseconds, and how a duration is printed.
use Rattle.std.specs.Prelude.{◌≡◌, ◌≢◌, ◌≤◌, ◌⊎◌, ℕ, zero, suc, ◌+◌, ◌-◌, ◌*◌, ◌/◌, ◌%◌, ◌==◌, Bool, true, nat_le, ◌&&◌, if◌then◌else◌, List, [], ◌∷◌, ◌++◌, length, take, drop, Option, Some, None, option_map, option_and_then, codes, decimal, bytes_eq, flat_map, find, fold, sum_by}
use Rattle.std.specs.List.{prefix_len, list_all, Contains, AllByRecursion}
use Rattle.std.specs.Char.{is_ascii_digit}
use Rattle.tk_types.specs.Lists.{is_empty}

-- a unit: its name and its milliseconds
abbrev pub TimeUnit : Type 0
TimeUnit = List ℕ × ℕ

-- the four units: `ms` stands before `m`, with which it begins
abbrev pub units : List TimeUnit
units = (codes "h", 3600000) ∷ (codes "ms", 1) ∷ (codes "m", 60000) ∷ (codes "s", 1000) ∷ []

-- a year of 365 days
abbrev pub longest_duration : ℕ
longest_duration = 31536000000

-- the number that digits write
abbrev pub number_of : List ℕ → ℕ
number_of digits = fold (λ n d. n * 10 + (d - 48)) 0 digits

-- ---- the grammar
-- some digits and a unit
pub record Part : Type 0 where
  pub digits : List ℕ
  pub unit : TimeUnit

-- there are 1 to 11 digits, and the unit is one of the four
abbrev pub IsPart : Part → Type 0
IsPart p = (list_all is_ascii_digit p.digits ≡ true) × (1 ≤ length p.digits) × (length p.digits ≤ 11) × Contains units p.unit

-- its text and its milliseconds
abbrev pub part_text : Part → List ℕ
part_text p = p.digits ++ p.unit.0

abbrev pub part_millis : Part → ℕ
part_millis p = number_of p.digits * p.unit.1

-- a duration: `0`, or one or more parts, whose sum is within the limit
abbrev pub IsDuration : List ℕ → ℕ → Type 0
IsDuration text millis =
    ((text ≡ codes "0") × (millis ≡ 0))
    ⊎ ((parts : List Part) × (parts ≢ []) × AllByRecursion IsPart parts × (text ≡ flat_map part_text parts) × (millis ≡ sum_by part_millis parts) × (millis ≤ longest_duration))

-- ---- the reading of a text, which is the one of the grammar
-- the text begins with this word
abbrev pub begins_with : List ℕ → List ℕ → Bool
begins_with text word = bytes_eq word (take (length word) text)

-- the milliseconds of the unit that a text begins with, and what follows it
unfoldable pub unit_at : List ℕ → Option (ℕ × List ℕ)
unit_at text = option_map (λ (unit : TimeUnit). (unit.1, drop (length unit.0) text)) (find (λ (unit : TimeUnit). begins_with text unit.0) units)

-- the milliseconds of the part with so many digits that a text begins with, and what follows it
unfoldable pub part_with : ℕ → List ℕ → Option (ℕ × List ℕ)
part_with count text =
    if nat_le 1 count && nat_le count 11
    then option_map (λ (unit : ℕ × List ℕ). (number_of (take count text) * unit.0, unit.1)) (unit_at (drop count text))
    else None

-- the same of the part with all the digits that a text begins with
abbrev pub first_part : List ℕ → Option (ℕ × List ℕ)
first_part text = part_with (prefix_len is_ascii_digit text) text

-- the sum of all parts of a text, of which there are at most so many
unfoldable pub sum_of_parts : ℕ → List ℕ → Option ℕ
sum_of_parts most [] = Some 0
sum_of_parts zero (b ∷ bs) = None
sum_of_parts (suc most) (b ∷ bs) =
    option_and_then (λ (part : ℕ × List ℕ). option_map (λ more. part.0 + more) (sum_of_parts most part.1)) (first_part (b ∷ bs))

-- a sum, if it is within the limit
abbrev pub within_limit : ℕ → Option ℕ
within_limit millis = if nat_le millis longest_duration then Some millis else None

-- the milliseconds of a text, if it is a duration (the law `durations_by_grammar` ties it to the grammar)
abbrev pub duration_of : List ℕ → Option ℕ
duration_of text =
    if bytes_eq text (codes "0") then Some 0
    else if is_empty text then None
    else option_and_then within_limit (sum_of_parts (length text) text)

-- ---- how a duration is printed
-- a part, unless its number is 0
abbrev pub part_of : ℕ → List ℕ → List ℕ
part_of n unit = if n == 0 then [] else decimal n ++ unit

-- the parts that aren't 0, from hours to milliseconds, or `0`
abbrev pub duration_text : ℕ → List ℕ
duration_text millis =
    if millis == 0 then codes "0"
    else part_of (millis / 3600000) (codes "h") ++ part_of (millis / 60000 % 60) (codes "m") ++ part_of (millis / 1000 % 60) (codes "s") ++ part_of (millis % 1000) (codes "ms")
