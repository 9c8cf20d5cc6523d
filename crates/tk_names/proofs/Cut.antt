-- The cut of a long text is the last place that doesn't cut a character.
use Rattle.std.proofs.Common.{◌≡◌, ℕ, zero, suc, ◌*◌, ◌++◌, take, ◌<◌, ◌≤◌, List, length, Bool, true, false, cond, refl, arith, slice_index}
use Rattle.std.proofs.lemmas.Bool.Decides.{nat_tests}
use Rattle.std.specs.Str.{IsCharBoundary, IsAscii}
use Rattle.std.specs.Prelude.{codes, nat_le}
use Rattle.std.proofs.lemmas.List.{length-append, length-take}
use Rattle.hex.specs.Hex.{encode_lower, lower_digits}
use Rattle.hex.proofs.HexLemmas.{length-encode_with}
use Rattle.md5.specs.Md5.{md5}
use Rattle.md5.proofs.StandardFacts.{length-md5}
use Rattle.tk_names.specs.Children.{goes_on, cut_place, shortened}

-- a byte that goes on with a character is no boundary, and another is one
no_boundary : (text : List ℕ) (i : ℕ) → i < length text → goes_on (slice_index text i) ≡ true → IsCharBoundary text i → ⊥
no_boundary text i h t b = grind (arith, nat_tests, b.1 h)

is_boundary : (text : List ℕ) (i : ℕ) → i < length text → goes_on (slice_index text i) ≡ false → IsCharBoundary text i
is_boundary text i h f = (omega arith, λ _ low. grind (arith, nat_tests))

cut_step : (text : List ℕ) (n r rest : ℕ) (b : Bool) → goes_on (slice_index text (suc n)) ≡ b → suc n < length text → r ≤ suc n → IsCharBoundary text r → ((i : ℕ) → r < i → i ≤ suc n → IsCharBoundary text i → ⊥) → (r ≤ n → r ≡ rest) → r ≡ cond b rest (suc n)
cut_step text n r rest true e h low b nearest more =
    let differs : r ≡ suc n → ⊥ = λ same. no_boundary text (suc n) h e (rw same at b) in
    more (omega arith)
cut_step text n r rest false e h low b nearest more =
    let bound = is_boundary text (suc n) h e in
    let above : r < suc n → ⊥ = λ less. nearest (suc n) less (omega arith) bound in
    omega arith

pub cut_place_is : (text : List ℕ) (n r : ℕ) → n < length text → r ≤ n → IsCharBoundary text r → ((i : ℕ) → r < i → i ≤ n → IsCharBoundary text i → ⊥) → r ≡ cut_place text n
unfolding cut_place
cut_place_is text zero r h low b nearest = omega arith
cut_place_is text (suc n) r h low b nearest =
    cut_step text n r (cut_place text n) (goes_on (slice_index text (suc n))) refl h low b nearest (λ less. cut_place_is text n r (omega arith) less b (λ i above below. nearest i above (omega arith)))

cut_le : (b : Bool) (rest n : ℕ) → rest ≤ n → cond b rest (suc n) ≤ suc n
cut_le true rest n h = omega arith
cut_le false rest n h = omega arith

pub cut_place_le : (text : List ℕ) (n : ℕ) → cut_place text n ≤ n
unfolding cut_place
cut_place_le text zero = omega arith
cut_place_le text (suc n) = cut_le (goes_on (slice_index text (suc n))) (cut_place text n) n (cut_place_le text n)

-- ASCII is cut at the place itself
pub cut_place-ascii : (text : List ℕ) (n : ℕ) → IsAscii text → cut_place text n ≡ n
unfolding cut_place
cut_place-ascii text zero ascii = refl
cut_place-ascii text (suc n) ascii =
    let low : slice_index text (suc n) < 128 = ascii (suc n) in
    let plain : goes_on (slice_index text (suc n)) ≡ false = grind (arith, nat_tests) in
    rw plain refl

-- a shortened text has at most 63 bytes
fits_at : (text : List ℕ) (b : Bool) → nat_le (length text) 63 ≡ b → length (cond b text (take (cut_place text 30) text ++ codes "-" ++ encode_lower (md5 text))) ≤ 63
fits_at text true short = grind (arith, nat_tests)
fits_at text false long =
    let hash : length (encode_lower (md5 text)) ≡ 2 * length (md5 text) = length-encode_with lower_digits (md5 text) in
    let cut : length (take (cut_place text 30) text) ≤ 30 = omega (arith, length-take (cut_place text 30) text, cut_place_le text 30) in
    simp length-append (omega (arith, length-md5 text))

pub shortened-fits : (text : List ℕ) → length (shortened text) ≤ 63
shortened-fits text = fits_at text (nat_le (length text) 63) refl

pub shortened-ascii : (text : List ℕ) → IsAscii text → 63 < length text → shortened text ≡ take 30 text ++ codes "-" ++ encode_lower (md5 text)
shortened-ascii text ascii long =
    let no : nat_le (length text) 63 ≡ false = grind (arith, nat_tests) in
    rw (no, cut_place-ascii text 30 ascii) refl
