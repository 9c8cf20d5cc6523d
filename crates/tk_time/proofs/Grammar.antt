-- The reading of a text is that of the grammar.
use Rattle.std.proofs.Common.{◌≡◌, ◌≢◌, ℕ, zero, suc, ◌+◌, ◌*◌, ◌≤◌, List, [], ◌∷◌, ◌++◌, take, drop, length, Bool, true, false, eqb, Option, Some, None, refl, sym, ap, ⊎_elim, ◌∙◌, arith, bytes_eq, inl, inr, lit≤}
use Rattle.std.specs.Prelude.{option_map, option_and_then, flat_map, sum_by, nat_le, ◌&&◌, codes, ◌↔◌}
use Rattle.std.specs.List.{prefix_len, list_all, Contains, AllByRecursion}
use Rattle.std.specs.Char.{is_ascii_digit}
use Rattle.std.proofs.lemmas.Bool.{cases_Bool, false≢true, false_from_ne_true}
use Rattle.std.proofs.lemmas.Bool.Decides.{nat_tests}
use Rattle.std.proofs.lemmas.List.{length-append}
use Rattle.std.proofs.lemmas.List.Sums.{sum_by-cons}
use Rattle.std.proofs.Math.Seq.{take-append_seam, drop-append_seam}
use Rattle.std.proofs.lemmas.Slice.Eq.{bytes_eq-Decides}
use Rattle.std.proofs.lemmas.Option.{none-some}
use Rattle.std.proofs.Math.Numerals.{one-add}
use Rattle.tk_types.specs.Lists.{is_empty}
use mathlib.Core.List.{append_assoc}
use Rattle.tk_time.specs.Duration.{TimeUnit, units, number_of, Part, IsPart, part_text, part_millis, unit_at, part_with, first_part, sum_of_parts, within_limit, longest_duration, duration_of, IsDuration}
use Rattle.tk_time.proofs.Parts.{some_same, mapped, first_part-is, sum-nothing, sum-step}

-- ---- a sum that is read is that of parts
abbrev SumsTo : List ℕ → ℕ → Type 0
SumsTo text millis = (parts : List Part) × AllByRecursion IsPart parts × (text ≡ flat_map part_text parts) × (millis ≡ sum_by part_millis parts)

sum_by-more : (p : Part) (ps : List Part) → sum_by part_millis (p ∷ ps) ≡ part_millis p + sum_by part_millis ps
sum_by-more p ps = sum_by-cons part_millis p ps

and_then-some : {X Y : Type 0} (h : X → Option Y) (o : Option X) (y : Y) → option_and_then h o ≡ Some y → (x : X) × (o ≡ Some x) × (h x ≡ Some y)
and_then-some h None y e = absurd (none-some y e)
and_then-some h (Some x) y e = (x, refl, e)

sums_to : (most : ℕ) (text : List ℕ) (millis : ℕ) → sum_of_parts most text ≡ Some millis → SumsTo text millis
unfolding sum_of_parts
sums_to most [] millis e = ([], tt, refl, some_same (sym e ∙ sum-nothing most))
sums_to zero (b ∷ bs) millis e = absurd (none-some millis e)
sums_to (suc most) (b ∷ bs) millis e =
    let w = and_then-some _ (first_part (b ∷ bs)) millis e in
    let p = first_part-is (b ∷ bs) w.0.0 w.0.1 w.1 in
    let m = mapped (λ more. w.0.0 + more) (sum_of_parts most w.0.1) millis w.2 in
    let rest = sums_to most w.0.1 m.0 m.1 in
    (p.0 ∷ rest.0, (p.1, rest.1), p.2 ∙ ap (λ more. part_text p.0 ++ more) rest.2, sym m.2 ∙ (ap (λ v. v + m.0) p.3 ∙ (ap (λ n. part_millis p.0 + n) rest.3 ∙ sym (sum_by-more p.0 rest.0))))

-- ---- a text of parts is read as these parts
-- the text is empty or begins with a digit
abbrev BeginsApart : List ℕ → Type 0
BeginsApart [] = Unit {0}
BeginsApart (b ∷ bs) = is_ascii_digit b ≡ true

-- a unit is read before what can follow it
unit_h : (tail : List ℕ) → unit_at (codes "h" ++ tail) ≡ Some (3600000, tail)
unfolding unit_at
unit_h tail = refl

unit_ms : (tail : List ℕ) → unit_at (codes "ms" ++ tail) ≡ Some (1, tail)
unfolding unit_at
unit_ms tail = refl

unit_s : (tail : List ℕ) → unit_at (codes "s" ++ tail) ≡ Some (1000, tail)
unfolding unit_at
unit_s tail = refl

unit_m : (tail : List ℕ) → BeginsApart tail → unit_at (codes "m" ++ tail) ≡ Some (60000, tail)
unfolding unit_at
unit_m [] apart = refl
unit_m (b ∷ bs) apart =
    let other : eqb 115 b ≡ false = grind (arith, nat_tests) in
    rw other refl

unit_at-unit : (u : TimeUnit) (tail : List ℕ) → Contains units u → BeginsApart tail → unit_at (u.0 ++ tail) ≡ Some (u.1, tail)
unit_at-unit u tail (zero, inside, is) apart = rw (← is) (unit_h tail)
unit_at-unit u tail (suc zero, inside, is) apart = rw (← is) (unit_ms tail)
unit_at-unit u tail (suc (suc zero), inside, is) apart = rw (← is) (unit_m tail apart)
unit_at-unit u tail (suc (suc (suc zero)), inside, is) apart = rw (← is) (unit_s tail)
unit_at-unit u tail (suc (suc (suc (suc k))), inside, is) apart = absurd (omega arith)

-- a unit begins with no digit
no_digits : (u : TimeUnit) (tail : List ℕ) → Contains units u → prefix_len is_ascii_digit (u.0 ++ tail) ≡ 0
no_digits u tail (zero, inside, is) = rw (← is) refl
no_digits u tail (suc zero, inside, is) = rw (← is) refl
no_digits u tail (suc (suc zero), inside, is) = rw (← is) refl
no_digits u tail (suc (suc (suc zero)), inside, is) = rw (← is) refl
no_digits u tail (suc (suc (suc (suc k))), inside, is) = absurd (omega arith)

and_true : (a b : Bool) → (a && b) ≡ true → (a ≡ true) × (b ≡ true)
and_true true b e = (refl, e)
and_true false b e = absurd (cc)

-- a unit has a name
named : (u : TimeUnit) → Contains units u → 1 ≤ length u.0
named u (zero, inside, is) = rw (← is) (lit≤ tt)
named u (suc zero, inside, is) = rw (← is) (lit≤ tt)
named u (suc (suc zero), inside, is) = rw (← is) (lit≤ tt)
named u (suc (suc (suc zero)), inside, is) = rw (← is) (lit≤ tt)
named u (suc (suc (suc (suc k))), inside, is) = absurd (omega arith)

all_digits : (ds rest : List ℕ) → list_all is_ascii_digit ds ≡ true → prefix_len is_ascii_digit rest ≡ 0 → prefix_len is_ascii_digit (ds ++ rest) ≡ length ds
all_digits [] rest all none = none
all_digits (d ∷ ds) rest all none =
    let both = and_true (is_ascii_digit d) (list_all is_ascii_digit ds) all in
    rw (both.0, one-add) (ap suc (all_digits ds rest both.1 none))

part_with_read : (digits : List ℕ) (u : TimeUnit) (tail : List ℕ) (count : ℕ) → count ≡ length digits → 1 ≤ count → count ≤ 11 → Contains units u → BeginsApart tail → part_with count (digits ++ (u.0 ++ tail)) ≡ Some (number_of digits * u.1, tail)
unfolding part_with
part_with_read digits u tail count is low high unit apart =
    let ok : (nat_le 1 count && nat_le count 11) ≡ true = grind (arith, nat_tests) in
    let back : drop count (digits ++ (u.0 ++ tail)) ≡ u.0 ++ tail = rw is (drop-append_seam digits (u.0 ++ tail)) in
    let front : take count (digits ++ (u.0 ++ tail)) ≡ digits = rw is (take-append_seam digits (u.0 ++ tail)) in
    rw (ok, back, front, unit_at-unit u tail unit apart) refl

-- a part is read before what can follow it
part_read : (p : Part) (tail : List ℕ) → IsPart p → BeginsApart tail → first_part (part_text p ++ tail) ≡ Some (part_millis p, tail)
part_read p tail is apart =
    let joined : part_text p ++ tail ≡ p.digits ++ (p.unit.0 ++ tail) = append_assoc p.digits p.unit.0 tail in
    let count = all_digits p.digits (p.unit.0 ++ tail) is.0 (no_digits p.unit tail is.3) in
    rw joined (part_with_read p.digits p.unit tail (prefix_len is_ascii_digit (p.digits ++ (p.unit.0 ++ tail))) count (omega (arith, is.1)) (omega (arith, is.2)) is.3 apart)

digits_apart : (digits rest : List ℕ) → list_all is_ascii_digit digits ≡ true → 1 ≤ length digits → BeginsApart (digits ++ rest)
digits_apart [] rest all some = absurd (omega arith)
digits_apart (d ∷ ds) rest all some = (and_true (is_ascii_digit d) (list_all is_ascii_digit ds) all).0

parts_apart : (parts : List Part) → AllByRecursion IsPart parts → BeginsApart (flat_map part_text parts)
parts_apart [] all = tt
parts_apart (p ∷ ps) all =
    rw (append_assoc p.digits p.unit.0 (flat_map part_text ps)) (digits_apart p.digits (p.unit.0 ++ flat_map part_text ps) all.0.0 all.0.1)

parts_read : (parts : List Part) → AllByRecursion IsPart parts → sum_of_parts (length (flat_map part_text parts)) (flat_map part_text parts) ≡ Some (sum_by part_millis parts)
parts_read [] all = sum-nothing 0
parts_read (p ∷ ps) all =
    let tail = flat_map part_text ps in
    sum-step (part_text p ++ tail) (part_millis p) tail (part_read p tail all.0 (parts_apart ps all.1))
    ∙ (ap (option_map (λ more. part_millis p + more)) (parts_read ps all.1) ∙ ap Some (sym (sum_by-more p ps)))

-- ---- both ways
long_text : (parts : List Part) → parts ≢ [] → AllByRecursion IsPart parts → 2 ≤ length (flat_map part_text parts)
long_text [] some all = absurd (some refl)
long_text (p ∷ ps) some all =
    let long : length (part_text p ++ flat_map part_text ps) ≡ length p.digits + length p.unit.0 + length (flat_map part_text ps) = simp length-append in
    omega (arith, all.0.1, named p.unit all.0.3)

not_zero : (text : List ℕ) → 2 ≤ length text → bytes_eq text (codes "0") ≡ false
not_zero text long =
    false_from_ne_true _ (λ yes. let same : text ≡ codes "0" = (bytes_eq-Decides text (codes "0")).0 yes in
    let short : length text ≡ 1 = ap length same in
    omega arith)

not_empty : (text : List ℕ) → 2 ≤ length text → is_empty text ≡ false
not_empty [] long = absurd (omega arith)
not_empty (b ∷ bs) long = refl

from_grammar : (text : List ℕ) (millis : ℕ) → IsDuration text millis → duration_of text ≡ Some millis
from_grammar text millis (inl (is, none)) = rw (is, none) refl
from_grammar text millis (inr (parts, some, all, is, total, low)) =
    let long = long_text parts some all in
    let fits : nat_le millis longest_duration ≡ true = grind (arith, nat_tests) in
    rw (is, not_zero _ long, not_empty _ long, parts_read parts all, ← total, fits) refl

within : (n millis : ℕ) → within_limit n ≡ Some millis → (n ≡ millis) × (n ≤ longest_duration)
within n millis e =
    ⊎_elim
    (λ t. let yes : nat_le n longest_duration ≡ true = t in
    (some_same (rw yes at e), grind (arith, nat_tests)))
    (λ f. let no : nat_le n longest_duration ≡ false = f in
    absurd (none-some millis (rw no at e)))
    (cases_Bool (nat_le n longest_duration))

of_parts : (text : List ℕ) (millis : ℕ) → is_empty text ≡ false → option_and_then within_limit (sum_of_parts (length text) text) ≡ Some millis → IsDuration text millis
of_parts text millis some e =
    let w = and_then-some within_limit (sum_of_parts (length text) text) millis e in
    let parts = sums_to (length text) text w.0 w.1 in
    let is = within w.0 millis w.2 in
    inr (parts.0, (λ none. false≢true (sym some ∙ ap is_empty (parts.2 ∙ ap (flat_map part_text) none))), parts.1, parts.2, sym is.0 ∙ parts.3, rw is.0 at is.1)

to_grammar : (text : List ℕ) (millis : ℕ) → duration_of text ≡ Some millis → IsDuration text millis
to_grammar text millis e =
    ⊎_elim
    (λ t. let yes : bytes_eq text (codes "0") ≡ true = t in
    inl ((bytes_eq-Decides text (codes "0")).0 yes, sym (some_same (rw yes at e))))
    (λ f. let no : bytes_eq text (codes "0") ≡ false = f in
    ⊎_elim
    (λ t. let none : is_empty text ≡ true = t in
    absurd (none-some millis (rw (no, none) at e)))
    (λ g. let some : is_empty text ≡ false = g in
    of_parts text millis some (rw (no, some) at e))
    (cases_Bool (is_empty text)))
    (cases_Bool (bytes_eq text (codes "0")))

pub duration_of-grammar : (text : List ℕ) (millis : ℕ) → (duration_of text ≡ Some millis) ↔ IsDuration text millis
duration_of-grammar text millis = (to_grammar text millis, from_grammar text millis)
