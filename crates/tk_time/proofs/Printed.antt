-- A printed duration is a text of parts, with the same sum.
use Rattle.std.proofs.Common.{◌≡◌, ℕ, ◌+◌, ◌-◌, ◌*◌, ◌/◌, ◌%◌, ◌^◌, ◌<◌, ◌≤◌, List, [], ◌∷◌, ◌++◌, Bool, true, false, cond, Some, refl, sym, ap, ◌∙◌, arith, inr, lit<, add-zero, zero-mul}
use Rattle.std.specs.Prelude.{flat_map, sum_by, codes, decimal, ◌==◌}
use Rattle.std.specs.List.{list_all, Contains, AllByRecursion}
use Rattle.std.specs.Char.{is_ascii_digit}
use Rattle.std.proofs.lemmas.Bool.{false≢true}
use Rattle.std.proofs.lemmas.Bool.Decides.{nat_tests}
use Rattle.std.proofs.lemmas.Grind.{flat_map-append, fold-append}
use Rattle.std.proofs.lemmas.Fmt.{decimal_by_steps, decimal_nonempty, length-decimal-le}
use Rattle.std.proofs.lemmas.List.Folds.{list_all-append}
use Rattle.std.proofs.lemmas.List.{append-nil}
use Rattle.std.proofs.lemmas.List.Sums.{sum_by-append, sum_by-cons}
use Rattle.tk_time.specs.Duration.{TimeUnit, units, number_of, Part, IsPart, part_text, part_millis, longest_duration, duration_of, part_of, duration_text}
use Rattle.tk_time.proofs.Grammar.{duration_of-grammar}

-- ---- the digits of a number
abbrev Written : ℕ → List ℕ → Type 0
Written n ds = (list_all is_ascii_digit ds ≡ true) × (number_of ds ≡ n)

one_digit : (n : ℕ) → n < 10 → Written n ((48 + n) ∷ [])
one_digit n h =
    let digit : is_ascii_digit (48 + n) ≡ true = grind (arith, nat_tests) in
    (rw digit refl, omega arith)

more_digits : (n : ℕ) (ds : List ℕ) → 10 ≤ n → Written (n / 10) ds → Written n (ds ++ ((48 + n % 10) ∷ []))
more_digits n ds h is =
    let digit : is_ascii_digit (48 + n % 10) ≡ true = grind (arith, nat_tests) in
    let pushed : number_of (ds ++ (48 + n % 10) ∷ []) ≡ number_of ds * 10 + (48 + n % 10 - 48) = fold-append (λ (m d : ℕ). m * 10 + (d - 48)) 0 ds ((48 + n % 10) ∷ []) in
    (rw (list_all-append, is.0, digit) refl, pushed ∙ omega (arith, is.1))

written : (n : ℕ) → n < 2 ^ 64 → Written n (decimal n)
written n h = decimal_by_steps Written one_digit more_digits n h

-- ---- one part, if it isn't 0
part_if : ℕ → TimeUnit → List Part
part_if n unit = cond (n == 0) [] (record { digits = decimal n; unit = unit } ∷ [])

abbrev Prints : List Part → List ℕ → ℕ → Type 0
Prints parts text millis = AllByRecursion IsPart parts × (flat_map part_text parts ≡ text) × (sum_by part_millis parts ≡ millis)

prints_at : (n : ℕ) (unit : TimeUnit) (b : Bool) → (n == 0) ≡ b → n < 10 ^ 11 → Contains units unit → Prints (cond b [] (record { digits = decimal n; unit = unit } ∷ [])) (cond b [] (decimal n ++ unit.0)) (n * unit.1)
prints_at n unit true none h is =
    let nothing : n ≡ 0 = grind (arith, nat_tests) in
    (tt, refl, rw nothing (sym (zero-mul unit.1)))
prints_at n unit false some h is =
    let small : n < 2 ^ 64 = omega arith in
    let w = written n small in
    (((w.0, decimal_nonempty n small, length-decimal-le 11 n (lit< tt) h small, is), tt), append-nil (decimal n ++ unit.0), sum_by-cons part_millis (record { digits = decimal n; unit = unit }) [] ∙ (add-zero (number_of (decimal n) * unit.1) ∙ ap (λ m. m * unit.1) w.1))

prints_part : (n : ℕ) (unit : TimeUnit) → n < 10 ^ 11 → Contains units unit → Prints (part_if n unit) (part_of n unit.0) (n * unit.1)
unfolding part_if
prints_part n unit h is = prints_at n unit (n == 0) refl h is

all_append : (xs ys : List Part) → AllByRecursion IsPart xs → AllByRecursion IsPart ys → AllByRecursion IsPart (xs ++ ys)
all_append [] ys a b = b
all_append (x ∷ xs) ys a b = (a.0, all_append xs ys a.1 b)

prints_both : (xs ys : List Part) (s t : List ℕ) (m n : ℕ) → Prints xs s m → Prints ys t n → Prints (xs ++ ys) (s ++ t) (m + n)
prints_both xs ys s t m n p q =
    (all_append xs ys p.0 q.0, flat_map-append part_text xs ys ∙ (ap (λ u. u ++ flat_map part_text ys) p.1 ∙ ap (λ u. s ++ u) q.1), sum_by-append part_millis xs ys ∙ (ap (λ k. k + sum_by part_millis ys) p.2 ∙ ap (λ k. m + k) q.2))

-- all parts of a number of milliseconds
parts_of : (millis : ℕ) → millis ≤ longest_duration → (parts : List Part) × Prints parts (part_of (millis / 3600000) (codes "h") ++ part_of (millis / 60000 % 60) (codes "m") ++ part_of (millis / 1000 % 60) (codes "s") ++ part_of (millis % 1000) (codes "ms")) (millis / 3600000 * 3600000 + millis / 60000 % 60 * 60000 + millis / 1000 % 60 * 1000 + millis % 1000 * 1)
parts_of millis h =
    let hours = prints_part (millis / 3600000) (codes "h", 3600000) (omega arith) (0, lit< tt, refl) in
    let minutes = prints_part (millis / 60000 % 60) (codes "m", 60000) (omega arith) (2, lit< tt, refl) in
    let seconds = prints_part (millis / 1000 % 60) (codes "s", 1000) (omega arith) (3, lit< tt, refl) in
    let rest = prints_part (millis % 1000) (codes "ms", 1) (omega arith) (1, lit< tt, refl) in
    (_, prints_both _ _ _ _ _ _ (prints_both _ _ _ _ _ _ (prints_both _ _ _ _ _ _ hours minutes) seconds) rest)

total : (millis : ℕ) → millis / 3600000 * 3600000 + millis / 60000 % 60 * 60000 + millis / 1000 % 60 * 1000 + millis % 1000 * 1 ≡ millis
total millis = omega arith

read_at : (millis : ℕ) (b : Bool) → (millis == 0) ≡ b → millis ≤ longest_duration → duration_of (cond b (codes "0") (part_of (millis / 3600000) (codes "h") ++ part_of (millis / 60000 % 60) (codes "m") ++ part_of (millis / 1000 % 60) (codes "s") ++ part_of (millis % 1000) (codes "ms"))) ≡ Some millis
read_at millis true none h =
    let nothing : millis ≡ 0 = grind (arith, nat_tests) in
    rw nothing refl
read_at millis false some h =
    let p = parts_of millis h in
    let differs : millis ≡ 0 → ⊥ = λ none. false≢true (sym some ∙ rw none refl) in
    (duration_of-grammar _ millis).1 (inr (p.0, (λ none. differs (sym (total millis) ∙ (sym p.1.2 ∙ ap (sum_by part_millis) none))), p.1.0, sym p.1.1, sym (total millis) ∙ sym p.1.2, h))

pub duration_text-read : (millis : ℕ) → millis ≤ longest_duration → duration_of (duration_text millis) ≡ Some millis
duration_text-read millis h = read_at millis (millis == 0) refl h
