-- What the reading of one part means, and that a text of parts is read as these parts.
use Rattle.std.proofs.Common.{◌≡◌, ℕ, zero, suc, ◌+◌, ◌*◌, ◌<◌, ◌≤◌, List, [], ◌∷◌, ◌++◌, take, drop, length, Bool, true, false, cond, Option, Some, None, refl, sym, ap, ⊎_elim, ◌∙◌, arith, add_assoc, add-zero}
use Rattle.std.specs.Prelude.{option_map, option_and_then, find, nat_le, ◌&&◌}
use Rattle.std.specs.List.{prefix_len, list_all, Contains}
use Rattle.std.specs.Char.{is_ascii_digit}
use Rattle.std.proofs.lemmas.Bool.{cases_Bool}
use Rattle.std.proofs.lemmas.Bool.Decides.{nat_tests}
use Rattle.std.proofs.lemmas.List.{take-append-drop, length-append, length-take-le}
use Rattle.std.proofs.lemmas.List.Sums.{prefix_len-le-length}
use Rattle.std.proofs.lemmas.Option.{none-some}
use Rattle.std.proofs.Math.Numerals.{one-add}
use mathlib.Core.List.{append_assoc}
use Rattle.std.proofs.lemmas.Slice.Eq.{bytes_eq-Decides}
use Rattle.tk_time.specs.Duration.{TimeUnit, units, number_of, Part, IsPart, part_text, part_millis, begins_with, unit_at, part_with, first_part, sum_of_parts, within_limit, longest_duration}

-- ---- from a reading to the grammar
pub some_same : {X : Type 0} {x y : X} → Some x ≡ Some y → x ≡ y
some_same e = cc

found_by : (test : TimeUnit → Bool) (rows : List TimeUnit) (u : TimeUnit) → find test rows ≡ Some u → Contains rows u × (test u ≡ true)
found_by test [] u e = absurd (none-some u e)
found_by test (r ∷ rs) u e =
    ⊎_elim
    (λ t. let yes : test r ≡ true = t in
    let same : r ≡ u = some_same (rw yes at e) in
    ((0, omega arith, same), rw (← same) yes))
    (λ f. let no : test r ≡ false = f in
    let later = found_by test rs u (rw no at e) in
    ((suc later.0.0, omega (arith, later.0.1), later.0.2), later.1))
    (cases_Bool (test r))

begun : (text word : List ℕ) → begins_with text word ≡ true → text ≡ word ++ drop (length word) text
begun text word e =
    let same : word ≡ take (length word) text = (bytes_eq-Decides word (take (length word) text)).0 e in
    sym (take-append-drop (length word) text) ∙ ap (λ front. front ++ drop (length word) text) (sym same)

pub mapped : {X Y : Type 0} (g : X → Y) (o : Option X) (y : Y) → option_map g o ≡ Some y → (x : X) × (o ≡ Some x) × (g x ≡ y)
mapped g None y e = absurd (none-some y e)
mapped g (Some x) y e = (x, refl, some_same e)

-- what `unit_at` and `first_part` take off is a unit, and a part
unit_at-is : (text : List ℕ) (m : ℕ) (rest : List ℕ) → unit_at text ≡ Some (m, rest) → (u : TimeUnit) × Contains units u × (text ≡ u.0 ++ rest) × (m ≡ u.1)
unfolding unit_at
unit_at-is text m rest e =
    let w = mapped (λ (unit : TimeUnit). (unit.1, drop (length unit.0) text)) (find (λ (unit : TimeUnit). begins_with text unit.0) units) (m, rest) e in
    let f = found_by (λ (unit : TimeUnit). begins_with text unit.0) units w.0 w.1 in
    let after : drop (length w.0.0) text ≡ rest = ap (λ (p : ℕ × List ℕ). p.1) w.2 in
    let worth : w.0.1 ≡ m = ap (λ (p : ℕ × List ℕ). p.0) w.2 in
    (w.0, f.0, begun text w.0.0 f.1 ∙ ap (λ more. w.0.0 ++ more) after, sym worth)

prefix_all_cons : (test : ℕ → Bool) (x : ℕ) (xs : List ℕ) (b : Bool) → test x ≡ b → list_all test (take (prefix_len test xs) xs) ≡ true → list_all test (take (cond b (1 + prefix_len test xs) 0) (x ∷ xs)) ≡ true
prefix_all_cons test x xs false e more = refl
prefix_all_cons test x xs true e more = rw (one-add, e) more

prefix_all : (test : ℕ → Bool) (xs : List ℕ) → list_all test (take (prefix_len test xs) xs) ≡ true
prefix_all test [] = refl
prefix_all test (x ∷ xs) = prefix_all_cons test x xs (test x) refl (prefix_all test xs)

part_with-is : (text : List ℕ) (count v : ℕ) (rest : List ℕ) → count ≡ prefix_len is_ascii_digit text → part_with count text ≡ Some (v, rest) → (p : Part) × IsPart p × (text ≡ part_text p ++ rest) × (v ≡ part_millis p)
unfolding part_with
part_with-is text count v rest is e =
    ⊎_elim
    (λ t. let yes : (nat_le 1 count && nat_le count 11) ≡ true = t in
    let w = mapped (λ (unit : ℕ × List ℕ). (number_of (take count text) * unit.0, unit.1)) (unit_at (drop count text)) (v, rest) (rw yes at e) in
    let u = unit_at-is (drop count text) w.0.0 w.0.1 w.1 in
    let within : count ≤ length text = omega (arith, prefix_len-le-length is_ascii_digit text) in
    let long : length (take count text) ≡ count = length-take-le count text within in
    let all : list_all is_ascii_digit (take count text) ≡ true = rw is (prefix_all is_ascii_digit text) in
    let low : 1 ≤ count = grind (arith, nat_tests) in
    let high : count ≤ 11 = grind (arith, nat_tests) in
    let after : w.0.1 ≡ rest = ap (λ (p : ℕ × List ℕ). p.1) w.2 in
    let worth : number_of (take count text) * w.0.0 ≡ v = ap (λ (p : ℕ × List ℕ). p.0) w.2 in
    (record { digits = take count text; unit = u.0 }, (all, omega arith, omega arith, u.1), sym (take-append-drop count text) ∙ (ap (λ more. take count text ++ more) (u.2 ∙ ap (λ more. u.0.0 ++ more) after) ∙ sym (append_assoc (take count text) u.0.0 rest)), sym worth ∙ ap (λ m. number_of (take count text) * m) u.3))
    (λ f. let no : (nat_le 1 count && nat_le count 11) ≡ false = f in
    absurd (none-some (v, rest) (rw no at e)))
    (cases_Bool (nat_le 1 count && nat_le count 11))

pub first_part-is : (text : List ℕ) (v : ℕ) (rest : List ℕ) → first_part text ≡ Some (v, rest) → (p : Part) × IsPart p × (text ≡ part_text p ++ rest) × (v ≡ part_millis p)
first_part-is text v rest e = part_with-is text (prefix_len is_ascii_digit text) v rest refl e

first_part-shorter : (text : List ℕ) (v : ℕ) (rest : List ℕ) → first_part text ≡ Some (v, rest) → length rest < length text
first_part-shorter text v rest e =
    let p = first_part-is text v rest e in
    let long : length text ≡ length p.0.digits + length p.0.unit.0 + length rest = ap length p.2 ∙ simp length-append in
    let some : 1 ≤ length p.0.digits = p.1.1 in
    omega arith

-- ---- the sum of a text is that of its first part and of the rest
pub sum-nothing : (most : ℕ) → sum_of_parts most [] ≡ Some 0
unfolding sum_of_parts
sum-nothing zero = refl
sum-nothing (suc most) = refl

and_then-same : {X Y : Type 0} (o : Option X) (h k : X → Option Y) → ((x : X) → o ≡ Some x → h x ≡ k x) → option_and_then h o ≡ option_and_then k o
and_then-same None h k same = refl
and_then-same (Some x) h k same = same x refl

pub sum-enough : (f g : ℕ) (text : List ℕ) → length text ≤ f → length text ≤ g → sum_of_parts f text ≡ sum_of_parts g text
unfolding sum_of_parts
sum-enough f g [] l m = sum-nothing f ∙ sym (sum-nothing g)
sum-enough zero g (b ∷ bs) l m = absurd (omega arith)
sum-enough (suc f) zero (b ∷ bs) l m = absurd (omega arith)
sum-enough (suc f) (suc g) (b ∷ bs) l m =
    and_then-same (first_part (b ∷ bs)) _ _ (λ part is.
    let less : length part.1 < length (b ∷ bs) = first_part-shorter (b ∷ bs) part.0 part.1 is in
    ap (option_map (λ more. part.0 + more)) (sum-enough f g part.1 (omega arith) (omega arith)))

step_at : (text : List ℕ) (v : ℕ) (rest : List ℕ) (most : ℕ) → first_part text ≡ Some (v, rest) → length rest ≤ most → sum_of_parts (suc most) text ≡ option_map (λ more. v + more) (sum_of_parts (length rest) rest)
unfolding sum_of_parts
step_at [] v rest most is l = absurd (omega (arith, first_part-shorter [] v rest is))
step_at (b ∷ bs) v rest most is l =
    rw is (ap (option_map (λ more. v + more)) (sum-enough most (length rest) rest l (omega arith)))

none_at : (text : List ℕ) (most : ℕ) → 0 < length text → first_part text ≡ None → sum_of_parts (suc most) text ≡ None
unfolding sum_of_parts
none_at [] most l is = absurd (omega arith)
none_at (b ∷ bs) most l is = rw is refl

pub sum-step : (text : List ℕ) (v : ℕ) (rest : List ℕ) → first_part text ≡ Some (v, rest) → sum_of_parts (length text) text ≡ option_map (λ more. v + more) (sum_of_parts (length rest) rest)
sum-step text v rest is =
    let less = first_part-shorter text v rest is in
    sum-enough (length text) (suc (length rest + length text)) text (omega arith) (omega arith) ∙ step_at text v rest (length rest + length text) is (omega arith)

pub sum-none : (text : List ℕ) → 0 < length text → first_part text ≡ None → sum_of_parts (length text) text ≡ None
sum-none text l is =
    sum-enough (length text) (suc (length text)) text (omega arith) (omega arith) ∙ none_at text (length text) l is

-- ---- the turns of the loop: s is the sum so far, and whole that of all
option_map-map : (s v : ℕ) (o : Option ℕ) → option_map (λ more. s + more) (option_map (λ more. v + more) o) ≡ option_map (λ more. s + v + more) o
option_map-map s v None = refl
option_map-map s v (Some n) = ap Some (sym (add_assoc s v n))

-- once the sum is over the limit, so is the whole
over : (n : ℕ) (o : Option ℕ) → longest_duration < n → option_and_then within_limit (option_map (λ more. n + more) o) ≡ None
over n None h = refl
over n (Some m) h = grind (arith, nat_tests)

pub turn : (s v : ℕ) (rest after : List ℕ) (whole : Option ℕ) → option_map (λ more. s + more) (sum_of_parts (length rest) rest) ≡ whole → first_part rest ≡ Some (v, after) → option_map (λ more. s + v + more) (sum_of_parts (length after) after) ≡ whole
turn s v rest after whole inv is =
    sym (option_map-map s v (sum_of_parts (length after) after)) ∙ (ap (option_map (λ more. s + more)) (sym (sum-step rest v after is)) ∙ inv)

pub turn-over : (s v : ℕ) (rest after : List ℕ) (whole : Option ℕ) → option_map (λ more. s + more) (sum_of_parts (length rest) rest) ≡ whole → first_part rest ≡ Some (v, after) → longest_duration < s + v → option_and_then within_limit whole ≡ None
turn-over s v rest after whole inv is h =
    ap (option_and_then within_limit) (sym (turn s v rest after whole inv is)) ∙ over (s + v) (sum_of_parts (length after) after) h

pub turn-none : (s : ℕ) (rest : List ℕ) (whole : Option ℕ) → option_map (λ more. s + more) (sum_of_parts (length rest) rest) ≡ whole → 0 < length rest → first_part rest ≡ None → option_and_then within_limit whole ≡ None
turn-none s rest whole inv l is =
    ap (option_and_then within_limit) (sym inv ∙ ap (option_map (λ more. s + more)) (sum-none rest l is))

pub turn-end : (s : ℕ) (rest : List ℕ) (whole : Option ℕ) → option_map (λ more. s + more) (sum_of_parts (length rest) rest) ≡ whole → length rest ≡ 0 → s ≤ longest_duration → option_and_then within_limit whole ≡ Some s
turn-end s [] whole inv l low =
    let all : whole ≡ Some (s + 0) = sym inv ∙ ap (option_map (λ more. s + more)) (sum-nothing 0) in
    let fits : nat_le s longest_duration ≡ true = grind (arith, nat_tests) in
    rw (all, add-zero, fits) refl
turn-end s (b ∷ bs) whole inv l low = absurd (omega arith)
