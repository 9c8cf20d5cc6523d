-- The combinations of lists, read digit by digit: the least digit is the first parameter's.
use Rattle.std.proofs.Common.{◌≡◌, ℕ, zero, suc, ◌+◌, ◌*◌, ◌/◌, ◌%◌, ◌<◌, ◌≤◌, min, Bool, true, false, ◌||◌, List, [], ◌∷◌, ◌++◌, length, get_or, take, drop, MatchBool, refl, sym, ap, ◌∙◌, ⊎_elim, arith}
use Rattle.std.proofs.Math.Nat.{div-div-eq-div-mul, mul_assoc}
use Rattle.std.proofs.lemmas.Bool.{cases_lt}
use Rattle.std.proofs.lemmas.List.{take_more, drop_all, append-nil}
use Rattle.tk_types.specs.declared.value.Param.{Param}
use Rattle.tk_types.specs.declared.value.Value.TheVariants.{Str}
use Rattle.tk_types.specs.Lists.{is_empty}
use Rattle.tk_matrix.specs.Product.{list_of, product_count, product_from, product_combination}
use Rattle.tk_matrix.specs.Combinations.{has_empty_list}

-- the parameter takes the text at a place of its list
abbrev pub with_text : Param → ℕ → Param
with_text p k = record p { value = Str (get_or (list_of p.value) k []) }

abbrev pub product_at : ℕ → List Param → List Param
product_at i [] = []
product_at i (p ∷ ps) = with_text p (i % length (list_of p.value)) ∷ product_at (i / length (list_of p.value)) ps

product_from-at : (stride i : ℕ) (ps : List Param) → product_from stride i ps ≡ product_at (i / stride) ps
product_from-at stride i [] = refl
product_from-at stride i (p ∷ ps) =
    let n = length (list_of p.value) in
    ap (λ rest. with_text p ((i / stride) % n) ∷ rest) (product_from-at (stride * n) i ps ∙ ap (λ j. product_at j ps) (sym (div-div-eq-div-mul i stride n)))

div-one : (i : ℕ) → i / 1 ≡ i
div-one i = omega arith

pub product_combination-at : (ps : List Param) (i : ℕ) → product_combination ps i ≡ product_at i ps
product_combination-at ps i = product_from-at 1 i ps ∙ ap (λ j. product_at j ps) (div-one i)

-- ---- how many

product_count-append : (ps qs : List Param) → product_count (ps ++ qs) ≡ product_count ps * product_count qs
product_count-append [] qs = omega arith
product_count-append (p ∷ ps) qs =
    let n = length (list_of p.value) in
    ap (λ k. n * k) (product_count-append ps qs) ∙ sym (mul_assoc n (product_count ps) (product_count qs))

pub product_count_more : (ps : List Param) (i : ℕ) (p : Param) → i < length ps → product_count (take (i + 1) ps) ≡ product_count (take i ps) * length (list_of (get_or ps i p).value)
product_count_more ps i p h =
    let last = get_or ps i p in
    let one : product_count (last ∷ []) ≡ length (list_of last.value) = omega arith in
    ap product_count (take_more ps i p h) ∙ product_count-append (take i ps) (last ∷ []) ∙ ap (λ k. product_count (take i ps) * k) one

-- the cap may be taken before and after a product
pub min-mul_min : (a n m : ℕ) → min (min a m * n) m ≡ min (a * n) m
min-mul_min a zero m = omega arith
min-mul_min a (suc n) m =
    let below = λ (lt : a < m). let e : min a m ≡ a = omega arith in ap (λ k. min (k * suc n) m) e in
    let above : m ≤ a → min (min a m * suc n) m ≡ min (a * suc n) m = λ le. let e : min a m ≡ m = omega arith in rw e (omega arith) in
    ⊎_elim below above (cases_lt a m)

pub pos_parts : (a b : ℕ) → 0 < a * b → (0 < a) × (0 < b)
pos_parts zero b h = absurd (omega arith)
pos_parts (suc a) zero h = absurd (omega arith)
pos_parts (suc a) (suc b) h = (omega arith, omega arith)

is_empty-or : (texts : List (List ℕ)) (b : Bool) (n : ℕ) → MatchBool b (n ≡ 0) (0 < n) → MatchBool (is_empty texts || b) (length texts * n ≡ 0) (0 < length texts * n)
is_empty-or [] true n h = omega arith
is_empty-or [] false n h = omega arith
is_empty-or (x ∷ xs) true n h = rw h (omega arith)
is_empty-or (x ∷ xs) false n h = omega arith

-- an empty list makes the product 0, and nothing else does
pub product_count-empty : (ps : List Param) → MatchBool (has_empty_list ps) (product_count ps ≡ 0) (0 < product_count ps)
product_count-empty [] = omega arith
product_count-empty (p ∷ ps) = is_empty-or (list_of p.value) (has_empty_list ps) (product_count ps) (product_count-empty ps)

-- a step of the loop that counts
pub product_count_step : (ps : List Param) (i : ℕ) (p : Param) (count n m : ℕ) → i < length ps → p ≡ get_or ps i p → count ≡ min (product_count (take i ps)) m → n ≡ length (list_of p.value) → min (count * n) m ≡ min (product_count (take (i + 1) ps)) m
product_count_step ps i p count n m h here so_far len =
    let before = product_count (take i ps) in
    let len' : n ≡ length (list_of (get_or ps i p).value) = len ∙ ap (λ (q : Param). length (list_of q.value)) here in
    ap (λ k. min (k * n) m) so_far ∙ ap (λ k. min (min before m * k) m) len' ∙ min-mul_min before _ m ∙ ap (λ k. min k m) (sym (product_count_more ps i p h))

-- the end of the loop that reads the digits
pub all_chosen : (ps made : List Param) (i rest index : ℕ) → length ps ≤ i → made ++ product_at rest (drop i ps) ≡ product_at index ps → made ≡ product_combination ps index
all_chosen ps made i rest index h e =
    sym (append-nil made) ∙ ap (λ qs. made ++ product_at rest qs) (sym (drop_all i ps h)) ∙ e ∙ sym (product_combination-at ps index)
