-- Combinations of lists without a repeated text differ.
use Rattle.std.proofs.Common.{◌≡◌, ℕ, zero, suc, ◌+◌, ◌-◌, ◌*◌, ◌/◌, ◌%◌, ◌<◌, Bool, true, false, not, cond, List, [], ◌∷◌, length, get_or, drop, refl, sym, ap, ◌∙◌, arith}
use Rattle.std.specs.Prelude.{bytes_eq, slice_index_or, filter}
use Rattle.std.specs.List.{list_any}
use Rattle.std.proofs.Math.Nat.{div-add-mod, mul_comm}
use Rattle.std.proofs.lemmas.Bool.{and_parts, cond_below, false≢true}
use Rattle.std.proofs.lemmas.List.Folds.{list_any_at}
use Rattle.std.proofs.lemmas.Nat.{div_below, mod_below}
use Rattle.std.proofs.lemmas.Slice.Eq.{bytes_eq-Decides}
use Rattle.tk_types.specs.declared.value.Param.{Param}
use Rattle.tk_types.specs.declared.value.Value.{Value}
use Rattle.tk_types.specs.declared.value.Value.TheVariants.{Str, Arr, Obj}
use Rattle.tk_types.specs.declared.task.Matrix.{Matrix}
use Rattle.tk_types.specs.Lists.{all_differ, is_empty}
use Rattle.tk_matrix.specs.Product.{list_of, product_count, product_combination, has_distinct_texts}
use Rattle.tk_matrix.specs.Include.{extended, stands_alone}
use Rattle.tk_matrix.specs.Combinations.{list_count, own_entries, combination_count, combination}
use Rattle.tk_matrix.proofs.Digits.{product_at, product_combination-at, pos_parts}
use Rattle.tk_matrix.proofs.Counting.{combination_count-full, product_count-positive}

not_any : (b : Bool) → b ≡ true → not b ≡ true → ⊥
not_any true e f = false≢true f
not_any false e f = false≢true e

first_again : (x : List ℕ) (xs : List (List ℕ)) (k : ℕ) → all_differ bytes_eq (x ∷ xs) ≡ true → k < length xs → x ≡ get_or xs k [] → ⊥
first_again x xs k h lt e =
    let parts = and_parts (not (list_any (bytes_eq x) xs)) (all_differ bytes_eq xs) h in
    not_any (list_any (bytes_eq x) xs) (list_any_at (bytes_eq x) xs k [] lt ((bytes_eq-Decides x (get_or xs k [])).1 e)) parts.0

-- in a list without repeated texts one text stands at one place
one_place : (texts : List (List ℕ)) (a b : ℕ) → all_differ bytes_eq texts ≡ true → a < length texts → b < length texts → get_or texts a [] ≡ get_or texts b [] → a ≡ b
one_place [] a b h la lb e = absurd (omega arith)
one_place (x ∷ xs) zero zero h la lb e = refl
one_place (x ∷ xs) zero (suc b) h la lb e = absurd (first_again x xs b h (omega arith) e)
one_place (x ∷ xs) (suc a) zero h la lb e = absurd (first_again x xs a h (omega arith) (sym e))
one_place (x ∷ xs) (suc a) (suc b) h la lb e =
    let parts = and_parts (not (list_any (bytes_eq x) xs)) (all_differ bytes_eq xs) h in
    ap suc (one_place xs a b parts.1 (omega arith) (omega arith) e)

text_in : Value → List ℕ
text_in (Str text) = text
text_in (Arr texts) = []
text_in (Obj pairs) = []

first_text : List Param → List ℕ
first_text [] = []
first_text (p ∷ ps) = text_in p.value

-- the digits give the number
product_at-one : (ps : List Param) (i j : ℕ) → has_distinct_texts ps ≡ true → i < product_count ps → j < product_count ps → product_at i ps ≡ product_at j ps → i ≡ j
unfolding text_in first_text
product_at-one [] i j h li lj e = omega arith
product_at-one (p ∷ ps) i j h li lj e =
    let n = length (list_of p.value) in
    let distinct = and_parts (all_differ bytes_eq (list_of p.value)) (has_distinct_texts ps) h in
    let turned = mul_comm n (product_count ps) in
    let pos = pos_parts n (product_count ps) (omega arith) in
    let low = one_place (list_of p.value) (i % n) (j % n) distinct.0 (mod_below i n pos.0) (mod_below j n pos.0) (ap first_text e) in
    let li' : i / n < product_count ps = div_below i n (product_count ps) pos.0 (omega (arith, turned)) in
    let lj' : j / n < product_count ps = div_below j n (product_count ps) pos.0 (omega (arith, turned)) in
    let high = product_at-one ps (i / n) (j / n) distinct.1 li' lj' (ap (drop 1) e) in
    sym (div-add-mod i n) ∙ ap (λ k. n * k + i % n) high ∙ ap (λ k. n * (j / n) + k) low ∙ div-add-mod j n

below_cond : (b : Bool) (n i : ℕ) → i < cond b 0 n → i < n
below_cond true n i h = absurd (omega arith)
below_cond false n i h = h

below_lists : (matrix : Matrix) (i : ℕ) → matrix.include ≡ [] → i < combination_count matrix → i < list_count matrix.params
below_lists matrix i e h =
    let full = combination_count-full matrix (product_count-positive matrix i h) in
    let none : length (own_entries matrix) ≡ 0 = ap (λ entries. length (filter (stands_alone matrix.params) entries)) e in
    omega (arith, full, none)

-- without include entries a combination is one of the lists
combination-lists : (matrix : Matrix) (i : ℕ) → matrix.include ≡ [] → i < combination_count matrix → combination matrix i ≡ product_at i matrix.params
combination-lists matrix i e h =
    let c = product_combination matrix.params i in
    sym (cond_below i (list_count matrix.params) (extended matrix.include c) (slice_index_or (own_entries matrix) (i - list_count matrix.params) []) (below_lists matrix i e h)) ∙ ap (λ entries. extended entries c) e ∙ product_combination-at matrix.params i

pub combination-one : (matrix : Matrix) (i j : ℕ) → matrix.include ≡ [] → has_distinct_texts matrix.params ≡ true → i < combination_count matrix → j < combination_count matrix → combination matrix i ≡ combination matrix j → i ≡ j
combination-one matrix i j e distinct li lj same =
    let b = is_empty matrix.params in
    product_at-one matrix.params i j distinct (below_cond b (product_count matrix.params) i (below_lists matrix i e li)) (below_cond b (product_count matrix.params) j (below_lists matrix j e lj)) (sym (combination-lists matrix i e li) ∙ same ∙ combination-lists matrix j e lj)
