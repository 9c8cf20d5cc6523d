-- Empty lists, and entries that agree with no combination.
use Rattle.std.proofs.Common.{◌≡◌, ℕ, zero, suc, ◌+◌, ◌-◌, ◌<◌, Bool, true, false, not, cond, List, [], ◌∷◌, length, get_or, take, Option, Some, None, refl, sym, ap, ◌∙◌, subst, arith}
use Rattle.std.specs.Prelude.{Contains, filter, map, slice_get}
use Rattle.std.specs.List.{range_with_len}
use Rattle.std.proofs.lemmas.Bool.{cond_above}
use Rattle.std.proofs.lemmas.Bool.Decides.{when_false}
use Rattle.std.proofs.lemmas.List.Folds.{list_any_at, list_any_none}
use Rattle.std.proofs.lemmas.List.FromFn.{get_or-range_with_len, length-range_with_len}
use Rattle.tk_types.specs.declared.value.Param.{Param}
use Rattle.tk_types.specs.declared.task.Matrix.{Matrix}
use Rattle.tk_types.specs.Lists.{is_empty}
use Rattle.tk_matrix.specs.Product.{list_of, product_count, product_combination}
use Rattle.tk_matrix.specs.Include.{agrees, agrees_somewhere, stands_alone, extended}
use Rattle.tk_matrix.specs.Combinations.{has_empty_list, list_count, own_entries, combination_count, combination, combinations}
use Rattle.tk_matrix.proofs.Digits.{product_count-empty}
use Rattle.tk_matrix.proofs.Counting.{combination_count-full}

-- ---- an empty list

has_empty_list-at : (params : List Param) (p : Param) → Contains params p → list_of p.value ≡ [] → has_empty_list params ≡ true
has_empty_list-at params p at e =
    list_any_at (λ (q : Param). is_empty (list_of q.value)) params at.0 p at.1 (ap (λ (q : Param). is_empty (list_of q.value)) at.2 ∙ ap is_empty e)

pub count_of_none : (matrix : Matrix) (p : Param) → Contains matrix.params p → list_of p.value ≡ [] → combination_count matrix ≡ 0
count_of_none matrix p at e = ap (λ b. cond b 0 (list_count matrix.params + length (own_entries matrix))) (has_empty_list-at matrix.params p at e)

pub combinations_of_none : (matrix : Matrix) (p : Param) → Contains matrix.params p → list_of p.value ≡ [] → combinations matrix ≡ []
combinations_of_none matrix p at e = ap (λ n. map (combination matrix) (range_with_len 0 n)) (count_of_none matrix p at e)

-- ---- an entry that agrees with none

none_agrees : (params entry : List Param) → ((i : ℕ) → i < product_count params → agrees (product_combination params i) entry ≡ false) → agrees_somewhere params entry ≡ false
none_agrees params entry h =
    let n = product_count params in
    let test = λ (i : ℕ). agrees (product_combination params i) entry in
    let len = length-range_with_len 0 n in
    list_any_none test (range_with_len 0 n) (λ k d lt. let k_lt : k < n = omega (arith, len, lt) in let at : get_or (range_with_len 0 n) k d ≡ k = get_or-range_with_len 0 n k d k_lt ∙ omega arith in ap test at ∙ h k k_lt)

alone : (params entry : List Param) → ((i : ℕ) → i < list_count params → agrees (product_combination params i) entry ≡ false) → stands_alone params entry ≡ true
alone [] entry h = refl
alone (p ∷ ps) entry h = ap not (none_agrees (p ∷ ps) entry h)

record IsAt {X : Type 0} (xs : List X) (k : ℕ) (x d : X) : Type 0 where
  within : k < length xs
  here : get_or xs k d ≡ x

none_is_some : {X : Type 0} → (x : X) → let none : Option X = None in none ≡ Some x → ⊥
none_is_some x e = cc

filter_zero : {X : Type 0} (test : X → Bool) (y : X) (ys : List X) (d : X) → test y ≡ true → IsAt (filter test (y ∷ ys)) 0 y d
filter_zero {X} test y ys d e =
    let P : Bool → Type 0 = λ b. IsAt (cond b (y ∷ filter test ys) (filter test ys)) 0 y d in
    subst P (sym e) (record { within = omega arith; here = refl })

filter_step : {X : Type 0} (b : Bool) (y : X) (before all : List X) (x d : X) → IsAt all (length before) x d → IsAt (cond b (y ∷ all) all) (length (cond b (y ∷ before) before)) x d
filter_step true y before all x d at = record { within = omega (arith, at.within); here = at.here }
filter_step false y before all x d at = at

-- an element that passes stands in the filter behind those before it that pass
filter_at : {X : Type 0} (test : X → Bool) (xs : List X) (k : ℕ) (x d : X) → slice_get xs k ≡ Some x → test x ≡ true → IsAt (filter test xs) (length (filter test (take k xs))) x d
filter_at test [] k x d e h = absurd (none_is_some x e)
filter_at {X} test (y ∷ ys) zero x d e h =
    let same : y ≡ x = cc in
    let P : X → Type 0 = λ z. IsAt (filter test (y ∷ ys)) 0 z d in
    subst P same (filter_zero test y ys d (ap test same ∙ h))
filter_at test (y ∷ ys) (suc k) x d e h = filter_step (test y) y (filter test (take k ys)) (filter test ys) x d (filter_at test ys k x d e h)

own_at : (matrix : Matrix) (k : ℕ) (entry : List Param) → slice_get matrix.include k ≡ Some entry → ((i : ℕ) → i < list_count matrix.params → agrees (product_combination matrix.params i) entry ≡ false) → IsAt (own_entries matrix) (length (filter (stands_alone matrix.params) (take k matrix.include))) entry []
own_at matrix k entry e h = filter_at (stands_alone matrix.params) matrix.include k entry [] e (alone matrix.params entry h)

pub entry_counted : (matrix : Matrix) (k : ℕ) (entry : List Param) → has_empty_list matrix.params ≡ false → slice_get matrix.include k ≡ Some entry → ((i : ℕ) → i < list_count matrix.params → agrees (product_combination matrix.params i) entry ≡ false) → list_count matrix.params + length (filter (stands_alone matrix.params) (take k matrix.include)) < combination_count matrix
entry_counted matrix k entry full e h =
    let at = own_at matrix k entry e h in
    let count = combination_count-full matrix (when_false (product_count matrix.params ≡ 0) (0 < product_count matrix.params) full (product_count-empty matrix.params)) in
    omega (arith, at.within, count)

pub entry_given : (matrix : Matrix) (k : ℕ) (entry : List Param) → has_empty_list matrix.params ≡ false → slice_get matrix.include k ≡ Some entry → ((i : ℕ) → i < list_count matrix.params → agrees (product_combination matrix.params i) entry ≡ false) → combination matrix (list_count matrix.params + length (filter (stands_alone matrix.params) (take k matrix.include))) ≡ entry
entry_given matrix k entry full e h =
    let at = own_at matrix k entry e h in
    let lists = list_count matrix.params in
    let own = own_entries matrix in
    let j = length (filter (stands_alone matrix.params) (take k matrix.include)) in
    let back : lists + j - lists ≡ j = omega arith in
    sym (cond_above (lists + j) lists (extended matrix.include (product_combination matrix.params (lists + j))) (get_or own (lists + j - lists) []) (get_or own (lists + j - lists) []) (omega arith) refl) ∙ ap (λ m. get_or own m []) back ∙ at.here
