-- How many combinations a matrix has.
use Rattle.std.proofs.Common.{◌≡◌, ℕ, ◌+◌, ◌<◌, Bool, true, false, not, cond, eqb, List, [], ◌∷◌, length, MatchBool, refl, sym, ap, ◌∙◌, arith}
use Rattle.std.specs.Prelude.{filter}
use Rattle.std.proofs.lemmas.Bool.{false≢true}
use Rattle.tk_types.specs.declared.value.Param.{Param}
use Rattle.tk_types.specs.declared.task.Matrix.{Matrix}
use Rattle.tk_matrix.specs.Product.{product_count}
use Rattle.tk_matrix.specs.Include.{stands_alone}
use Rattle.tk_matrix.specs.Choice.{is_possible}
use Rattle.tk_matrix.specs.Combinations.{has_empty_list, list_count, own_entries, combination_count}
use Rattle.tk_matrix.proofs.Digits.{product_count-empty}
use Rattle.tk_matrix.proofs.Agreement.{is_possible-somewhere}

count_empty : (b : Bool) (product n : ℕ) → MatchBool b (product ≡ 0) (0 < product) → product ≡ 0 → cond b 0 n ≡ 0
count_empty true product n h e = refl
count_empty false product n h e = absurd (omega arith)

count_full : (b : Bool) (product n : ℕ) → MatchBool b (product ≡ 0) (0 < product) → 0 < product → cond b 0 n ≡ n
count_full true product n h e = absurd (omega arith)
count_full false product n h e = refl

pub combination_count-empty : (matrix : Matrix) → product_count matrix.params ≡ 0 → combination_count matrix ≡ 0
combination_count-empty matrix e = count_empty (has_empty_list matrix.params) (product_count matrix.params) _ (product_count-empty matrix.params) e

pub combination_count-full : (matrix : Matrix) → 0 < product_count matrix.params → combination_count matrix ≡ list_count matrix.params + length (own_entries matrix)
combination_count-full matrix e = count_full (has_empty_list matrix.params) (product_count matrix.params) _ (product_count-empty matrix.params) e

count_positive : (b : Bool) (product n i : ℕ) → MatchBool b (product ≡ 0) (0 < product) → i < cond b 0 n → 0 < product
count_positive true product n i h lt = absurd (omega arith)
count_positive false product n i h lt = h

-- where there is a combination no list is empty
pub product_count-positive : (matrix : Matrix) (i : ℕ) → i < combination_count matrix → 0 < product_count matrix.params
product_count-positive matrix i h = count_positive (has_empty_list matrix.params) (product_count matrix.params) _ i (product_count-empty matrix.params) h

-- with lists, an entry stands alone where it isn't possible
pub stands_alone-lists : (ps entry : List Param) (possible : Bool) → 0 < product_count ps → eqb (length ps) 0 ≡ false → possible ≡ is_possible ps entry → not possible ≡ stands_alone ps entry
stands_alone-lists [] entry possible pos h e = absurd (false≢true (sym h))
stands_alone-lists (p ∷ ps) entry possible pos h e = ap not (e ∙ is_possible-somewhere (p ∷ ps) entry pos)

-- the entries that stand alone, where the matrix was read into its parts
pub own_count : (matrix : Matrix) (ps : List Param) (entries : List (List Param)) (n : ℕ) → ps ≡ matrix.params → entries ≡ matrix.include → n ≡ length (filter (stands_alone ps) entries) → n ≡ length (own_entries matrix)
own_count matrix ps entries n e f h =
    h ∙ ap (λ qs. length (filter (stands_alone qs) entries)) e ∙ ap (λ es. length (filter (stands_alone matrix.params) es)) f
