-- The combinations that are judged, one by one.
use Rattle.std.proofs.Common.{◌≡◌, ◌+◌, ◌<◌, ℕ, Bool, true, false, ◌&&◌, if◌then◌else◌, List, [], ◌∷◌, ◌++◌, Option, Some, None, map, get_or, arith, refl, sym, ap, ◌∙◌}
use Rattle.std.specs.Prelude.{nat_le}
use Rattle.std.specs.List.{list_all, range_with_len}
use Rattle.std.proofs.lemmas.List.Folds.{list_all-append, list_all-map, list_all_at}
use Rattle.std.proofs.lemmas.List.FromFn.{get_or-range_with_len, length-range_with_len, map-range_with_len_more}
use Rattle.tk_types.specs.declared.value.Param.{Param}
use Rattle.tk_types.specs.declared.task.Matrix.{Matrix}
use Rattle.tk_matrix.specs.Combinations.{combination}
use Rattle.tk_matrix.specs.Task.{task_combination, task_combination_count, task_combinations}
use Rattle.tk_resolve.specs.Settled.{judged_combinations, judged_count}

both_maps : {X Y Z : Type 0} (f : X → Y) (g : Y → Z) (xs : List X) → map g (map f xs) ≡ map (λ x. g (f x)) xs
both_maps f g [] = refl
both_maps f g (x ∷ xs) = ap (λ ys. g (f x) ∷ ys) (both_maps f g xs)

by_index : (early : List Param) (matrix : Option Matrix) → task_combinations early matrix ≡ map (task_combination early matrix) (range_with_len 0 (task_combination_count matrix))
by_index early None = refl
by_index early (Some m) = both_maps (combination m) (λ c. early ++ c) (range_with_len 0 (task_combination_count (Some m)))

where_few : {X : Type 0} (few : Bool) (all : List X) (f : ℕ → X) (n : ℕ) → all ≡ map f (range_with_len 0 n) → (if few then all else []) ≡ map f (range_with_len 0 (if few then n else 0))
where_few true all f n is = is
where_few false all f n is = refl

judged_by_index : (early : List Param) (matrix : Option Matrix) → judged_combinations early matrix ≡ map (task_combination early matrix) (range_with_len 0 (judged_count matrix))
judged_by_index early matrix = where_few (nat_le (task_combination_count matrix) 256) (task_combinations early matrix) (task_combination early matrix) (task_combination_count matrix) (by_index early matrix)

-- all of them pass a test
pub all_judged : (test : List Param → Bool) (early : List Param) (matrix : Option Matrix) (n : ℕ) → n ≡ judged_count matrix
    → list_all test (judged_combinations early matrix) ≡ list_all (λ i. test (task_combination early matrix i)) (range_with_len 0 n)
all_judged test early matrix n is =
    ap (list_all test) (judged_by_index early matrix)
    ∙ (list_all-map test (task_combination early matrix) (range_with_len 0 (judged_count matrix)) ∙ ap (λ m. list_all (λ i. test (task_combination early matrix i)) (range_with_len 0 m)) (sym is))

-- one of them doesn't
pub one_fails : (test : ℕ → Bool) (n i : ℕ) → i < n → test i ≡ false → list_all test (range_with_len 0 n) ≡ false
one_fails test n i lt fails =
    let at : get_or (range_with_len 0 n) i 0 ≡ i = get_or-range_with_len 0 n i 0 lt ∙ omega arith in
    list_all_at test (range_with_len 0 n) i 0 (omega (arith, length-range_with_len 0 n, lt)) (ap test at ∙ fails)

few_below : (few : Bool) (n i : ℕ) → i < (if few then n else 0) → i < n
few_below true n i lt = lt
few_below false n i lt = absurd (omega arith)

pub judged_below : (matrix : Option Matrix) (i : ℕ) → i < judged_count matrix → i < task_combination_count matrix
judged_below matrix i lt = few_below (nat_le (task_combination_count matrix) 256) (task_combination_count matrix) i lt

-- all of those below one more
pub one_more : (test : ℕ → Bool) (n : ℕ) → list_all test (range_with_len 0 n) ≡ true → test n ≡ true → list_all test (range_with_len 0 (n + 1)) ≡ true
one_more test n below here =
    sym (list_all-map (λ b. b) test (range_with_len 0 (n + 1)))
    ∙ (ap (list_all (λ b. b)) (map-range_with_len_more test 0 n n (omega arith))
    ∙ (list_all-append (λ b. b) (map test (range_with_len 0 n)) (test n ∷ [])
    ∙ (ap (λ b. b && (test n && true)) (list_all-map (λ b. b) test (range_with_len 0 n) ∙ below) ∙ ap (λ b. true && (b && true)) here)))
