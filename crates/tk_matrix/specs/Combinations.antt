-- The combinations of a matrix: those of its lists, extended by the include entries, and then the entries that agree with none.
use Rattle.std.specs.Prelude.{ℕ, ◌+◌, ◌-◌, Bool, if◌then◌else◌, nat_lt, List, [], map, length, filter, slice_index_or}
use Rattle.std.specs.List.{list_any, range_with_len}
use Rattle.tk_types.specs.declared.value.Param.{Param}
use Rattle.tk_types.specs.declared.task.Matrix.{Matrix}
use Rattle.tk_types.specs.Lists.{is_empty}
use Rattle.tk_matrix.specs.Product.{list_of, product_count, product_combination}
use Rattle.tk_matrix.specs.Include.{extended, stands_alone}

-- a list is empty, so that there is no combination and the entries are ignored
abbrev pub has_empty_list : List Param → Bool
has_empty_list params = list_any (λ (p : Param). is_empty (list_of p.value)) params

-- how many combinations the lists of a matrix have; without lists there are none
abbrev pub list_count : List Param → ℕ
list_count params = if is_empty params then 0 else product_count params

-- the entries that are combinations of their own
abbrev pub own_entries : Matrix → List (List Param)
own_entries matrix = filter (stands_alone matrix.params) matrix.include

-- how many combinations there are
abbrev pub combination_count : Matrix → ℕ
combination_count matrix = if has_empty_list matrix.params then 0 else list_count matrix.params + length (own_entries matrix)

-- combination i
abbrev pub combination : Matrix → ℕ → List Param
combination matrix i =
    if nat_lt i (list_count matrix.params) then extended matrix.include (product_combination matrix.params i) else slice_index_or (own_entries matrix) (i - list_count matrix.params) []

-- all of them, in order
abbrev pub combinations : Matrix → List (List Param)
combinations matrix = map (combination matrix) (range_with_len 0 (combination_count matrix))
