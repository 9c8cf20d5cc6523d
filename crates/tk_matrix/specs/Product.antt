-- The combinations of the lists of a matrix, before its include entries (Tekton, Matrix, Configuring a Matrix).
use Rattle.std.specs.Prelude.{ℕ, ◌*◌, ◌/◌, ◌%◌, Bool, IsTrue, List, [], ◌∷◌, length, bytes_eq, slice_index_or}
use Rattle.std.specs.List.{list_all}
use Rattle.tk_types.specs.declared.value.Param.{Param}
use Rattle.tk_types.specs.declared.value.ParamType.TheVariants.{Arr as array}
use Rattle.tk_types.specs.declared.value.Value.{Value}
use Rattle.tk_types.specs.declared.value.Value.TheVariants.{Str, Arr, Obj}
use Rattle.tk_types.specs.declared.task.Matrix.{Matrix}
use Rattle.tk_types.specs.Lists.{all_differ}
use Rattle.tk_types.specs.Value.{is_of_type}

-- the list that a parameter's value is, and no text where it is none
abbrev pub list_of : Value → List (List ℕ)
list_of (Str text) = []
list_of (Arr texts) = texts
list_of (Obj pairs) = []

-- each value in the matrix's `params` is a list
abbrev pub HasLists : Matrix → Type 0
HasLists matrix = IsTrue (list_all (λ (p : Param). is_of_type array p.value) matrix.params)

-- how many combinations the lists have: one text of each
abbrev pub product_count : List Param → ℕ
product_count [] = 1
product_count (p ∷ ps) = length (list_of p.value) * product_count ps

-- combination i of the lists: each parameter takes the text at (i / (the product of the earlier lengths)) mod its own length
abbrev pub product_from : ℕ → ℕ → List Param → List Param
product_from stride i [] = []
product_from stride i (p ∷ ps) =
    let n = length (list_of p.value) in
    record p { value = Str (slice_index_or (list_of p.value) ((i / stride) % n) []) } ∷ product_from (stride * n) i ps

abbrev pub product_combination : List Param → ℕ → List Param
product_combination params i = product_from 1 i params

-- no list has a text twice
abbrev pub has_distinct_texts : List Param → Bool
has_distinct_texts params = list_all (λ (p : Param). all_differ bytes_eq (list_of p.value)) params
