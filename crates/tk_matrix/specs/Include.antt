-- What the include entries of a matrix do (Tekton, Matrix, Specifying both `params` and `include`).
use Rattle.std.specs.Prelude.{Bool, true, false, not, ◌||◌, if◌then◌else◌, List, [], ◌∷◌, Option, Some, None, fold, filter, flat_map, is_some, bytes_eq}
use Rattle.std.specs.List.{list_any, list_all, range_with_len}
use Rattle.tk_types.specs.declared.value.Param.{Param}
use Rattle.tk_types.specs.declared.value.Value.{Value}
use Rattle.tk_types.specs.declared.value.Value.TheVariants.{Str}
use Rattle.tk_types.specs.Lists.{is_empty}
use Rattle.tk_types.specs.Value.{value_named, is_text}
use Rattle.tk_matrix.specs.Product.{product_count, product_combination}

-- the combination has the parameter's name with the same text, or doesn't have the name
abbrev pub is_same_text : Option Value → Value → Bool
is_same_text None value = true
is_same_text (Some (Str text)) value = is_text text value
is_same_text (Some _) value = false

abbrev pub agrees_on : List Param → Param → Bool
agrees_on combination p = is_same_text (value_named p.name combination) p.value

-- the entry agrees with the combination on each name that they share
abbrev pub agrees : List Param → List Param → Bool
agrees combination entry = list_all (agrees_on combination) entry

-- the parameters of an entry whose names the combination doesn't have
abbrev pub others : List Param → List Param → List Param
others combination entry = filter (λ (p : Param). not (is_some (value_named p.name combination))) entry

-- a parameter put in the place of the one of its name, or at the end
abbrev pub with_param : List Param → Param → List Param
with_param [] p = p ∷ []
with_param (q ∷ qs) p = if bytes_eq q.name p.name then p ∷ qs else q ∷ with_param qs p

-- a combination of the lists, with the other parameters of each entry that agrees with it put in, in order
abbrev pub extended : List (List Param) → List Param → List Param
extended entries combination = fold with_param combination (flat_map (others combination) (filter (agrees combination) entries))

-- some combination of the lists agrees with the entry
abbrev pub agrees_somewhere : List Param → List Param → Bool
agrees_somewhere params entry = list_any (λ i. agrees (product_combination params i) entry) (range_with_len 0 (product_count params))

-- the entry is a combination of its own: none agrees with it, or there are no lists
abbrev pub stands_alone : List Param → List Param → Bool
stands_alone params entry = is_empty params || not (agrees_somewhere params entry)
