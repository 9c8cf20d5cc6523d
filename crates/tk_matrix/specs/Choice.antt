-- Whether an entry agrees with some combination of the lists, judged parameter by parameter.
use Rattle.std.specs.Prelude.{ℕ, Bool, true, ◌&&◌, List, Option, Some, None}
use Rattle.std.specs.List.{list_any, list_all}
use Rattle.tk_types.specs.declared.value.Param.{Param}
use Rattle.tk_types.specs.declared.value.Value.{Value}
use Rattle.tk_types.specs.Value.{value_named, is_text}
use Rattle.tk_matrix.specs.Product.{list_of}
use Rattle.tk_matrix.specs.Include.{is_same_text}

-- the value is one of the texts
abbrev pub is_among : List (List ℕ) → Value → Bool
is_among texts value = list_any (λ text. is_text text value) texts

-- no list has the name, or the list of the name has the parameter's text, and the entry gives that name this text first
abbrev pub is_choice : Option Value → List Param → Param → Bool
is_choice None entry p = true
is_choice (Some list) entry p = is_among (list_of list) p.value && is_same_text (value_named p.name entry) p.value

abbrev pub is_possible : List Param → List Param → Bool
is_possible params entry = list_all (λ (p : Param). is_choice (value_named p.name params) entry p) entry
