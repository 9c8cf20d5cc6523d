-- The parameters that include entries add to a combination, as a map keeps them in order.
use Rattle.std.specs.Prelude.{List, String, map, string_bytes}
use Rattle.tk_types.specs.declared.value.Param.{Param}
use Rattle.tk_types.specs.declared.value.Value.{Value}

-- the parameters of the entries of a map from names to values
abbrev pub params_of : {Z : Type 0} → List (String Z × Value) → List Param
params_of {Z} entries = map (λ (e : String Z × Value). record { name = string_bytes e.0; value = e.1 }) entries
