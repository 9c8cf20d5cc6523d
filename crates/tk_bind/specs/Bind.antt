-- Which values the wanted parameters take.
use Rattle.std.specs.Prelude.{ℕ, Bool, true, not, if◌then◌else◌, List, [], ◌∷◌, map, Option, Some, None, Result, Ok, Err, fold, is_some}
use Rattle.std.specs.List.{list_all}
use Rattle.std.specs.Option.{option_or}
use Rattle.std.specs.Ordering.{nat_cmp}
use Rattle.std.specs.declared.cmp.Ordering.TheVariants.{Less, Equal, Greater}
use Rattle.std.specs.Cmp.Lexicographic.{slice_cmp}
use Rattle.tk_types.specs.declared.value.Pair.{Pair}
use Rattle.tk_types.specs.declared.value.Param.{Param}
use Rattle.tk_types.specs.declared.value.ParamSpec.{ParamSpec}
use Rattle.tk_types.specs.declared.value.Value.{Value}
use Rattle.tk_types.specs.declared.value.Value.TheVariants.{Obj}
use Rattle.tk_types.specs.Lists.{all_ok}
use Rattle.tk_types.specs.Value.{is_of_type, text_at, value_named}
use Rattle.tk_bind.specs.declared.refusal.BindError.{BindError}
use Rattle.tk_bind.specs.declared.refusal.BindError.TheVariants.{Missing, WrongKind}

-- a pair put in its place by its key, unless the key is there
abbrev pub with_pair : List Pair → Pair → List Pair
with_pair [] pair = pair ∷ []
with_pair (p ∷ ps) pair = elim (slice_cmp nat_cmp pair.key p.key) [ Less ↦ pair ∷ p ∷ ps | Equal ↦ p ∷ ps | Greater ↦ p ∷ with_pair ps pair ]

-- an object with the keys that only its default has
abbrev pub completed : Value → Option Value → Value
completed (Obj pairs) (Some (Obj defaults)) = Obj (fold with_pair pairs defaults)
completed value default_value = value

-- each declared key of an object is there
abbrev pub has_keys : List (List ℕ) → Value → Bool
has_keys keys (Obj pairs) = list_all (λ key. is_some (text_at key pairs)) keys
has_keys keys value = true

-- the first of: the value given, the value given outside, its own default, the default outside
abbrev pub first_value : ParamSpec → List Param → List Param → List Param → Option Value
first_value wanted given outer fallback =
    option_or (value_named wanted.name given) (option_or (value_named wanted.name outer) (option_or wanted.default_value (value_named wanted.name fallback)))

-- a value bound to a wanted parameter, if it has the type and each declared key
abbrev pub bound_to : ParamSpec → Value → Result Param BindError
bound_to wanted value =
    let full = completed value wanted.default_value in
    if not (is_of_type wanted.kind full) then Err (WrongKind wanted.name) else (if has_keys wanted.properties full then Ok (record { name = wanted.name; value = full }) else Err (Missing wanted.name))

-- the wanted parameter with its value
abbrev pub bound_param : List Param → List Param → List Param → ParamSpec → Result Param BindError
bound_param given outer fallback wanted = elim (first_value wanted given outer fallback) [ None ↦ Err (Missing wanted.name) | Some value ↦ bound_to wanted value ]

-- the wanted parameters with their values, or the first one that has none or has one of the wrong type
abbrev pub bound_params : List ParamSpec → List Param → List Param → List Param → Result (List Param) BindError
bound_params wanted given outer fallback = all_ok (map (bound_param given outer fallback) wanted)
