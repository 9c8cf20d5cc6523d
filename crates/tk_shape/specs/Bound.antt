-- Which shapes the wanted parameters take.
use Rattle.std.specs.Prelude.{ℕ, Bool, true, not, if◌then◌else◌, List, [], ◌∷◌, map, Option, Some, None, Result, Ok, Err, fold, option_map}
use Rattle.std.specs.List.{list_all}
use Rattle.std.specs.Option.{option_or}
use Rattle.std.specs.Ordering.{nat_cmp}
use Rattle.std.specs.declared.cmp.Ordering.TheVariants.{Less, Equal, Greater}
use Rattle.std.specs.Cmp.Lexicographic.{slice_cmp}
use Rattle.tk_types.specs.declared.value.ParamSpec.{ParamSpec}
use Rattle.tk_types.specs.Lists.{all_ok}
use Rattle.tk_bind.specs.declared.refusal.BindError.{BindError}
use Rattle.tk_bind.specs.declared.refusal.BindError.TheVariants.{Missing, WrongKind}
use Rattle.tk_shape.specs.Shape.{Shape, keyed, has_key, is_of_kind, shape_of}
use Rattle.tk_shape.specs.ShapeEnv.{NamedShape, shape_named}

-- a key put in its place, unless it is there
abbrev pub with_key : List (List ℕ) → List ℕ → List (List ℕ)
with_key [] key = key ∷ []
with_key (k ∷ ks) key = elim (slice_cmp nat_cmp key k) [ Less ↦ key ∷ k ∷ ks | Equal ↦ k ∷ ks | Greater ↦ k ∷ with_key ks key ]

-- the keys of a default that is an object
abbrev pub default_keys : Option Shape → List (List ℕ)
default_keys (Some (keyed keys)) = keys
default_keys shape = []

-- the shape of an object with the keys that only its default has
abbrev pub completed_shape : Shape → Option Shape → Shape
completed_shape (keyed keys) own = keyed (fold with_key keys (default_keys own))
completed_shape shape own = shape

-- the shape of the parameter's own default
abbrev pub default_shape : ParamSpec → Option Shape
default_shape wanted = option_map shape_of wanted.default_value

-- each declared key of an object is there
abbrev pub has_keys : List (List ℕ) → Shape → Bool
has_keys wanted (keyed keys) = list_all (λ key. has_key key keys) wanted
has_keys wanted shape = true

-- the first of: the shape given, the one given outside, that of its own default, that of the default outside
abbrev pub first_shape : ParamSpec → List NamedShape → List NamedShape → List NamedShape → Option Shape
first_shape wanted given outer fallback =
    option_or (shape_named wanted.name given) (option_or (shape_named wanted.name outer) (option_or (default_shape wanted) (shape_named wanted.name fallback)))

-- the shape of the value bound to a wanted parameter, if it has the type and each declared key
abbrev pub bound_to_shape : ParamSpec → Shape → Result NamedShape BindError
bound_to_shape wanted shape =
    let full = completed_shape shape (default_shape wanted) in
    if not (is_of_kind wanted.kind full) then Err (WrongKind wanted.name) else (if has_keys wanted.properties full then Ok (record { name = wanted.name; shape = full }) else Err (Missing wanted.name))

-- the wanted parameter with its shape
abbrev pub bound_shape : List NamedShape → List NamedShape → List NamedShape → ParamSpec → Result NamedShape BindError
bound_shape given outer fallback wanted = elim (first_shape wanted given outer fallback) [ None ↦ Err (Missing wanted.name) | Some shape ↦ bound_to_shape wanted shape ]

-- the wanted parameters with their shapes, or the first one that has none or has one of the wrong type
abbrev pub bound_shapes : List ParamSpec → List NamedShape → List NamedShape → List NamedShape → Result (List NamedShape) BindError
bound_shapes wanted given outer fallback = all_ok (map (bound_shape given outer fallback) wanted)
