-- The shapes of what parameters take, and what is missing or of another type, hang on the shapes of what is given.
use Rattle.std.proofs.Common.{◌≡◌, ℕ, Bool, true, false, ◌||◌, cond, List, [], ◌∷◌, ◌++◌, map, Option, Some, None, Result, Ok, Err, refl, sym, ap, ap₂, ◌∙◌}
use Rattle.std.specs.Prelude.{filter, filter_map, is_none, option_map}
use Rattle.std.specs.List.{cons_option, list_any}
use Rattle.std.proofs.lemmas.List.{map-append}
use Rattle.tk_types.specs.declared.value.Param.{Param}
use Rattle.tk_types.specs.declared.value.ParamSpec.{ParamSpec}
use Rattle.tk_types.specs.declared.value.Value.{Value}
use Rattle.tk_bind.specs.declared.refusal.BindError.{BindError}
use Rattle.tk_bind.specs.declared.refusal.BindError.TheVariants.{Memory, Missing, WrongKind}
use Rattle.tk_bind.specs.Bind.{bound_param, completed, first_value}
use Rattle.tk_bind.specs.Scope.{declared}
use Rattle.tk_bind.specs.Substitute.{on_ok}
use Rattle.tk_shape.specs.Bound.{bound_shape, completed_shape, default_shape, first_shape}
use Rattle.tk_shape.specs.Shape.{Shape, shape_of}
use Rattle.tk_shape.specs.ShapeEnv.{NamedShape, param_shape, shapes_of}
use Rattle.tk_shape.proofs.Binds.{completed_same, first_same, param_same}
use Rattle.tk_resolve.specs.Values.{all_values, default_named, has_mismatch, has_missing, is_mismatch, is_missing, outer_value, outer_values, undeclared, valued}

-- ---- the values of declared parameters, and those beside them
abbrev full_shape : ParamSpec → Shape → NamedShape
full_shape wanted shape = record { name = wanted.name; shape = completed_shape shape (default_shape wanted) }

abbrev valued_shape : List NamedShape → ParamSpec → Option NamedShape
valued_shape given wanted = option_map (full_shape wanted) (first_shape wanted given [] [])

abbrev beside : List ParamSpec → List NamedShape → List NamedShape
beside wanted given = filter (λ (s : NamedShape). is_none (declared wanted s.name)) given

abbrev all_shapes : List ParamSpec → List NamedShape → List NamedShape
all_shapes wanted given = filter_map (valued_shape given) wanted ++ beside wanted given

full_found : (wanted : ParamSpec) (found : Option Value)
    → option_map param_shape (option_map (λ value. record { name = wanted.name; value = completed value wanted.default_value }) found) ≡ option_map (full_shape wanted) (option_map shape_of found)
full_found wanted None = refl
full_found wanted (Some value) = ap (λ (s : Shape). Some (let n : NamedShape = record { name = wanted.name; shape = s } in n)) (completed_same value wanted.default_value)

valued_same : (given : List Param) (wanted : ParamSpec) → option_map param_shape (valued given [] [] wanted) ≡ valued_shape (shapes_of given) wanted
valued_same given wanted = full_found wanted (first_value wanted given [] []) ∙ ap (option_map (full_shape wanted)) (first_same wanted given [] [])

map_cons : {X Y : Type 0} (f : X → Y) (o : Option X) (xs : List X) → map f (cons_option o xs) ≡ cons_option (option_map f o) (map f xs)
map_cons f None xs = refl
map_cons f (Some x) xs = refl

all_valued : (given : List Param) (wanted : List ParamSpec) → shapes_of (filter_map (valued given [] []) wanted) ≡ filter_map (valued_shape (shapes_of given)) wanted
all_valued given [] = refl
all_valued given (w ∷ ws) = map_cons param_shape (valued given [] [] w) (filter_map (valued given [] []) ws) ∙ ap₂ cons_option (valued_same given w) (all_valued given ws)

map_cond : {X Y : Type 0} (f : X → Y) (b : Bool) (x : X) (xs : List X) → map f (cond b (x ∷ xs) xs) ≡ cond b (f x ∷ map f xs) (map f xs)
map_cond f true x xs = refl
map_cond f false x xs = refl

all_beside : (wanted : List ParamSpec) (given : List Param) → shapes_of (undeclared wanted given) ≡ beside wanted (shapes_of given)
all_beside wanted [] = refl
all_beside wanted (p ∷ ps) =
    map_cond param_shape (is_none (declared wanted p.name)) p (undeclared wanted ps)
    ∙ ap (λ (ss : List NamedShape). cond (is_none (declared wanted p.name)) (param_shape p ∷ ss) ss) (all_beside wanted ps)

values_by : (wanted : List ParamSpec) (given : List Param) → shapes_of (all_values wanted given) ≡ all_shapes wanted (shapes_of given)
values_by wanted given =
    map-append param_shape (filter_map (valued given [] []) wanted) (undeclared wanted given)
    ∙ ap₂ (λ (a b : List NamedShape). a ++ b) (all_valued given wanted) (all_beside wanted given)

pub values_alike : (wanted : List ParamSpec) (a b : List Param) → shapes_of a ≡ shapes_of b → shapes_of (all_values wanted a) ≡ shapes_of (all_values wanted b)
values_alike wanted a b same = values_by wanted a ∙ (ap (all_shapes wanted) same ∙ sym (values_by wanted b))

-- ---- what an inlined spec sees
abbrev outer_shape : List ParamSpec → NamedShape → NamedShape
outer_shape wanted s = record { name = s.name; shape = completed_shape s.shape (option_map shape_of (default_named wanted s.name)) }

outer_by : (wanted : List ParamSpec) (given : List Param) → shapes_of (outer_values wanted given) ≡ map (outer_shape wanted) (shapes_of given)
outer_by wanted [] = refl
outer_by wanted (p ∷ ps) =
    ap₂ (λ (s : Shape) (ss : List NamedShape). (let n : NamedShape = record { name = p.name; shape = s } in n) ∷ ss)
    (completed_same p.value (default_named wanted p.name)) (outer_by wanted ps)

pub outer_alike : (wanted : List ParamSpec) (a b : List Param) → shapes_of a ≡ shapes_of b → shapes_of (outer_values wanted a) ≡ shapes_of (outer_values wanted b)
outer_alike wanted a b same = outer_by wanted a ∙ (ap (map (outer_shape wanted)) same ∙ sym (outer_by wanted b))

-- ---- what keeps given values from binding
abbrev lacking : Result NamedShape BindError → Bool
lacking (Err (Missing name)) = true
lacking bound = false

abbrev mistyped : Result NamedShape BindError → Bool
mistyped (Err (WrongKind name)) = true
mistyped bound = false

lacking_same : (bound : Result Param BindError) → is_missing bound ≡ lacking (on_ok param_shape bound)
lacking_same (Ok p) = refl
lacking_same (Err (Missing name)) = refl
lacking_same (Err (WrongKind name)) = refl
lacking_same (Err Memory) = refl

mistyped_same : (bound : Result Param BindError) → is_mismatch bound ≡ mistyped (on_ok param_shape bound)
mistyped_same (Ok p) = refl
mistyped_same (Err (Missing name)) = refl
mistyped_same (Err (WrongKind name)) = refl
mistyped_same (Err Memory) = refl

any_same : {X : Type 0} (p q : X → Bool) → ((x : X) → p x ≡ q x) → (xs : List X) → list_any p xs ≡ list_any q xs
any_same p q same [] = refl
any_same p q same (x ∷ xs) = ap₂ (λ (a b : Bool). a || b) (same x) (any_same p q same xs)

missing_by : (wanted : List ParamSpec) (given : List Param) → has_missing wanted given ≡ list_any (λ w. lacking (bound_shape (shapes_of given) [] [] w)) wanted
missing_by wanted given =
    any_same (λ w. is_missing (bound_param given [] [] w)) (λ w. lacking (bound_shape (shapes_of given) [] [] w))
    (λ w. lacking_same (bound_param given [] [] w) ∙ ap lacking (param_same given [] [] w)) wanted

mismatch_by : (wanted : List ParamSpec) (given : List Param) → has_mismatch wanted given ≡ list_any (λ w. mistyped (bound_shape (shapes_of given) [] [] w)) wanted
mismatch_by wanted given =
    any_same (λ w. is_mismatch (bound_param given [] [] w)) (λ w. mistyped (bound_shape (shapes_of given) [] [] w))
    (λ w. mistyped_same (bound_param given [] [] w) ∙ ap mistyped (param_same given [] [] w)) wanted

pub missing_alike : (wanted : List ParamSpec) (a b : List Param) → shapes_of a ≡ shapes_of b → has_missing wanted a ≡ has_missing wanted b
missing_alike wanted a b same =
    missing_by wanted a ∙ (ap (λ (ss : List NamedShape). list_any (λ w. lacking (bound_shape ss [] [] w)) wanted) same ∙ sym (missing_by wanted b))

pub mismatch_alike : (wanted : List ParamSpec) (a b : List Param) → shapes_of a ≡ shapes_of b → has_mismatch wanted a ≡ has_mismatch wanted b
mismatch_alike wanted a b same =
    mismatch_by wanted a ∙ (ap (λ (ss : List NamedShape). list_any (λ w. mistyped (bound_shape ss [] [] w)) wanted) same ∙ sym (mismatch_by wanted b))
