-- Parameters are bound exactly where their shapes are, with the same refusals, and have those shapes.
use Rattle.std.proofs.Common.{◌≡◌, ℕ, Bool, true, false, ◌&&◌, cond, List, [], ◌∷◌, Option, Some, None, Result, Ok, Err, refl, ap, ap₂, ◌∙◌}
use Rattle.std.specs.Prelude.{not, option_map, is_some}
use Rattle.std.specs.List.{list_all}
use Rattle.std.specs.Option.{option_or}
use Rattle.tk_types.specs.declared.value.Param.{Param}
use Rattle.tk_types.specs.declared.value.ParamSpec.{ParamSpec}
use Rattle.tk_types.specs.declared.value.Value.{Value}
use Rattle.tk_types.specs.declared.value.Value.TheVariants.{Str, Arr, Obj}
use Rattle.tk_types.specs.Value.{is_of_type, text_at, value_named}
use Rattle.tk_bind.specs.declared.refusal.BindError.{BindError}
use Rattle.tk_bind.specs.declared.refusal.BindError.TheVariants.{Missing, WrongKind}
use Rattle.tk_bind.specs.Bind.{completed, has_keys, first_value, bound_to, bound_param, bound_params}
use Rattle.tk_bind.specs.Substitute.{on_ok}
use Rattle.tk_shape.specs.Bound as shapes
use Rattle.tk_shape.specs.Bound.{completed_shape, default_shape, first_shape, bound_to_shape, bound_shape, bound_shapes}
use Rattle.tk_shape.specs.Shape.{Shape, keyed, keys_of, has_key, shape_of, is_of_kind}
use Rattle.tk_shape.specs.ShapeEnv.{NamedShape, param_shape, shapes_of, shape_named}
use Rattle.tk_shape.proofs.AllThere.{all_ok-map}
use Rattle.tk_shape.proofs.References.{named_same}
use Rattle.tk_shape.proofs.Puts.{put_all_keys}
use Rattle.tk_shape.proofs.Selected.{is_some-text_at, kind_same}

pub completed_same : (value : Value) (own : Option Value) → shape_of (completed value own) ≡ completed_shape (shape_of value) (option_map shape_of own)
completed_same (Str text) own = refl
completed_same (Arr texts) own = refl
completed_same (Obj pairs) None = refl
completed_same (Obj pairs) (Some (Str text)) = refl
completed_same (Obj pairs) (Some (Arr texts)) = refl
completed_same (Obj pairs) (Some (Obj defaults)) = ap keyed (put_all_keys pairs defaults)

all_same : {X : Type 0} (p q : X → Bool) → ((x : X) → p x ≡ q x) → (xs : List X) → list_all p xs ≡ list_all q xs
all_same p q same [] = refl
all_same p q same (x ∷ xs) = ap₂ (λ a b. a && b) (same x) (all_same p q same xs)

keys_same : (wanted : List (List ℕ)) (value : Value) → has_keys wanted value ≡ shapes.has_keys wanted (shape_of value)
keys_same wanted (Str text) = refl
keys_same wanted (Arr texts) = refl
keys_same wanted (Obj pairs) = all_same (λ key. is_some (text_at key pairs)) (λ key. has_key key (keys_of pairs)) (λ key. is_some-text_at key pairs) wanted

map-or : {X Y : Type 0} (f : X → Y) (a b : Option X) → option_map f (option_or a b) ≡ option_or (option_map f a) (option_map f b)
map-or f None b = refl
map-or f (Some x) b = refl

or_same : {X Y : Type 0} (f : X → Y) (a b : Option X) (c d : Option Y) → option_map f a ≡ c → option_map f b ≡ d → option_map f (option_or a b) ≡ option_or c d
or_same f a b c d first rest = map-or f a b ∙ ap₂ option_or first rest

pub first_same : (wanted : ParamSpec) (given outer fallback : List Param) → option_map shape_of (first_value wanted given outer fallback) ≡ first_shape wanted (shapes_of given) (shapes_of outer) (shapes_of fallback)
first_same wanted given outer fallback =
    or_same shape_of (value_named wanted.name given) (option_or (value_named wanted.name outer) (option_or wanted.default_value (value_named wanted.name fallback))) (shape_named wanted.name (shapes_of given)) (option_or (shape_named wanted.name (shapes_of outer)) (option_or (default_shape wanted) (shape_named wanted.name (shapes_of fallback))))
    (named_same wanted.name given)
    (or_same shape_of (value_named wanted.name outer) (option_or wanted.default_value (value_named wanted.name fallback)) (shape_named wanted.name (shapes_of outer)) (option_or (default_shape wanted) (shape_named wanted.name (shapes_of fallback)))
    (named_same wanted.name outer)
    (or_same shape_of wanted.default_value (value_named wanted.name fallback) (default_shape wanted) (shape_named wanted.name (shapes_of fallback)) refl (named_same wanted.name fallback)))

-- the answer by the two tests
abbrev judged : {X : Type 0} → Bool → Bool → List ℕ → X → Result X BindError
judged is has name x = cond (not is) (Err (WrongKind name)) (cond has (Ok x) (Err (Missing name)))

judged_map : {X Y : Type 0} (f : X → Y) (is has : Bool) (name : List ℕ) (x : X) → on_ok f (judged is has name x) ≡ judged is has name (f x)
judged_map f true true name x = refl
judged_map f true false name x = refl
judged_map f false has name x = refl

judged_same : (wanted : ParamSpec) (full : Value) (shape : Shape) → shape_of full ≡ shape
    → judged (is_of_type wanted.kind full) (has_keys wanted.properties full) wanted.name (let s : NamedShape = record { name = wanted.name; shape = shape_of full } in s)
    ≡ judged (is_of_kind wanted.kind shape) (shapes.has_keys wanted.properties shape) wanted.name (let s : NamedShape = record { name = wanted.name; shape = shape } in s)
judged_same wanted full shape same =
    ap₂ (λ is has. judged is has wanted.name (let s : NamedShape = record { name = wanted.name; shape = shape_of full } in s)) (kind_same wanted.kind full) (keys_same wanted.properties full)
    ∙ ap (λ s. judged (is_of_kind wanted.kind s) (shapes.has_keys wanted.properties s) wanted.name (let n : NamedShape = record { name = wanted.name; shape = s } in n)) same

bound_to_same : (wanted : ParamSpec) (value : Value) → on_ok param_shape (bound_to wanted value) ≡ bound_to_shape wanted (shape_of value)
bound_to_same wanted value =
    judged_map param_shape (is_of_type wanted.kind (completed value wanted.default_value)) (has_keys wanted.properties (completed value wanted.default_value)) wanted.name (let p : Param = record { name = wanted.name; value = completed value wanted.default_value } in p)
    ∙ judged_same wanted (completed value wanted.default_value) (completed_shape (shape_of value) (default_shape wanted)) (completed_same value wanted.default_value)

bound_by : (wanted : ParamSpec) (found : Option Value)
    → on_ok param_shape (elim found [ None ↦ Err (Missing wanted.name) | Some value ↦ bound_to wanted value ])
    ≡ elim (option_map shape_of found) [ None ↦ Err (Missing wanted.name) | Some shape ↦ bound_to_shape wanted shape ]
bound_by wanted None = refl
bound_by wanted (Some value) = bound_to_same wanted value

pub param_same : (given outer fallback : List Param) (wanted : ParamSpec) → on_ok param_shape (bound_param given outer fallback wanted) ≡ bound_shape (shapes_of given) (shapes_of outer) (shapes_of fallback) wanted
param_same given outer fallback wanted =
    bound_by wanted (first_value wanted given outer fallback)
    ∙ ap (λ (o : Option Shape). elim o [ None ↦ Err (Missing wanted.name) | Some shape ↦ bound_to_shape wanted shape ]) (first_same wanted given outer fallback)

pub params_same : (wanted : List ParamSpec) (given outer fallback : List Param) → on_ok shapes_of (bound_params wanted given outer fallback) ≡ bound_shapes wanted (shapes_of given) (shapes_of outer) (shapes_of fallback)
params_same wanted given outer fallback =
    all_ok-map (bound_param given outer fallback) param_shape (bound_shape (shapes_of given) (shapes_of outer) (shapes_of fallback)) (param_same given outer fallback) wanted
