-- A reference takes something of an environment exactly where it takes something of its shapes, and then of that shape.
use Rattle.std.proofs.Common.{◌≡◌, ℕ, Bool, true, false, ◌&&◌, cond, List, [], ◌∷◌, map, Option, Some, None, find, refl, sym, ap, ◌∙◌}
use Rattle.std.specs.Prelude.{bytes_eq, option_map, option_and_then}
use Rattle.tk_types.specs.declared.value.Param.{Param}
use Rattle.tk_types.specs.declared.value.Value.{Value}
use Rattle.tk_types.specs.declared.value.Value.TheVariants.{Str, Arr, Obj}
use Rattle.tk_types.specs.Behaviour.{type_of}
use Rattle.tk_types.specs.Value.{value_named}
use Rattle.tk_vars.specs.declared.reference.Reference.{Reference}
use Rattle.tk_vars.specs.Target.{Target, param, result, word as to_word, target_of}
use Rattle.tk_bind.specs.declared.env.Env.{Env}
use Rattle.tk_bind.specs.declared.env.Given.{Given}
use Rattle.tk_bind.specs.declared.found.Found.{Found}
use Rattle.tk_bind.specs.Found.{found_value}
use Rattle.tk_bind.specs.Substitute.{result_named, target_value, reference_value}
use Rattle.tk_shape.specs.Shape.{shape_of, kind_of, selected_shape}
use Rattle.tk_shape.specs.ShapeEnv.{NamedShape, ResultShape, param_shape, shapes_of, result_shape, shape_env, shape_named, result_shape_named, target_shape, reference_shape}
use Rattle.tk_shape.proofs.Selected.{selected_if, text_at_shape}

-- of things that are mapped, what is found is mapped
found-map : {X Y V S : Type 0} (f : X → Y) (test : Y → Bool) (value : X → V) (shape : Y → S) (g : V → S) → ((x : X) → shape (f x) ≡ g (value x)) → (xs : List X)
    → option_map g (option_map value (find (λ x. test (f x)) xs)) ≡ option_map shape (find test (map f xs))
found-map f test value shape g same [] = refl
found-map f test value shape g same (x ∷ xs) =
    elim (test (f x)) as (λ b. option_map g (option_map value (cond b (Some x) (find (λ x. test (f x)) xs))) ≡ option_map shape (cond b (Some (f x)) (find test (map f xs)))) [
      | true ↦ ap Some (sym (same x))
      | false ↦ found-map f test value shape g same xs
    ]

pub named_same : (name : List ℕ) (params : List Param) → option_map shape_of (value_named name params) ≡ shape_named name (shapes_of params)
named_same name params = found-map param_shape (λ (s : NamedShape). bytes_eq s.name name) (λ (p : Param). p.value) (λ (s : NamedShape). s.shape) shape_of (λ p. refl) params

result_same : (task name : List ℕ) (results : List Given) → option_map shape_of (result_named task name results) ≡ result_shape_named task name (map result_shape results)
result_same task name results =
    found-map result_shape (λ (r : ResultShape). bytes_eq r.task task && bytes_eq r.name name) (λ (g : Given). g.value) (λ (r : ResultShape). r.shape) shape_of (λ g. refl) results

target_same : (env : Env) (target : Target) → option_map shape_of (target_value env target) ≡ target_shape (shape_env env) target
target_same env (param name selector) = selected_if selector (value_named name env.params) ∙ ap (option_and_then (selected_shape selector)) (named_same name env.params)
target_same env (result task name selector) = selected_if selector (result_named task name env.results) ∙ ap (option_and_then (selected_shape selector)) (result_same task name env.results)
target_same env (to_word key) = text_at_shape key env.words

pub reference_same : (env : Env) (r : Reference) → option_map shape_of (reference_value env r) ≡ reference_shape (shape_env env) r
reference_same env r = target_same env (target_of r.parts)

-- the shape of what is found
pub shape_found : (env : Env) (r : Reference) (o p : Option Found) → o ≡ p → option_map found_value o ≡ reference_value env r → option_map (λ (f : Found). shape_of (found_value f)) p ≡ reference_shape (shape_env env) r
shape_found env r o p is found = twice p ∙ (ap (λ q. option_map shape_of (option_map found_value q)) (sym is) ∙ (ap (option_map shape_of) found ∙ reference_same env r))
  where
    twice : (o : Option Found) → option_map (λ (f : Found). shape_of (found_value f)) o ≡ option_map shape_of (option_map found_value o)
    twice None = refl
    twice (Some f) = refl

typed : (found : Option Value) → option_map type_of found ≡ option_map kind_of (option_map shape_of found)
typed None = refl
typed (Some (Str text)) = refl
typed (Some (Arr texts)) = refl
typed (Some (Obj pairs)) = refl

-- the type of what a reference takes
pub type_same : (env : Env) (r : Reference) → option_map type_of (reference_value env r) ≡ option_map kind_of (reference_shape (shape_env env) r)
type_same env r = typed (reference_value env r) ∙ ap (option_map kind_of) (reference_same env r)
