-- What the references of a text may name (Tekton, Pipelines, Variable Substitutions Supported by Tasks and Pipelines).
use Rattle.std.specs.Prelude.{ℕ, Bool, true, false, not, ◌&&◌, ◌||◌, if◌then◌else◌, List, [], ◌∷◌, Option, Some, None, codes, bytes_eq, find, is_some}
use Rattle.std.specs.Option.{option_map_or}
use Rattle.tk_types.specs.declared.value.ParamSpec.{ParamSpec}
use Rattle.tk_types.specs.declared.value.ParamType.{ParamType}
use Rattle.tk_types.specs.declared.value.ParamType.TheVariants.{Str as string, Arr as array, Obj as object}
use Rattle.tk_types.specs.Names.{is_in}
use Rattle.tk_vars.specs.declared.part.Part.{Part}
use Rattle.tk_vars.specs.declared.part.Part.TheVariants.{Name, Index, Star}
use Rattle.tk_vars.specs.declared.reference.Reference.{Reference}
use Rattle.tk_vars.specs.Reading.{ends_with_star}
use Rattle.tk_vars.specs.Target.{Target, param, result, word, target_of}
use Rattle.tk_bind.specs.declared.scope.Scope.{Scope}

-- the declaration of a parameter
abbrev pub declared : List ParamSpec → List ℕ → Option ParamSpec
declared params name = find (λ (p : ParamSpec). bytes_eq p.name name) params

-- the task of a status variable, if it names one, and whether a reference is such a variable
abbrev pub status_task : List Part → Option (List ℕ)
status_task (Name head ∷ Name task ∷ Name last ∷ []) = if bytes_eq head (codes "tasks") && bytes_eq last (codes "status") then Some task else None
status_task parts = None

abbrev pub is_status_of_all : List Part → Bool
is_status_of_all (Name head ∷ Name last ∷ []) = bytes_eq head (codes "tasks") && bytes_eq last (codes "status")
is_status_of_all parts = false

abbrev pub is_status : List Part → Bool
is_status parts = is_status_of_all parts || is_some (status_task parts)

-- the reference has the head `finally`
abbrev pub has_finally_head : List Part → Bool
has_finally_head (Name head ∷ parts) = bytes_eq head (codes "finally")
has_finally_head parts = false

-- the parameter, the result or the word stands in the scope
abbrev pub is_param_visible : Scope → List ℕ → Bool
is_param_visible scope name = is_some (declared scope.params name) || is_in scope.untyped name

abbrev pub is_target_visible : Scope → Target → Bool
is_target_visible scope (param name selector) = is_param_visible scope name
is_target_visible scope (result task name selector) = scope.results
is_target_visible scope (word key) = is_in scope.words key || is_in scope.paths key

-- the reference is to something that stands in the scope
abbrev pub is_visible : Scope → Reference → Bool
is_visible scope r =
    if is_status r.parts then scope.results else (if has_finally_head r.parts then scope.results && scope.finally_results else is_target_visible scope (target_of r.parts))

-- a value of the type may have such a selector
abbrev pub suits : ParamType → List Part → Bool
suits string [] = true
suits array (Index i ∷ []) = true
suits array (Star ∷ []) = true
suits object (Name key ∷ []) = true
suits object (Star ∷ []) = true
suits _ _ = false

-- a parameter is used by its type
abbrev pub is_typed_target : Scope → Target → Bool
is_typed_target scope (param name selector) = is_in scope.untyped name || option_map_or (λ (p : ParamSpec). suits p.kind selector) (declared scope.params name) true
is_typed_target scope target = true

-- and a `[*]` stands where it may
abbrev pub is_well_typed : Scope → Bool → Reference → Bool
is_well_typed scope whole r = is_typed_target scope (target_of r.parts) && (whole || not (ends_with_star r.parts))
