-- The values that a run's parameters take (Tekton, PipelineRuns, Specifying Parameters).
use Rattle.std.specs.Prelude.{ℕ, Bool, true, false, List, [], ◌++◌, map, filter, filter_map, Option, Result, Err, is_none, option_map, option_and_then}
use Rattle.std.specs.List.{list_any}
use Rattle.tk_types.specs.declared.value.Param.{Param}
use Rattle.tk_types.specs.declared.value.ParamSpec.{ParamSpec}
use Rattle.tk_types.specs.declared.value.Value.{Value}
use Rattle.tk_bind.specs.declared.refusal.BindError.{BindError}
use Rattle.tk_bind.specs.declared.refusal.BindError.TheVariants.{Missing, WrongKind}
use Rattle.tk_bind.specs.Bind.{first_value, completed, bound_param}
use Rattle.tk_bind.specs.Scope.{declared}

-- a declared parameter with its value, if it has one; of an object the absent keys come from its default
abbrev pub valued : List Param → List Param → List Param → ParamSpec → Option Param
valued given outer fallback wanted = option_map (λ value. record { name = wanted.name; value = completed value wanted.default_value }) (first_value wanted given outer fallback)

-- the declared parameters that have a value, in their order, and behind them what is given beside them
abbrev pub undeclared : List ParamSpec → List Param → List Param
undeclared wanted given = filter (λ (p : Param). is_none (declared wanted p.name)) given

abbrev pub all_values : List ParamSpec → List Param → List Param
all_values wanted given = filter_map (valued given [] []) wanted ++ undeclared wanted given

-- What a spec that is inlined in a pipeline task sees from outside.

-- the default that a parameter of this name is declared with
abbrev pub default_named : List ParamSpec → List ℕ → Option Value
default_named wanted name = option_and_then (λ (w : ParamSpec). w.default_value) (declared wanted name)

-- the values given to the run, objects with the absent keys of their default
abbrev pub outer_value : List ParamSpec → Param → Param
outer_value wanted p = record p { value = completed p.value (default_named wanted p.name) }

abbrev pub outer_values : List ParamSpec → List Param → List Param
outer_values wanted given = map (outer_value wanted) given

-- the defaults that the pipeline declares
abbrev pub default_param : ParamSpec → Option Param
default_param wanted = option_map (λ value. record { name = wanted.name; value = value }) wanted.default_value

abbrev pub defaults : List ParamSpec → List Param
defaults wanted = filter_map default_param wanted

-- What keeps given values from binding declared parameters.

-- a parameter without a value, or an object without a declared key; and a value of the wrong type
abbrev pub is_missing : Result Param BindError → Bool
is_missing (Err (Missing name)) = true
is_missing bound = false

abbrev pub is_mismatch : Result Param BindError → Bool
is_mismatch (Err (WrongKind name)) = true
is_mismatch bound = false

abbrev pub has_missing : List ParamSpec → List Param → Bool
has_missing wanted given = list_any (λ w. is_missing (bound_param given [] [] w)) wanted

abbrev pub has_mismatch : List ParamSpec → List Param → Bool
has_mismatch wanted given = list_any (λ w. is_mismatch (bound_param given [] [] w)) wanted
