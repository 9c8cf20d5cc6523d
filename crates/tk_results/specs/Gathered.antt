-- The results that an attempt emits, of the files that were fetched (Tekton, Tasks, Emitting Results).
use Rattle.std.specs.Prelude.{◌≡◌, ◌-◌, ◌^◌, ℕ, min, nat_lt, List, length, Option, Result, Err, if◌then◌else◌, bytes_eq, find, ok_or, option_and_then, option_map, sum_by}
use Rattle.std.specs.List.{filter_map}
use Rattle.std.specs.Option.{option_map_or}
use Rattle.tk_types.specs.declared.value.Param.{Param}
use Rattle.tk_types.specs.declared.value.ResultSpec.{ResultSpec}
use Rattle.tk_types.specs.declared.value.Value.{Value}
use Rattle.tk_types.specs.Lists.{all_ok}
use Rattle.tk_types.specs.Limits.{most_result_bytes}
use Rattle.tk_results.specs.declared.files.Fetched.{Fetched}
use Rattle.tk_results.specs.declared.refusal.GatherError.{GatherError}
use Rattle.tk_results.specs.declared.refusal.GatherError.TheVariants.{TooMany, Bad, Memory}
use Rattle.tk_results.specs.Read.{value_of}

-- the bytes of a result's file: of the first file of the name, and none where it is missing
abbrev pub file_of : List Fetched → List ℕ → Option (List ℕ)
file_of files name = option_and_then (λ (f : Fetched). f.bytes) (find (λ (f : Fetched). bytes_eq f.name name) files)

-- how many bytes the files of the declared results hold together
abbrev pub size_of : List Fetched → ResultSpec → ℕ
size_of files spec = option_map_or length (file_of files spec.name) 0

abbrev pub total_of : List ResultSpec → List Fetched → ℕ
total_of specs files = sum_by (size_of files) specs

-- the result of a file's bytes, or the name of the result whose file is refused
abbrev pub param_of : ResultSpec → List ℕ → Result Param GatherError
param_of spec bytes = ok_or (option_map (λ (value : Value). record { name = spec.name; value = value }) (value_of spec.kind bytes)) (Bad spec.name)

-- what a declared result gives: nothing where its file is missing
abbrev pub emitted : List Fetched → ResultSpec → Option (Result Param GatherError)
emitted files spec = option_map (param_of spec) (file_of files spec.name)

-- the emitted results in the order of their declarations, or the first that is refused; none where their files are too large
abbrev pub gathered : List ResultSpec → List Fetched → Result (List Param) GatherError
gathered specs files =
    if nat_lt most_result_bytes (total_of specs files) then Err (TooMany (min (total_of specs files) (2 ^ 64 - 1))) else all_ok (filter_map (emitted files) specs)

-- an error is the one that is due; memory may run out at any time
abbrev pub IsGatherRefusal : {X : Type 0} → Result X GatherError → GatherError → Type 0
IsGatherRefusal due Memory = Unit {0}
IsGatherRefusal due (TooMany bytes) = due ≡ Err (TooMany bytes)
IsGatherRefusal due (Bad name) = due ≡ Err (Bad name)
