-- What the answers of a gathering mean.
use Rattle.std.specs.Prelude.{◌≡◌, ℕ, List, ◌++◌, ◌∷◌, Some, None, Bool, not, bytes_eq}
use Rattle.std.specs.List.{AllByRecursion, list_all}
use Rattle.tk_types.specs.declared.value.ResultSpec.{ResultSpec}
use Rattle.tk_results.specs.declared.files.Fetched.{Fetched}
use Rattle.tk_results.specs.Gathered.{file_of}
use Rattle.tk_results.specs.Read.{value_of}

-- the result's file is there, and its bytes are no value of the result's type
pub record IsRefused (files : List Fetched) (spec : ResultSpec) : Type 0 where
  pub bytes : List ℕ
  pub there : file_of files spec.name ≡ Some bytes
  pub refused : value_of spec.kind bytes ≡ None

-- the name is that of a declared result whose file is refused, and no file of an earlier one is
pub record IsFirstRefused (files : List Fetched) (specs : List ResultSpec) (name : List ℕ) : Type 0 where
  pub before : List ResultSpec
  pub spec : ResultSpec
  pub after : List ResultSpec
  pub split : specs ≡ before ++ spec ∷ after
  pub named : spec.name ≡ name
  pub told : IsRefused files spec
  pub earlier : AllByRecursion (λ s. IsRefused files s → ⊥) before

-- no result of the name is declared
abbrev pub is_undeclared : List ResultSpec → Fetched → Bool
is_undeclared specs file = list_all (λ (s : ResultSpec). not (bytes_eq file.name s.name)) specs
