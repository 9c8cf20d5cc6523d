-- What is told as refused is the first that is.
use Rattle.std.proofs.Common.{◌≡◌, ℕ, List, [], ◌∷◌, Bool, true, false, cond, refl, sym, ap, ◌∙◌, Some, None, Ok, Err}
use Rattle.std.specs.Prelude.{Option, Result, nat_lt}
use Rattle.std.specs.List.{filter_map}
use Rattle.tk_types.specs.declared.value.Param.{Param}
use Rattle.tk_types.specs.declared.value.ResultSpec.{ResultSpec}
use Rattle.tk_types.specs.declared.value.Value.{Value}
use Rattle.tk_types.specs.Lists.{all_ok}
use Rattle.tk_types.specs.Limits.{most_result_bytes}
use Rattle.tk_results.specs.declared.files.Fetched.{Fetched}
use Rattle.tk_results.specs.declared.refusal.GatherError.{GatherError}
use Rattle.tk_results.specs.declared.refusal.GatherError.TheVariants.{TooMany, Bad}
use Rattle.tk_results.specs.Gathered.{emitted, file_of, gathered, total_of}
use Rattle.tk_results.specs.Read.{value_of}
use Rattle.tk_results.specs.Told.{IsFirstRefused, IsRefused}

-- an earlier result that isn't refused stands before the first that is
behind_one : (files : List Fetched) (spec : ResultSpec) (specs : List ResultSpec) (name : List ℕ) → (IsRefused files spec → ⊥) → IsFirstRefused files specs name → IsFirstRefused files (spec ∷ specs) name
behind_one files spec specs name good first =
    record {
      before = spec ∷ first.before;
      spec = first.spec;
      after = first.after;
      split = ap (λ ss. spec ∷ ss) first.split;
      named = first.named;
      told = first.told;
      earlier = (good, first.earlier);
    }

abbrev with_first : Param → Result (List Param) GatherError → Result (List Param) GatherError
with_first param (Ok params) = Ok (param ∷ params)
with_first param (Err error) = Err error

-- the error of what is left is that of the whole
error_of_rest : (left : Result (List Param) GatherError) (param : Param) (error : GatherError) → with_first param left ≡ Err error → left ≡ Err error
error_of_rest (Ok xs) param error e = cc
error_of_rest (Err e') param error e = e

missing_good : (files : List Fetched) (spec : ResultSpec) → file_of files spec.name ≡ None → IsRefused files spec → ⊥
missing_good files spec missing refused = let e : (let none : Option (List ℕ) = None in none) ≡ Some refused.bytes = sym missing ∙ refused.there in cc

value_good : (files : List Fetched) (spec : ResultSpec) (bytes : List ℕ) (value : Value) → file_of files spec.name ≡ Some bytes → value_of spec.kind bytes ≡ Some value → IsRefused files spec → ⊥
value_good files spec bytes value there is refused =
    let same : Some bytes ≡ Some refused.bytes = sym there ∙ refused.there in
    let bytes_same : bytes ≡ refused.bytes = cc in
    let e : Some value ≡ (let none : Option Value = None in none) = sym is ∙ (ap (value_of spec.kind) bytes_same ∙ refused.refused) in
    cc

told_or_read : (files : List Fetched) (spec : ResultSpec) (specs : List ResultSpec) (name bytes : List ℕ) (value : Option Value)
    → (all_ok (filter_map (emitted files) specs) ≡ Err (Bad name) → IsFirstRefused files specs name)
    → file_of files spec.name ≡ Some bytes → value_of spec.kind bytes ≡ value
    → all_ok (filter_map (emitted files) (spec ∷ specs)) ≡ Err (Bad name) → IsFirstRefused files (spec ∷ specs) name
told_or_read files spec specs name bytes None rest there is e =
    let told : all_ok (filter_map (emitted files) (spec ∷ specs)) ≡ Err (Bad spec.name) = rw (there, is) refl in
    let same : (let r : Result (List Param) GatherError = Err (Bad spec.name) in r) ≡ Err (Bad name) = sym told ∙ e in
    record { before = []; spec = spec; after = specs; split = refl; named = cc; told = record { bytes = bytes; there = there; refused = is }; earlier = tt }
told_or_read files spec specs name bytes (Some value) rest there is e =
    let param : Param = record { name = spec.name; value = value } in
    let goes : all_ok (filter_map (emitted files) (spec ∷ specs)) ≡ with_first param (all_ok (filter_map (emitted files) specs)) = rw (there, is) refl in
    behind_one files spec specs name (value_good files spec bytes value there is) (rest (error_of_rest (all_ok (filter_map (emitted files) specs)) param (Bad name) (sym goes ∙ e)))

step : (files : List Fetched) (spec : ResultSpec) (specs : List ResultSpec) (name : List ℕ) (file : Option (List ℕ))
    → (all_ok (filter_map (emitted files) specs) ≡ Err (Bad name) → IsFirstRefused files specs name)
    → file_of files spec.name ≡ file → all_ok (filter_map (emitted files) (spec ∷ specs)) ≡ Err (Bad name) → IsFirstRefused files (spec ∷ specs) name
step files spec specs name None rest missing e =
    let goes : all_ok (filter_map (emitted files) (spec ∷ specs)) ≡ all_ok (filter_map (emitted files) specs) = rw missing refl in
    behind_one files spec specs name (missing_good files spec missing) (rest (sym goes ∙ e))
step files spec specs name (Some bytes) rest there e = told_or_read files spec specs name bytes (value_of spec.kind bytes) rest there refl e

first_in : (files : List Fetched) (specs : List ResultSpec) (name : List ℕ) → all_ok (filter_map (emitted files) specs) ≡ Err (Bad name) → IsFirstRefused files specs name
first_in files [] name e = cc
first_in files (spec ∷ specs) name e = step files spec specs name (file_of files spec.name) (first_in files specs name) refl e

refused_of : (too_many : Bool) (bytes : ℕ) (left : Result (List Param) GatherError) (name : List ℕ) → cond too_many (Err (TooMany bytes)) left ≡ Err (Bad name) → left ≡ Err (Bad name)
refused_of true bytes left name e = let e' : (let r : Result (List Param) GatherError = Err (TooMany bytes) in r) ≡ Err (Bad name) = e in cc
refused_of false bytes left name e = e

pub first_refused : (specs : List ResultSpec) (files : List Fetched) (name : List ℕ) → gathered specs files ≡ Err (Bad name) → IsFirstRefused files specs name
first_refused specs files name e = first_in files specs name (refused_of (nat_lt most_result_bytes (total_of specs files)) _ (all_ok (filter_map (emitted files) specs)) name e)
