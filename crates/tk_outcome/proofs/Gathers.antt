-- Gathered results are declared ones, each once and with a value of its type.
use Rattle.std.proofs.Common.{◌≡◌, ◌≢◌, ℕ, suc, ◌<◌, ◌+◌, List, [], ◌∷◌, length, get_or, Option, Some, None, Ok, Err, Bool, true, false, IsTrue, nat_lt, option_map, filter_map, refl, sym, ◌∙◌, ap, subst, inl, inr, arith, Contains, All, AllPairs, cond}
use Rattle.std.specs.Prelude.{Result, ok_or, option_and_then}
use Rattle.std.specs.List.{cons_option}
use Rattle.std.specs.Result.{result_ok}
use Rattle.std.proofs.lemmas.Bool.{cases_Bool}
use Rattle.std.proofs.lemmas.List.Elements.{All-contains, All-cons, All-weaker}
use Rattle.std.proofs.lemmas.List.Kept.{AllPairs-cons}
use Rattle.tk_types.specs.Lists.{all_ok}
use Rattle.tk_types.specs.Value.{is_of_type}
use Rattle.tk_types.specs.declared.value.Pair.{Pair}
use Rattle.tk_types.specs.declared.value.Param.{Param}
use Rattle.tk_types.specs.declared.value.ParamType.{ParamType}
use Rattle.tk_types.specs.declared.value.ParamType.TheVariants.{Str as string, Arr as array, Obj as object}
use Rattle.tk_types.specs.declared.value.ResultSpec.{ResultSpec}
use Rattle.tk_types.specs.declared.value.Value.{Value}
use Rattle.tk_types.specs.declared.value.Value.TheVariants.{Str, Arr, Obj}
use Rattle.tk_types.specs.Limits.{most_result_bytes}
use Rattle.tk_results.specs.declared.files.Fetched.{Fetched}
use Rattle.tk_results.specs.declared.refusal.GatherError.{GatherError}
use Rattle.tk_results.specs.declared.refusal.GatherError.TheVariants.{Bad}
use Rattle.tk_results.specs.Gathered.{gathered, emitted, file_of, param_of, total_of}
use Rattle.tk_types.specs.Json.{text_of, json_of}
use Rattle.tk_results.specs.Read.{value_of, list_of, object_of}
use Rattle.tk_journal.specs.PodRows.{AreResults}
use Rattle.tk_outcome.specs.Walked.{once_each, gathering}
use Rattle.tk_outcome.proofs.Firsts.{Differ, once_differ, once_within}

-- what is read has the type
typed : (kind : ParamType) (bytes : List ℕ) (value : Value) → value_of kind bytes ≡ Some value → IsTrue (is_of_type kind value)
typed string bytes value is = go (text_of bytes) is
  where
    go : (o : Option (List ℕ)) → option_map Str o ≡ Some value → IsTrue (is_of_type string value)
    go None e = cc (e)
    go (Some text) e = (let same : Str text ≡ value = cc in subst (λ (v : Value). IsTrue (is_of_type string v)) same refl)
typed array bytes value is = go (option_and_then list_of (json_of bytes)) is
  where
    go : (o : Option (List (List ℕ))) → option_map Arr o ≡ Some value → IsTrue (is_of_type array value)
    go None e = cc (e)
    go (Some texts) e = (let same : Arr texts ≡ value = cc in subst (λ (v : Value). IsTrue (is_of_type array v)) same refl)
typed object bytes value is = go (option_and_then object_of (json_of bytes)) is
  where
    go : (o : Option (List Pair)) → option_map Obj o ≡ Some value → IsTrue (is_of_type object value)
    go None e = cc (e)
    go (Some pairs) e = (let same : Obj pairs ≡ value = cc in subst (λ (v : Value). IsTrue (is_of_type object v)) same refl)

-- the result is one of these declared ones
abbrev IsOf : List ResultSpec → Param → Type 0
IsOf specs param = (spec : ResultSpec) × Contains specs spec × (spec.name ≡ param.name) × IsTrue (is_of_type spec.kind param.value)

-- the results are of these declarations, in their order
record AreOf (specs : List ResultSpec) (results : List Param) : Type 0 where
  pub each : All (IsOf specs) results
  pub once : AllPairs Differ specs → AllPairs (λ (a b : Param). a.name ≢ b.name) results

more_of : (spec : ResultSpec) (specs : List ResultSpec) (param : Param) → IsOf specs param → IsOf (spec ∷ specs) param
more_of spec specs param (s, (k, less, is), named, fits) = (s, (suc k, omega (arith, less), is), named, fits)

pairs_tail : {X : Type 0} (R : X → X → Type 0) (x : X) (xs : List X) → AllPairs R (x ∷ xs) → AllPairs R xs
pairs_tail R x xs pairs i j d before less = pairs (suc i) (suc j) d (omega (arith, before)) (omega (arith, less))

pairs_head : {X : Type 0} (R : X → X → Type 0) (x : X) (xs : List X) → AllPairs R (x ∷ xs) → All (R x) xs
pairs_head R x xs pairs k d less = pairs 0 (suc k) d (omega arith) (omega (arith, less))

-- one that isn't emitted
of_none : (spec : ResultSpec) (specs : List ResultSpec) (results : List Param) → AreOf specs results → AreOf (spec ∷ specs) results
of_none spec specs results are = record {
  each = All-weaker (IsOf specs) (IsOf (spec ∷ specs)) (more_of spec specs) results are.each;
  once = λ differ. are.once (pairs_tail Differ spec specs differ);
}

-- one that is
of_some : (spec : ResultSpec) (specs : List ResultSpec) (param : Param) (results : List Param) → param.name ≡ spec.name → IsTrue (is_of_type spec.kind param.value)
    → AreOf specs results → AreOf (spec ∷ specs) (param ∷ results)
of_some spec specs param results named fits are = record {
  each = All-cons (IsOf (spec ∷ specs)) param results (spec, (0, omega arith, refl), sym named, fits)
      (All-weaker (IsOf specs) (IsOf (spec ∷ specs)) (more_of spec specs) results are.each);
  once = λ differ.
      AllPairs-cons (λ (a b : Param). a.name ≢ b.name) param results
      (All-weaker (IsOf specs) (λ (b : Param). param.name ≢ b.name) (apart (pairs_head Differ spec specs differ)) results are.each)
      (are.once (pairs_tail Differ spec specs differ));
}
  where
    apart : All (Differ spec) specs → (b : Param) → IsOf specs b → param.name ≢ b.name
    apart differ b (s, within, same, _) is = All-contains (Differ spec) specs s differ within (sym named ∙ (is ∙ sym same))

abbrev with_first : Param → Result (List Param) GatherError → Result (List Param) GatherError
with_first param rest = elim rest [ Ok xs ↦ Ok (param ∷ xs) | Err e ↦ Err e ]

-- the same of the declarations behind
abbrev Given : List Fetched → List ResultSpec → Type 0
Given found specs = (results : List Param) → all_ok (filter_map (emitted found) specs) ≡ Ok results → AreOf specs results

emitted_of : (found : List Fetched) (specs : List ResultSpec) (results : List Param) → all_ok (filter_map (emitted found) specs) ≡ Ok results → AreOf specs results
emitted_of found [] results is =
    let none : [] ≡ results = cc in
    subst (AreOf []) none (record { each = λ k d less. absurd (omega (arith, less)); once = λ differ i j d before less. absurd (omega (arith, less)) })
emitted_of found (spec ∷ specs) results is = by_file (file_of found spec.name) is (emitted_of found specs)
  where
    by_rest : (param : Param) → param.name ≡ spec.name → IsTrue (is_of_type spec.kind param.value) → (rest : Result (List Param) GatherError) → all_ok (filter_map (emitted found) specs) ≡ rest
        → with_first param rest ≡ Ok results → Given found specs → AreOf (spec ∷ specs) results
    by_rest param named fits (Err e) rest_is all before = cc (all)
    by_rest param named fits (Ok xs) rest_is all before =
        let same : param ∷ xs ≡ results = cc in
        subst (AreOf (spec ∷ specs)) same (of_some spec specs param xs named fits (before xs rest_is))

    by_value : (bytes : List ℕ) (o : Option Value) → value_of spec.kind bytes ≡ o
        → all_ok (ok_or (option_map (λ (value : Value). record { name = spec.name; value = value }) o) (Bad spec.name) ∷ filter_map (emitted found) specs) ≡ Ok results → Given found specs → AreOf (spec ∷ specs) results
    by_value bytes None read all before = cc (all)
    by_value bytes (Some value) read all before =
        by_rest (record { name = spec.name; value = value }) refl (typed spec.kind bytes value read) (all_ok (filter_map (emitted found) specs)) refl all before

    by_file : (o : Option (List ℕ)) → all_ok (cons_option (option_map (param_of spec) o) (filter_map (emitted found) specs)) ≡ Ok results → Given found specs → AreOf (spec ∷ specs) results
    by_file None all before = of_none spec specs results (before results all)
    by_file (Some bytes) all before = by_value bytes (value_of spec.kind bytes) refl all before

gathered_of : (specs : List ResultSpec) (found : List Fetched) (results : List Param) → gathering specs found ≡ Some results → AreOf specs results
gathered_of specs found results is = elim (cases_Bool (nat_lt most_result_bytes (total_of specs found))) [
  | inl large ↦ (let bad : None ≡ Some results = rw large at is in cc)
  | inr small ↦ (let all : result_ok (all_ok (filter_map (emitted found) specs)) ≡ Some results = rw small at is in emitted_of found specs results (ok_of (all_ok (filter_map (emitted found) specs)) all))
]
  where
    ok_of : (r : Result (List Param) GatherError) → result_ok r ≡ Some results → r ≡ Ok results
    ok_of (Ok xs) e = (let same : xs ≡ results = cc in ap Ok same)
    ok_of (Err e) bad = cc (bad)

pub gathered_are_results : (specs : List ResultSpec) (found : List Fetched) (results : List Param) → gathering (once_each specs) found ≡ Some results → AreResults specs results
gathered_are_results specs found results is =
    let are = gathered_of (once_each specs) found results is in
    record {
      once = are.once (once_differ specs);
      each = λ param there. declared (All-contains (IsOf (once_each specs)) results param are.each there);
    }
  where
    declared : {param : Param} → IsOf (once_each specs) param → IsOf specs param
    declared (spec, within, named, fits) = (spec, All-contains (Contains specs) (once_each specs) spec (once_within specs) within, named, fits)

pub none_are_results : (specs : List ResultSpec) → AreResults specs []
none_are_results specs = record {
  once = λ i j d before less. absurd (omega (arith, less));
  each = λ param there. absurd (let less = there.1 in omega (arith, less));
}
