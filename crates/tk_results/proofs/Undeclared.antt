-- A file of an undeclared name changes nothing.
use Rattle.std.proofs.Common.{◌≡◌, ℕ, ◌+◌, ◌-◌, ◌^◌, min, List, [], ◌∷◌, ◌++◌, length, Bool, true, false, ◌&&◌, cond, refl, sym, ap, ◌∙◌, Some, Err}
use Rattle.std.specs.Prelude.{Option, Result, IsTrue, bytes_eq, find, nat_lt, not}
use Rattle.std.specs.List.{filter_map}
use Rattle.std.specs.Option.{option_map_or}
use Rattle.std.proofs.lemmas.List.Sums.{sum_by-cons}
use Rattle.tk_types.specs.declared.value.Param.{Param}
use Rattle.tk_types.specs.declared.value.ResultSpec.{ResultSpec}
use Rattle.tk_types.specs.Lists.{all_ok}
use Rattle.tk_types.specs.Limits.{most_result_bytes}
use Rattle.tk_results.specs.declared.files.Fetched.{Fetched}
use Rattle.tk_results.specs.declared.refusal.GatherError.{GatherError}
use Rattle.tk_results.specs.declared.refusal.GatherError.TheVariants.{TooMany}
use Rattle.tk_results.specs.Gathered.{emitted, file_of, gathered, size_of, total_of}
use Rattle.tk_results.specs.Told.{is_undeclared}

find-skipped : {X : Type 0} (p : X → Bool) (before after : List X) (x : X) → p x ≡ false → find p (before ++ x ∷ after) ≡ find p (before ++ after)
find-skipped p [] after x e = rw e refl
find-skipped {X} p (y ∷ before) after x e = ap (λ (o : Option X). cond (p y) (Some y) o) (find-skipped p before after x e)

parts : (a b : Bool) → IsTrue (not a && b) → (a ≡ false) × IsTrue b
parts true b h = absurd (no_truth h)
  where
    no_truth : false ≡ true → ⊥
    no_truth e = cc
parts false b h = (refl, h)

file_of-skipped : (before after : List Fetched) (file : Fetched) (name : List ℕ) → bytes_eq file.name name ≡ false → file_of (before ++ file ∷ after) name ≡ file_of (before ++ after) name
file_of-skipped before after file name e = rw (find-skipped (λ (f : Fetched). bytes_eq f.name name) before after file e) refl

total-skipped : (specs : List ResultSpec) (before after : List Fetched) (file : Fetched) → IsTrue (is_undeclared specs file) → total_of specs (before ++ file ∷ after) ≡ total_of specs (before ++ after)
total-skipped [] before after file h = refl
total-skipped (spec ∷ specs) before after file h =
    let p = parts (bytes_eq file.name spec.name) (is_undeclared specs file) h in
    let counted = λ (files : List Fetched). sum_by-cons (size_of files) spec specs in
    let size_same : size_of (before ++ file ∷ after) spec ≡ size_of (before ++ after) spec = ap (λ (o : Option (List ℕ)). option_map_or length o 0) (file_of-skipped before after file spec.name p.0) in
    counted (before ++ file ∷ after) ∙ ((λ i. size_same i + total-skipped specs before after file p.1 i) ∙ sym (counted (before ++ after)))

emitted-skipped : (specs : List ResultSpec) (before after : List Fetched) (file : Fetched) → IsTrue (is_undeclared specs file)
    → filter_map (emitted (before ++ file ∷ after)) specs ≡ filter_map (emitted (before ++ after)) specs
emitted-skipped [] before after file h = refl
emitted-skipped (spec ∷ specs) before after file h =
    let p = parts (bytes_eq file.name spec.name) (is_undeclared specs file) h in
    rw (file_of-skipped before after file spec.name p.0, emitted-skipped specs before after file p.1) refl

pub undeclared : (specs : List ResultSpec) (before after : List Fetched) (file : Fetched) → IsTrue (is_undeclared specs file) → gathered specs (before ++ file ∷ after) ≡ gathered specs (before ++ after)
undeclared specs before after file h =
    let answer : ℕ → List (Result Param GatherError) → Result (List Param) GatherError = λ total given. cond (nat_lt most_result_bytes total) (Err (TooMany (min total (2 ^ 64 - 1)))) (all_ok given) in
    λ i. answer (total-skipped specs before after file h i) (emitted-skipped specs before after file h i)
