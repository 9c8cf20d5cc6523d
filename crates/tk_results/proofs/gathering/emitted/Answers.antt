use Rattle.std.proofs.Common.{◌≡◌, ◌+◌, ◌<◌, ℕ, suc, List, [], ◌∷◌, ◌++◌, length, drop, get_or, Option, Some, None, Ok, Err, refl, sym, ap, ◌∙◌, arith, append_assoc, drop-cons, option_map}
use Rattle.std.specs.Prelude.{Result}
use Rattle.std.specs.List.{cons_option, filter_map}
use Rattle.tk_types.specs.Lists.{all_ok}
use Rattle.tk_results.proofs.AllRead.{behind}
use Rattle.tk_results.specs.Gathered.{emitted, file_of, param_of}
use Rattle.tk_results.proofs.gathering.emitted.Goals as goal
use Rattle.tk_results.proofs.gathering.emitted.Goals.{in-Some+in_ok-param_of+in_ok-push, in_default}

-- the elements from a place on, where this one stands there
from_here : {X : Type 0} (xs : List X) (i : ℕ) (x : X) → i < length xs → x ≡ get_or xs i x → drop i xs ≡ x ∷ drop (i + 1) xs
from_here xs i x below is =
    let next : suc i ≡ i + 1 = omega arith in
    drop-cons xs i x below ∙ (ap (λ j. get_or xs i x ∷ drop j xs) next ∙ ap (λ y. y ∷ drop (i + 1) xs) (sym is))

-- a value that is made goes behind those before it
value_behind : {X E : Type 0} (made : List X) (x : X) (rest : Result (List X) E) → behind made (elim rest [ Ok xs ↦ Ok (x ∷ xs) | Err e ↦ Err e ]) ≡ behind (made ++ x ∷ []) rest
value_behind made x (Ok xs) = ap Ok (sym (append_assoc made (x ∷ []) xs))
value_behind made x (Err e) = refl

-- what the elements from a place on give, one element before
step_none : {X Y E : Type 0} (f : X → Option (Result Y E)) (xs : List X) (i : ℕ) (x : X) → i < length xs → x ≡ get_or xs i x → f x ≡ None → filter_map f (drop i xs) ≡ filter_map f (drop (i + 1) xs)
step_none f xs i x below is none = ap (filter_map f) (from_here xs i x below is) ∙ ap (λ o. cons_option o (filter_map f (drop (i + 1) xs))) none

step_some : {X Y E : Type 0} (f : X → Option (Result Y E)) (xs : List X) (i : ℕ) (x : X) (y : Result Y E) → i < length xs → x ≡ get_or xs i x → f x ≡ Some y → filter_map f (drop i xs) ≡ y ∷ filter_map f (drop (i + 1) xs)
step_some f xs i x y below is some = ap (filter_map f) (from_here xs i x below is) ∙ ap (λ o. cons_option o (filter_map f (drop (i + 1) xs))) some

pub loop-spec-preserved : goal.loop-spec-preserved
loop-spec-preserved c =
    let files = c.args.files.now in
    let specs = c.args.specs.now in
    let at = c.loop-spec.spec-index in
    let spec = c.spec-item.result in
    let made = c.loop-spec.params in
    let rest = all_ok (filter_map (emitted files) (drop (at + 1) specs)) in
    elim c.match-file_of.branch [
      | in-Some+in_ok-param_of+in_ok-push w ↦
          let param = w.in_ok-param_of.field-0 in
          let found : file_of files spec.name ≡ Some w.in-Some.bytes.now = ap (file_of files) (sym c.as_str.ensures) ∙ sym w.in-Some.ensures in
          let given : emitted files spec ≡ Some (Ok param) = ap (option_map (param_of spec)) found ∙ ap Some w.in_ok-param_of.ensures.read in
          ap (λ params. behind params rest) (w.params-is ∙ w.in_ok-push.ensures.ok)
          ∙ (sym (value_behind made param rest) ∙ (ap (λ rs. behind made (all_ok rs)) (sym (step_some (emitted files) specs at spec (Ok param) c.loop-spec-test.true c.spec-item.is given)) ∙ c.loop-spec.invariant))
      | in_default w ↦
          let none : emitted files spec ≡ None = ap (λ name. option_map (param_of spec) (file_of files name)) (sym c.as_str.ensures) ∙ ap (option_map (param_of spec)) (sym w.in_default.ensures) in
          ap (λ params. behind params rest) w.params-is
          ∙ (ap (λ rs. behind made (all_ok rs)) (sym (step_none (emitted files) specs at spec c.loop-spec-test.true c.spec-item.is none)) ∙ c.loop-spec.invariant)
    ]
