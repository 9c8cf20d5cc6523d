-- The texts of steps, and the words that they see.
use Rattle.std.proofs.Common.{◌≡◌, ℕ, List, [], ◌∷◌, ◌++◌, Bool, true, false, ◌&&◌, Option, Some, None, Result, Ok, Err, map, is_ok, option_to_list, refl, sym, ap, ◌∙◌, append_assoc}
use Rattle.std.specs.List.{list_all, flat_map}
use Rattle.std.specs.Option.{option_map_or}
use Rattle.std.proofs.lemmas.List.Folds.{list_all-append, list_all-map}
use Rattle.std.proofs.Math.Bool.{and-true}
use Rattle.tk_types.specs.declared.value.Pair.{Pair}
use Rattle.tk_types.specs.declared.task.Step.{Step}
use Rattle.tk_types.specs.Lists.{all_ok}
use Rattle.tk_bind.specs.declared.env.Env.{Env}
use Rattle.tk_bind.specs.Fits.{step_elements, step_single_texts, step_has_values}
use Rattle.tk_bind.specs.Substitute.{on_ok, element, substituted, substituted_list}

-- three more elements
pub three_pushed : {X : Type 0} (old one two all : List X) (a b c x y z : X) → one ≡ old ++ a ∷ [] → two ≡ one ++ b ∷ [] → all ≡ two ++ c ∷ [] → a ≡ x → b ≡ y → c ≡ z → all ≡ old ++ x ∷ y ∷ z ∷ []
three_pushed old one two all a b c x y z e1 e2 e3 ax by cz =
    let f = append_assoc old (x ∷ []) (y ∷ []) in
    let g = append_assoc old (x ∷ y ∷ []) (z ∷ []) in
    cc

is_ok-on_ok : {T U E : Type 0} (f : T → U) (r : Result T E) → is_ok (on_ok f r) ≡ is_ok r
is_ok-on_ok f (Ok x) = refl
is_ok-on_ok f (Err e) = refl

is_ok-cons : {T E : Type 0} (x : T) (r : Result (List T) E) → is_ok (elim r [ Ok xs ↦ Ok (x ∷ xs) | Err e ↦ Err e ]) ≡ is_ok r
is_ok-cons x (Ok xs) = refl
is_ok-cons x (Err e) = refl

is_ok-all_ok : {T E : Type 0} (rs : List (Result T E)) → is_ok (all_ok rs) ≡ list_all is_ok rs
is_ok-all_ok [] = refl
is_ok-all_ok (Ok x ∷ rs) = is_ok-cons x (all_ok rs) ∙ is_ok-all_ok rs
is_ok-all_ok (Err e ∷ rs) = refl

-- a list has a value where each element has one
is_ok-substituted_list : (env : Env) (texts : List (List ℕ)) → is_ok (substituted_list env texts) ≡ list_all (λ text. is_ok (element env text)) texts
is_ok-substituted_list env texts =
    is_ok-on_ok (flat_map (λ (ts : List (List ℕ)). ts)) (all_ok (map (element env) texts))
    ∙ (is_ok-all_ok (map (element env) texts) ∙ list_all-map is_ok (element env) texts)

list_all-option : {X : Type 0} (p : X → Bool) (o : Option X) → list_all p (option_to_list o) ≡ option_map_or p o true
list_all-option p None = refl
list_all-option p (Some x) = and-true (p x)

-- the elements of a step have values
abbrev pub have_elements : Env → Step → Bool
have_elements env step = list_all (λ text. is_ok (element env text)) step.command && list_all (λ text. is_ok (element env text)) step.args

-- the other texts of a step have values
abbrev pub have_texts : Env → Step → Bool
have_texts env step =
    option_map_or (λ text. is_ok (substituted env text)) step.script true
    && list_all (λ (p : Pair). is_ok (substituted env p.value)) step.env
    && option_map_or (λ text. is_ok (substituted env text)) step.dir true

elements_have : (env : Env) (step : Step) → is_ok (substituted_list env (step_elements step)) ≡ have_elements env step
elements_have env step =
    is_ok-substituted_list env (step_elements step) ∙ list_all-append (λ text. is_ok (element env text)) step.command step.args

texts_have : (env : Env) (step : Step) → list_all (λ text. is_ok (substituted env text)) (step_single_texts step) ≡ have_texts env step
texts_have env step =
    let p = λ (text : List ℕ). is_ok (substituted env text) in
    let values = λ (q : Pair). q.value in
    list_all-append p (option_to_list step.script ++ map values step.env) (option_to_list step.dir)
    ∙ (ap (λ b. b && list_all p (option_to_list step.dir)) (list_all-append p (option_to_list step.script) (map values step.env))
    ∙ (ap (λ b. b && list_all p (map values step.env) && list_all p (option_to_list step.dir)) (list_all-option p step.script)
    ∙ (ap (λ b. option_map_or p step.script true && b && list_all p (option_to_list step.dir)) (list_all-map p values step.env)
    ∙ ap (λ b. option_map_or p step.script true && list_all (λ (q : Pair). p q.value) step.env && b) (list_all-option p step.dir))))

-- each text of a step has a value
step_has : (env : Env) (step : Step) → step_has_values env step ≡ (have_elements env step && have_texts env step)
step_has env step =
    ap (λ b. b && list_all (λ text. is_ok (substituted env text)) (step_single_texts step)) (elements_have env step)
    ∙ ap (λ b. have_elements env step && b) (texts_have env step)

pub step_lacks : (env : Env) (step : Step) (have : Bool) → have ≡ have_elements env step → have ≡ false → false ≡ step_has_values env step
step_lacks env step have is lacks = sym (step_has env step ∙ ap (λ b. b && have_texts env step) (sym is ∙ lacks))

pub step_texts_decide : (env : Env) (step : Step) (have : Bool) → have ≡ have_elements env step → have ≡ true → have_texts env step ≡ step_has_values env step
step_texts_decide env step have is has = sym (step_has env step ∙ ap (λ b. b && have_texts env step) (sym is ∙ has))
