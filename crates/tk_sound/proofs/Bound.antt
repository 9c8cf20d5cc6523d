-- Where the parameters of a TaskRun bind, its body sees the values by which admission judged.
use Rattle.std.proofs.Common.{◌≡◌, ℕ, Bool, true, false, not, cond, List, [], ◌∷◌, ◌++◌, map, Option, Some, None, Result, Ok, Err, refl, sym, ap, ◌∙◌, subst}
use Rattle.std.specs.Prelude.{All, bytes_eq, filter_map, find, if◌then◌else◌, is_none, option_and_then, option_map}
use Rattle.std.specs.List.{cons_option}
use Rattle.std.specs.Option.{option_map_or, option_or}
use Rattle.std.proofs.lemmas.Bool.{or_parts}
use Rattle.std.proofs.lemmas.List.Elements.{All-cons, All-head, All-nil, All-tail}
use Rattle.std.proofs.lemmas.List.Folds.{find-append}
use Rattle.tk_types.specs.declared.value.Pair.{Pair}
use Rattle.tk_types.specs.declared.value.Param.{Param}
use Rattle.tk_types.specs.declared.value.ParamSpec.{ParamSpec}
use Rattle.tk_types.specs.declared.value.Value.{Value}
use Rattle.tk_types.specs.Lists.{all_ok}
use Rattle.tk_types.specs.Value.{is_of_type, value_named}
use Rattle.tk_names.specs.Rules.{is_param_name}
use Rattle.tk_vars.specs.declared.reference.Reference.{Reference}
use Rattle.tk_vars.specs.Target.{Target, param, result, word, target_of}
use Rattle.tk_vars.proofs.TextFacts.{same_text}
use Rattle.tk_bind.specs.declared.env.Env.{Env}
use Rattle.tk_bind.specs.declared.refusal.BindError.{BindError}
use Rattle.tk_bind.specs.declared.refusal.BindError.TheVariants.{Missing, WrongKind}
use Rattle.tk_bind.specs.Bind.{bound_param, bound_params, bound_to, completed, first_value, has_keys}
use Rattle.tk_bind.specs.Scope.{declared}
use Rattle.tk_bind.specs.Selector.{selected}
use Rattle.tk_types.specs.Behaviour.{type_of}
use Rattle.tk_resolve.specs.Due.{DueText, is_due}
use Rattle.tk_resolve.specs.Misuse.{any_lacks, any_use, lacks}
use Rattle.tk_resolve.specs.Values.{all_values, has_mismatch, has_missing, is_mismatch, is_missing, undeclared, valued}
use Rattle.tk_sound.proofs.Values.{lacks_of}

-- one parameter
abbrev named_with : ParamSpec → Value → Param
named_with wanted value = record { name = wanted.name; value = value }

abbrev bound_by : ParamSpec → Value → Bool → Bool → Result Param BindError
bound_by wanted full typed keyed = if not typed then Err (WrongKind wanted.name) else (if keyed then Ok (named_with wanted full) else Err (Missing wanted.name))

value_binds : (wanted : ParamSpec) (full : Value) (typed keyed : Bool) → is_missing (bound_by wanted full typed keyed) ≡ false → is_mismatch (bound_by wanted full typed keyed) ≡ false
    → bound_by wanted full typed keyed ≡ Ok (named_with wanted full)
value_binds wanted full true true missing mismatch = refl
value_binds wanted full true false missing mismatch = absurd (let f : ⊥ = cc in f)
value_binds wanted full false keyed missing mismatch = absurd (let f : ⊥ = cc in f)

abbrev bound_found : ParamSpec → Option Value → Result Param BindError
bound_found wanted found = elim found [ None ↦ Err (Missing wanted.name) | Some value ↦ bound_to wanted value ]

abbrev valued_found : ParamSpec → Option Value → Option Param
valued_found wanted found = option_map (λ value. named_with wanted (completed value wanted.default_value)) found

record IsBound (wanted : ParamSpec) (made : Result Param BindError) (value : Option Param) : Type 0 where
  param : Param
  ok : made ≡ Ok param
  there : value ≡ Some param
  named : param.name ≡ wanted.name

found_binds : (wanted : ParamSpec) (found : Option Value) → is_missing (bound_found wanted found) ≡ false → is_mismatch (bound_found wanted found) ≡ false → IsBound wanted (bound_found wanted found) (valued_found wanted found)
found_binds wanted None missing mismatch = absurd (let f : ⊥ = cc in f)
found_binds wanted (Some value) missing mismatch =
    let full = completed value wanted.default_value in
    record {
      param = named_with wanted full;
      ok = value_binds wanted full (is_of_type wanted.kind full) (has_keys wanted.properties full) missing mismatch;
      there = refl;
      named = refl;
    }

-- all of them
abbrev is_named : List ℕ → Param → Bool
is_named name p = bytes_eq p.name name

pub record AreBound (given : List Param) (wanted : List ParamSpec) : Type 0 where
  pub params : List Param
  pub ok : bound_params wanted given [] [] ≡ Ok params
  pub values : filter_map (valued given [] []) wanted ≡ params
  pub others : (name : List ℕ) → find (is_named name) params ≡ None → declared wanted name ≡ None
  pub names : All (λ (w : ParamSpec). is_param_name w.name ≡ true) wanted → All (λ (p : Param). is_param_name p.name ≡ true) params

ok_step : (r : Result Param BindError) (rs : List (Result Param BindError)) (p : Param) (ps : List Param) → r ≡ Ok p → all_ok rs ≡ Ok ps → all_ok (r ∷ rs) ≡ Ok (p ∷ ps)
ok_step r rs p ps first rest = ap (λ q. all_ok (q ∷ rs)) first ∙ ap (λ (q : Result (List Param) BindError). elim q [ Ok xs ↦ Ok (p ∷ xs) | Err e ↦ Err e ]) rest

none_step : (b c : Bool) (p : Param) (w : ParamSpec) (rest : Option Param) (others : Option ParamSpec) → b ≡ c → (rest ≡ None → others ≡ None) → cond b (Some p) rest ≡ None → cond c (Some w) others ≡ None
none_step true c p w rest others same later e = absurd (let f : ⊥ = cc in f)
none_step false true p w rest others same later e = absurd (let f : ⊥ = cc in f)
none_step false false p w rest others same later e = later e

pub are_bound : (given : List Param) (wanted : List ParamSpec) → has_missing wanted given ≡ false → has_mismatch wanted given ≡ false → AreBound given wanted
are_bound given [] missing mismatch = record { params = []; ok = refl; values = refl; others = λ name e. refl; names = λ all. All-nil (λ (p : Param). is_param_name p.name ≡ true) }
are_bound given (w ∷ ws) missing mismatch =
    let P : ParamSpec → Type 0 = λ v. is_param_name v.name ≡ true in
    let Q : Param → Type 0 = λ p. is_param_name p.name ≡ true in
    let absent = or_parts (is_missing (bound_param given [] [] w)) (has_missing ws given) missing in
    let mistyped = or_parts (is_mismatch (bound_param given [] [] w)) (has_mismatch ws given) mismatch in
    let first = found_binds w (first_value w given [] []) absent.0 mistyped.0 in
    let rest = are_bound given ws absent.1 mistyped.1 in
    record {
      params = first.param ∷ rest.params;
      ok = ok_step (bound_param given [] [] w) (map (bound_param given [] []) ws) first.param rest.params first.ok rest.ok;
      values = ap (λ o. cons_option o (filter_map (valued given [] []) ws)) first.there ∙ ap (λ ps. first.param ∷ ps) rest.values;
      others =
          λ name e. none_step (bytes_eq first.param.name name) (bytes_eq w.name name) first.param w (find (is_named name) rest.params) (declared ws name)
          (ap (λ n. bytes_eq n name) first.named) (rest.others name) e;
      names = λ all. All-cons Q first.param rest.params (subst (λ n. is_param_name n ≡ true) (sym first.named) (All-head P w ws all)) (rest.names (All-tail P w ws all));
    }

-- what is declared nowhere is found among the given ones
found_step : (name : List ℕ) (b c : Bool) (p : Param) (rest ps : List Param) → (b ≡ true → c ≡ true) → find (is_named name) rest ≡ find (is_named name) ps → is_named name p ≡ b
    → find (is_named name) (cond c (p ∷ rest) rest) ≡ cond b (Some p) (find (is_named name) ps)
found_step name true true p rest ps keeps same is = ap (λ x. cond x (Some p) (find (is_named name) rest)) is
found_step name true false p rest ps keeps same is = absurd (let f : ⊥ = cc (keeps refl) in f)
found_step name false true p rest ps keeps same is = ap (λ x. cond x (Some p) (find (is_named name) rest)) is ∙ same
found_step name false false p rest ps keeps same is = same

found_given : (wanted : List ParamSpec) (given : List Param) (name : List ℕ) → declared wanted name ≡ None → find (is_named name) (undeclared wanted given) ≡ find (is_named name) given
found_given wanted [] name none = refl
found_given wanted (p ∷ ps) name none =
    found_step name (is_named name p) (is_none (declared wanted p.name)) p (undeclared wanted ps) ps
    (λ is. ap (λ n. is_none (declared wanted n)) (same_text p.name name is) ∙ ap is_none none) (found_given wanted ps name none) refl

or_same : (a x y : Option Param) → (a ≡ None → x ≡ y) → option_or a x ≡ option_or a y
or_same None x y same = same refl
or_same (Some p) x y same = refl

pub same_values : (given : List Param) (wanted : List ParamSpec) (bound : AreBound given wanted) (name : List ℕ) → value_named name (all_values wanted given) ≡ value_named name (bound.params ++ given)
same_values given wanted bound name =
    let test = is_named name in
    let others = undeclared wanted given in
    let found : find test (bound.params ++ others) ≡ find test (bound.params ++ given) =
    find-append test bound.params others
    ∙ (or_same (find test bound.params) (find test others) (find test given) (λ none. found_given wanted given name (bound.others name none))
    ∙ sym (find-append test bound.params given)) in
    ap (λ ps. value_named name (ps ++ others)) bound.values ∙ ap (option_map (λ (p : Param). p.value)) found

-- what lacks what is due is the same
abbrev env_of : List Param → List Pair → Env
env_of params words = record { params = params; results = []; words = words }

same_target : (params others : List Param) (words : List Pair) → ((name : List ℕ) → value_named name params ≡ value_named name others) → (due : DueText) (target : Target)
    → lacks_of (env_of params words) due target ≡ lacks_of (env_of others words) due target
same_target params others words same due (param name selector) =
    ap (λ v. not (option_map_or (λ (value : Value). is_due due.0 (type_of value)) (option_and_then (selected selector) v) false)) (same name)
same_target params others words same due (result task name selector) = refl
same_target params others words same due (word key) = refl

same_lacks : (params others : List Param) (words : List Pair) → ((name : List ℕ) → value_named name params ≡ value_named name others) → (due : DueText) (r : Reference)
    → lacks (env_of params words) [] due.0 r ≡ lacks (env_of others words) [] due.0 r
same_lacks params others words same due r = same_target params others words same due (target_of r.parts)

pub lacks_alike : (params others : List Param) (words : List Pair) → ((name : List ℕ) → value_named name params ≡ value_named name others) → (texts : List DueText)
    → any_lacks (env_of params words) [] texts ≡ any_lacks (env_of others words) [] texts
lacks_alike params others words same texts = λ i. any_use (λ due r. same_lacks params others words same (due, []) r i) texts
