-- A matrix whose references are substituted has lists alone.
use Rattle.std.proofs.Common.{◌≡◌, ◌&&◌, Bool, true, List, [], ◌∷◌, map, Option, Some, None, refl, sym, ap, ◌∙◌, subst}
use Rattle.std.specs.Prelude.{ℕ, option_map, option_and_then}
use Rattle.std.specs.List.{list_all}
use Rattle.tk_types.specs.declared.value.Param.{Param}
use Rattle.tk_types.specs.declared.value.ParamType.TheVariants.{Arr as array}
use Rattle.tk_types.specs.declared.value.Value.TheVariants.{Arr}
use Rattle.tk_types.specs.declared.task.Matrix.{Matrix}
use Rattle.tk_types.specs.Lists.{all_some}
use Rattle.tk_types.specs.Value.{is_of_type}
use Rattle.tk_matrix.specs.Product.{HasLists}
use Rattle.tk_bind.specs.declared.env.Env.{Env}
use Rattle.tk_bind.specs.Params.{list_in, matrix_in, param_in, params_in}
use Rattle.tk_bind.specs.Substitute.{as_list}

abbrev is_list : Param → Bool
is_list p = is_of_type array p.value

texts_make : (p : Param) (o : Option (List (List ℕ))) (q : Param) → option_map (λ texts. record p { value = Arr texts }) o ≡ Some q → is_list q ≡ true
texts_make p None q e = cc
texts_make p (Some texts) q e = let f : record p { value = Arr texts } ≡ q = cc in ap is_list (sym f)

param_makes : (o : Option Param) (q : Param) → option_and_then (λ (p : Param). option_map (λ texts. record p { value = Arr texts }) (as_list p.value)) o ≡ Some q → is_list q ≡ true
param_makes None q e = cc
param_makes (Some p) q e = texts_make p (as_list p.value) q e

cons_lists : (q : Param) (rest : Option (List Param)) (made : List Param) → is_list q ≡ true → ((qs : List Param) → rest ≡ Some qs → list_all is_list qs ≡ true)
    → (elim rest [ None ↦ None | Some qs ↦ Some (q ∷ qs) ]) ≡ Some made → list_all is_list made ≡ true
cons_lists q None made first more e = cc
cons_lists q (Some qs) made first more e =
    let f : q ∷ qs ≡ made = cc in
    ap (list_all is_list) (sym f) ∙ (ap (λ b. b && list_all is_list qs) first ∙ more qs refl)

more_lists : (env : Env) (p : Param) (o : Option Param) (ps made : List Param) → ((q : Param) → o ≡ Some q → is_list q ≡ true) → ((qs : List Param) → all_some (map (list_in env) ps) ≡ Some qs → list_all is_list qs ≡ true)
    → all_some (o ∷ map (list_in env) ps) ≡ Some made → list_all is_list made ≡ true
more_lists env p None ps made first more e = cc
more_lists env p (Some q) ps made first more e = cons_lists q (all_some (map (list_in env) ps)) made (first q refl) more e

lists_alone : (env : Env) (ps made : List Param) → all_some (map (list_in env) ps) ≡ Some made → list_all is_list made ≡ true
lists_alone env [] made e = let f : [] ≡ made = cc in ap (list_all is_list) (sym f)
lists_alone env (p ∷ ps) made e = more_lists env p (list_in env p) ps made (param_makes (param_in env p)) (λ qs. lists_alone env ps qs) e

made_matrix : (params : List Param) (o : Option (List (List Param))) (made : Option Matrix)
    → option_map (λ include. Some (record { params = params; include = include })) o ≡ Some made → (m : Matrix) → made ≡ Some m → m.params ≡ params
made_matrix params None made e m is = cc
made_matrix params (Some include) made e m is =
    let f : Some (record { params = params; include = include }) ≡ made = cc in
    let g : record { params = params; include = include } ≡ m = (let h = f ∙ is in cc) in
    ap (λ (n : Matrix). n.params) (sym g)

of_lists : (env : Env) (m : Matrix) (o : Option (List Param)) (made : Option Matrix) → ((ps : List Param) → o ≡ Some ps → list_all is_list ps ≡ true)
    → option_and_then (λ params. option_map (λ include. Some (record { params = params; include = include })) (all_some (map (params_in env) m.include))) o ≡ Some made
    → (x : Matrix) → made ≡ Some x → HasLists x
of_lists env m None made lists e x is = cc
of_lists env m (Some ps) made lists e x is = subst (λ qs. list_all is_list qs ≡ true) (sym (made_matrix ps (all_some (map (params_in env) m.include)) made e x is)) (lists ps refl)

pub matrix_has_lists : (env : Env) (matrix made : Option Matrix) → matrix_in env matrix ≡ Some made → (x : Matrix) → made ≡ Some x → HasLists x
matrix_has_lists env None made e x is = (let f : None ≡ made = cc in cc)
matrix_has_lists env (Some m) made e x is = of_lists env m (all_some (map (list_in env) m.params)) made (λ ps. lists_alone env m.params ps) e x is
