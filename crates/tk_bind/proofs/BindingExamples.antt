-- Which sources count, and which values have the type and the keys.
use Rattle.std.proofs.Common.{◌≡◌, ℕ, List, [], ◌∷◌, refl}
use Rattle.std.specs.Prelude.{codes, map, Option, Some, None, Result, Ok, Err}
use Rattle.tk_types.specs.declared.value.Pair.{Pair}
use Rattle.tk_types.specs.declared.value.Param.{Param}
use Rattle.tk_types.specs.declared.value.ParamSpec.{ParamSpec}
use Rattle.tk_types.specs.declared.value.ParamType.{ParamType}
use Rattle.tk_types.specs.declared.value.ParamType.TheVariants.{Str as string, Arr as array, Obj as object}
use Rattle.tk_types.specs.declared.value.Value.{Value}
use Rattle.tk_types.specs.declared.value.Value.TheVariants.{Str, Arr, Obj}
use Rattle.tk_bind.specs.declared.refusal.BindError.{BindError}
use Rattle.tk_bind.specs.declared.refusal.BindError.TheVariants.{Missing, WrongKind}
use Rattle.tk_bind.specs.Bind.{bound_params}

-- a parameter `x`, and parameters `x`, each with one of these characters as its value
abbrev x_is : Value → Param
x_is value = record { name = codes "x"; value = value }

abbrev xs : List ℕ → List Param
xs values = map (λ (c : ℕ). x_is (Str (c ∷ []))) values

-- an object whose texts are its keys, which are letters
abbrev lettered : List ℕ → Value
lettered keys = Obj (map (λ (c : ℕ). let p : Pair = record { key = c ∷ []; value = c ∷ [] } in p) keys)

-- a wanted parameter `x`
abbrev wanted : ParamType → Option Value → List (List ℕ) → List ParamSpec
wanted kind default_value keys = record { name = codes "x"; kind = kind; default_value = default_value; properties = keys } ∷ []

abbrev text_bound : Option Value → List ℕ → List ℕ → List ℕ → Result (List Param) BindError
text_bound default_value given outer fallback = bound_params (wanted string default_value []) (xs given) (xs outer) (xs fallback)

given_first : text_bound (Some (Str (codes "3"))) (codes "10") (codes "2") (codes "4") ≡ Ok (xs (codes "1"))
given_first = refl

outside_next : text_bound (Some (Str (codes "3"))) [] (codes "20") (codes "4") ≡ Ok (xs (codes "2"))
outside_next = refl

own_default_next : text_bound (Some (Str (codes "3"))) [] [] (codes "4") ≡ Ok (xs (codes "3"))
own_default_next = refl

default_outside_last : text_bound None [] [] (codes "40") ≡ Ok (xs (codes "4"))
default_outside_last = refl

no_source : text_bound None [] [] [] ≡ Err (Missing (codes "x"))
no_source = refl

given_alone : text_bound None (codes "1") [] [] ≡ Ok (xs (codes "1"))
given_alone = refl

given_before_outside : text_bound None (codes "1") (codes "2") (codes "3") ≡ Ok (xs (codes "1"))
given_before_outside = refl

first_default_outside : text_bound None [] [] (codes "34") ≡ Ok (xs (codes "3"))
first_default_outside = refl

-- a list with a default

abbrev list_bound : List Param → List Param → List Param → Result (List Param) BindError
list_bound given outer fallback = bound_params (wanted array (Some (Arr (codes "a" ∷ []))) []) given outer fallback

text_for_a_list : list_bound (xs (codes "s")) [] [] ≡ Err (WrongKind (codes "x"))
text_for_a_list = refl

default_list : list_bound [] [] [] ≡ Ok (x_is (Arr (codes "a" ∷ [])) ∷ [])
default_list = refl

own_default_before_outside_default : list_bound [] [] (x_is (Arr []) ∷ []) ≡ Ok (x_is (Arr (codes "a" ∷ [])) ∷ [])
own_default_before_outside_default = refl

outside_before_own_default : list_bound [] (x_is (Arr []) ∷ []) [] ≡ Ok (x_is (Arr []) ∷ [])
outside_before_own_default = refl

object_for_a_list : list_bound (x_is (lettered (codes "a")) ∷ []) [] [] ≡ Err (WrongKind (codes "x"))
object_for_a_list = refl

list_for_a_text : bound_params (wanted string None []) (x_is (Arr []) ∷ []) [] [] ≡ Err (WrongKind (codes "x"))
list_for_a_text = refl

text_for_an_object : bound_params (wanted object (Some (lettered (codes "a"))) []) (xs (codes "s")) [] [] ≡ Err (WrongKind (codes "x"))
text_for_an_object = refl

-- an object with a default that lacks a declared key

abbrev object_bound : List Param → Result (List Param) BindError
object_bound given = bound_params (wanted object (Some (lettered (codes "dba"))) (codes "a" ∷ codes "c" ∷ [])) given [] []

keys_in_their_places : object_bound (x_is (lettered (codes "bc")) ∷ []) ≡ Ok (x_is (lettered (codes "abcd")) ∷ [])
keys_in_their_places = refl

-- a key that is given keeps its text
given_key : object_bound (x_is (Obj (record { key = codes "a"; value = codes "1" } ∷ record { key = codes "c"; value = codes "3" } ∷ [])) ∷ [])
    ≡ Ok (x_is (Obj (record { key = codes "a"; value = codes "1" } ∷ record { key = codes "b"; value = codes "b" } ∷ record { key = codes "c"; value = codes "3" } ∷ record { key = codes "d"; value = codes "d" } ∷ [])) ∷ [])
given_key = refl

lacks_a_key : object_bound [] ≡ Err (Missing (codes "x"))
lacks_a_key = refl

-- a value that looks like a reference is bound as it is
value_as_it_is : bound_params (wanted string None []) (x_is (Str (codes "$(params.x)")) ∷ []) [] [] ≡ Ok (x_is (Str (codes "$(params.x)")) ∷ [])
value_as_it_is = refl
