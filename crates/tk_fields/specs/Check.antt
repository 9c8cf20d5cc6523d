-- What is wrong with a JSON value: checks of single values, of lists and of members.
use Rattle.std.specs.Prelude.{ℕ, Bool, not, nat_lt, List, [], ◌∷◌, map, Option, Some, None, bytes_eq}
use Rattle.std.specs.List.{list_any}
use Rattle.std.specs.Option.{option_or}
use Rattle.serde_json.specs.Data.{Data}
use Rattle.serde_json.specs.Find.{as_bool, as_str}
use Rattle.tk_types.specs.declared.fault.Fault.{Fault}
use Rattle.tk_types.specs.Fault.{bad_choice, missing_field, wrong_shape}
use Rattle.tk_types.specs.Place.{Place, ◌▸◌}
use Rattle.tk_types.specs.First.{Finding, first_of, first_in, refused_if}
use Rattle.tk_types.specs.Lists.{is_empty}
use Rattle.tk_fields.specs.Get.{as_whole, elements, is_array, is_object, members}

-- what is wrong first with the value at a place
abbrev pub Check : Type 0
Check = Place → Data → Finding

-- nothing
abbrev pub anything : Check
anything place d = None

-- what some checks of one value find, the first of them first
abbrev pub in_order : List Check → Check
in_order checks place d = first_of (map (λ check. check place d) checks)

-- the value has a form, and then passes a test; without a form it is of the wrong shape
abbrev pub shaped : {X : Type 0} → (Data → Option X) → (Place → X → Finding) → Check
shaped form test place d = elim (form d) [ None ↦ Some (wrong_shape place) | Some x ↦ test place x ]

abbrev pub passes : {X : Type 0} → (X → Bool) → (Place → Fault) → Place → X → Finding
passes test refused place x = refused_if (not (test x)) (refused place)

abbrev pub free : {X : Type 0} → Place → X → Finding
free place x = None

-- a text: any, one that passes a test, one of some words
abbrev pub text : Check
text = shaped as_str free

abbrev pub text_that : (List ℕ → Bool) → (Place → Fault) → Check
text_that test refused = shaped as_str (passes test refused)

abbrev pub one_of : List (List ℕ) → Check
one_of words = text_that (λ t. list_any (bytes_eq t) words) bad_choice

-- a truth value
abbrev pub truth : Check
truth = shaped as_bool free

-- a whole number from 0 on: below a limit, or one that passes a test
abbrev pub number_below : ℕ → Check
number_below limit = shaped as_whole (passes (λ n. nat_lt n limit) wrong_shape)

abbrev pub number_that : (ℕ → Bool) → (Place → Fault) → Check
number_that test refused = shaped as_whole (passes test refused)

-- an array, each element checked at its index
abbrev pub no_array : Check
no_array place d = refused_if (not (is_array d)) (wrong_shape place)

abbrev pub each : Check → Check
each check place d = first_of (no_array place d ∷ first_in check place (elements d) ∷ [])

-- an array that isn't empty
abbrev pub some_of : Check → Check
some_of check place d = first_of (each check place d ∷ refused_if (is_empty (elements d)) (missing_field place) ∷ [])

-- an object, each member checked at its key
abbrev pub no_object : Check
no_object place d = refused_if (not (is_object d)) (wrong_shape place)

abbrev pub first_member : Check → Place → List (List ℕ × Data) → Finding
first_member check place [] = None
first_member check place (m ∷ ms) = option_or (check (place ▸ m.0) m.1) (first_member check place ms)

abbrev pub each_member : Check → Check
each_member check place d = first_of (no_object place d ∷ first_member check place (members d) ∷ [])
