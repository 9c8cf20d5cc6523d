-- What a JSON value has in which a check finds nothing wrong.
use Rattle.std.proofs.Common.{◌≡◌, ℕ, ◌<◌, Bool, true, false, not, List, [], ◌∷◌, map, length, Option, Some, None, option_map, subst, arith}
use Rattle.std.specs.Prelude.{All, unwrap_or}
use Rattle.std.specs.Option.{ForSome}
use Rattle.std.proofs.lemmas.Bool.{not-false}
use Rattle.std.proofs.lemmas.List.Elements.{All-map, All-nil}
use Rattle.std.proofs.lemmas.Option.{none-some, same_Some}
use Rattle.serde_json.specs.Data.{Data, null}
use Rattle.serde_json.specs.Find.{as_str, get}
use Rattle.tk_types.specs.declared.fault.Fault.{Fault}
use Rattle.tk_types.specs.Fault.{missing_field, wrong_shape}
use Rattle.tk_types.specs.First.{Finding, first_in, refused_if}
use Rattle.tk_types.specs.Lists.{is_empty}
use Rattle.tk_types.specs.Place.{Place, ◌▸◌}
use Rattle.tk_fields.specs.Check.{Check, each, no_array, passes, some_of, text_that}
use Rattle.tk_fields.specs.Get.{at, elements, field, list_at, list_of, text_at, text_of}
use Rattle.tk_fields.specs.Shape.{field_finding, optional, required}
use Rattle.tk_read_laws.proofs.Nothing.{each_none, first_none, not_refused, rest_none}

-- a check finds nothing wrong only where what is made of the value has the property
abbrev pub Holds : {X : Type 0} → Check → (Data → X) → (X → Type 0) → Type 0
Holds check made P = (place : Place) (d : Data) → check place d ≡ None → P (made d)

-- texts
abbrev text_finding : (List ℕ → Bool) → (Place → Fault) → Place → Option (List ℕ) → Finding
text_finding test refused place found = elim found [ None ↦ Some (wrong_shape place) | Some x ↦ passes test refused place x ]

text_by : (test : List ℕ → Bool) (refused : Place → Fault) (place : Place) (found : Option (List ℕ)) → text_finding test refused place found ≡ None → test (unwrap_or found []) ≡ true
text_by test refused place None e = absurd (let f : ⊥ = cc in f)
text_by test refused place (Some text) e = not-false (test text) (not_refused (not (test text)) (refused place) e)

pub text_passes : (test : List ℕ → Bool) (refused : Place → Fault) → Holds (text_that test refused) text_of (λ text. test text ≡ true)
text_passes test refused place d e = text_by test refused place (as_str d) e

-- a field that must stand
abbrev pub found_finding : Bool → List ℕ → Check → Place → Option Data → Finding
found_finding is_required key check place found = elim found [ None ↦ refused_if is_required (missing_field (place ▸ key)) | Some value ↦ check (place ▸ key) value ]

required_by : (key : List ℕ) (check : Check) (place : Place) (found : Option Data) → found_finding true key check place found ≡ None → check (place ▸ key) (unwrap_or found null) ≡ None
required_by key check place None e = absurd (let f : ⊥ = cc in f)
required_by key check place (Some value) e = e

pub required_at : (key : List ℕ) (check : Check) (place : Place) (d : Data) → field_finding place d (required key check) ≡ None → check (place ▸ key) (at key d) ≡ None
unfolding field_finding
required_at key check place d e = required_by key check place (get key d) e

pub named_at : (rule : List ℕ → Bool) (refused : Place → Fault) (key : List ℕ) (place : Place) (d : Data) → field_finding place d (required key (text_that rule refused)) ≡ None → rule (text_at key d) ≡ true
named_at rule refused key place d e = text_passes rule refused (place ▸ key) (at key d) (required_at key (text_that rule refused) place d e)

-- a field that may be absent
optional_by : {X : Type 0} (P : X → Type 0) (made : Data → X) (key : List ℕ) (check : Check) → Holds check made P → (place : Place) (found : Option Data) → found_finding false key check place found ≡ None → ForSome (option_map made found) P
optional_by P made key check holds place None e = λ x is. absurd (none-some x is)
optional_by P made key check holds place (Some value) e = λ x is. subst P (same_Some (made value) x is) (holds (place ▸ key) value e)

pub optional_at : {X : Type 0} (P : X → Type 0) (made : Data → X) (key : List ℕ) (check : Check) → Holds check made P → (place : Place) (d : Data) → field_finding place d (optional key check) ≡ None → ForSome (field made key d) P
unfolding field_finding
optional_at P made key check holds place d e = optional_by P made key check holds place (get key d) e

-- lists
pub each_of : {X : Type 0} (P : X → Type 0) (made : Data → X) (check : Check) → Holds check made P → Holds (each check) (list_of made) (All P)
each_of P made check holds place d e =
    All-map P made (elements d)
    (each_none check (λ v. P (made v)) holds place (elements d) (first_none (first_in check place (elements d)) None (rest_none (no_array place d) _ e)))

some_mapped : {X Y : Type 0} (f : X → Y) (xs : List X) → is_empty xs ≡ false → 0 < length (map f xs)
some_mapped f [] e = absurd (let f : ⊥ = cc in f)
some_mapped f (x ∷ xs) e = omega arith

pub some_each : (check : Check) (place : Place) (d : Data) → some_of check place d ≡ None → each check place d ≡ None
some_each check place d e = first_none (each check place d) _ e

pub some_there : {X : Type 0} (made : Data → X) (check : Check) (place : Place) (d : Data) → some_of check place d ≡ None → 0 < length (list_of made d)
some_there made check place d e =
    some_mapped made (elements d)
    (not_refused (is_empty (elements d)) (missing_field place) (first_none (refused_if (is_empty (elements d)) (missing_field place)) None (rest_none (each check place d) _ e)))

list_by : {X : Type 0} (P : X → Type 0) (made : Data → X) (key : List ℕ) (check : Check) → Holds check made P → (place : Place) (found : Option Data) → found_finding false key (each check) place found ≡ None → All P (list_of made (unwrap_or found null))
list_by P made key check holds place None e = All-nil P
list_by P made key check holds place (Some value) e = each_of P made check holds (place ▸ key) value e

pub optional_list : {X : Type 0} (P : X → Type 0) (made : Data → X) (key : List ℕ) (check : Check) → Holds check made P → (place : Place) (d : Data) → field_finding place d (optional key (each check)) ≡ None → All P (list_at made key d)
unfolding field_finding
optional_list P made key check holds place d e = list_by P made key check holds place (get key d) e
