-- Checks that find faults of reading alone.
use Rattle.std.proofs.Common.{◌≡◌, ℕ, suc, ◌==◌, Bool, true, false, List, [], ◌∷◌, map, Option, Some, None, refl, bytes_eq}
use Rattle.std.specs.List.{AllByRecursion, list_any}
use Rattle.std.specs.Option.{option_or}
use Rattle.serde_json.specs.Data.{Data}
use Rattle.serde_json.specs.Find.{as_bool, as_str, get}
use Rattle.tk_types.specs.declared.fault.Fault.{Fault}
use Rattle.tk_types.specs.declared.fault.Detail.TheVariants.{Nothing}
use Rattle.tk_types.specs.Fault.{bad_choice, fault, missing_field, unknown_field, unsupported, wrong_shape}
use Rattle.tk_types.specs.First.{Finding, first_from, first_in, first_of, refused_if}
use Rattle.tk_types.specs.Lists.{is_empty}
use Rattle.tk_types.specs.Place.{Place, ◌▸◌, ◌#◌}
use Rattle.tk_fields.specs.declared.table.Role.{Role}
use Rattle.tk_fields.specs.declared.table.Role.TheVariants.{Used, Ignored, Refused}
use Rattle.tk_fields.specs.Check.{Check, each, each_member, first_member, free, in_order, no_array, no_object, number_below, number_that, one_of, passes, shaped, some_of, text, text_that, truth}
use Rattle.tk_fields.specs.Get.{as_whole, elements, keys_of, members}
use Rattle.tk_fields.specs.Keys.{Table, first_bad_key, key_finding, role_of}
use Rattle.tk_fields.specs.Shape.{Field, both, field_finding, just_one, neither, object_by, used_fields}
use Rattle.tk_manifest.specs.Laws.{IsReadingFault}

-- nothing, or a fault of reading
abbrev pub Fine : Finding → Type 0
Fine None = Unit {0}
Fine (Some f) = IsReadingFault f

abbrev pub OnlyFine : Check → Type 0
OnlyFine check = (place : Place) (d : Data) → Fine (check place d)

abbrev pub FineAt : (Place → Fault) → Type 0
FineAt told = (place : Place) → IsReadingFault (told place)

pub fine-or : (a b : Finding) → Fine a → Fine b → Fine (option_or a b)
fine-or None b first second = second
fine-or (Some f) b first second = first

pub fine-if : (test : Bool) (f : Fault) → IsReadingFault f → Fine (refused_if test f)
fine-if true f fine = fine
fine-if false f fine = tt

pub fine-first : (findings : List Finding) → AllByRecursion Fine findings → Fine (first_of findings)
fine-first [] fine = tt
fine-first (f ∷ fs) (here, there) = fine-or f (first_of fs) here (fine-first fs there)

pub fine-two : (a b : Bool) (f g : Fault) → IsReadingFault f → IsReadingFault g → Fine (first_of (refused_if a f ∷ refused_if b g ∷ []))
fine-two a b f g first second = fine-or (refused_if a f) (first_of (refused_if b g ∷ [])) (fine-if a f first) (fine-or (refused_if b g) None (fine-if b g second) tt)

pub only-in_order : (checks : List Check) → AllByRecursion OnlyFine checks → OnlyFine (in_order checks)
only-in_order [] fine place d = tt
only-in_order (check ∷ checks) (here, there) place d = fine-or (check place d) (in_order checks place d) (here place d) (only-in_order checks there place d)

-- single values
fine-form : {X : Type 0} (found : Option X) (test : Place → X → Finding) (place : Place) → ((x : X) → Fine (test place x)) → Fine (elim found [ None ↦ Some (wrong_shape place) | Some x ↦ test place x ])
fine-form None test place fine = (refl, refl)
fine-form (Some x) test place fine = fine x

pub only-text : OnlyFine text
only-text place d = fine-form (as_str d) free place (λ x. tt)

pub only-text_that : (test : List ℕ → Bool) (refused : Place → Fault) → FineAt refused → OnlyFine (text_that test refused)
only-text_that test refused fine place d = fine-form (as_str d) (passes test refused) place (λ x. fine-if _ _ (fine place))

pub only-one_of : (words : List (List ℕ)) → OnlyFine (one_of words)
only-one_of words = only-text_that _ _ (λ place. (refl, refl))

pub only-truth : OnlyFine truth
only-truth place d = fine-form (as_bool d) free place (λ x. tt)

pub only-number_that : (test : ℕ → Bool) (refused : Place → Fault) → FineAt refused → OnlyFine (number_that test refused)
only-number_that test refused fine place d = fine-form (as_whole d) (passes test refused) place (λ x. fine-if _ _ (fine place))

pub only-number_below : (limit : ℕ) → OnlyFine (number_below limit)
only-number_below limit = only-number_that _ _ (λ place. (refl, refl))

-- arrays and objects
pub only-no_array : OnlyFine no_array
only-no_array place d = fine-if _ _ (refl, refl)

pub only-no_object : OnlyFine no_object
only-no_object place d = fine-if _ _ (refl, refl)

fine-from : (check : Check) (place : Place) (index : ℕ) (ds : List Data) → OnlyFine check → Fine (first_from check place index ds)
fine-from check place index [] only = tt
fine-from check place index (d ∷ ds) only = fine-or (check (place # index) d) (first_from check place (suc index) ds) (only (place # index) d) (fine-from check place (suc index) ds only)

pub fine-in : (check : Check) (place : Place) (ds : List Data) → OnlyFine check → Fine (first_in check place ds)
fine-in check place ds only = fine-from check place 0 ds only

pub only-each : (check : Check) → OnlyFine check → OnlyFine (each check)
only-each check only place d = fine-first (no_array place d ∷ first_in check place (elements d) ∷ []) (only-no_array place d, (fine-in check place (elements d) only, tt))

pub only-some_of : (check : Check) → OnlyFine check → OnlyFine (some_of check)
only-some_of check only place d =
    fine-first (each check place d ∷ refused_if (is_empty (elements d)) (missing_field place) ∷ []) (only-each check only place d, (fine-if _ _ (refl, refl), tt))

fine-members : (check : Check) (place : Place) (ms : List (List ℕ × Data)) → OnlyFine check → Fine (first_member check place ms)
fine-members check place [] only = tt
fine-members check place (m ∷ ms) only = fine-or (check (place ▸ m.0) m.1) (first_member check place ms) (only (place ▸ m.0) m.1) (fine-members check place ms only)

pub only-each_member : (check : Check) → OnlyFine check → OnlyFine (each_member check)
only-each_member check only place d =
    fine-first (no_object place d ∷ first_member check place (members d) ∷ []) (only-no_object place d, (fine-members check place (members d) only, tt))

-- keys
fine-key : (place : Place) (key : List ℕ) (role : Option Role) → Fine (key_finding place key role)
fine-key place key None = (refl, refl)
fine-key place key (Some Refused) = (refl, refl)
fine-key place key (Some Used) = tt
fine-key place key (Some Ignored) = tt

fine-keys : (table : Table) (place : Place) (keys : List (List ℕ)) → Fine (first_bad_key table place keys)
fine-keys table place [] = tt
fine-keys table place (key ∷ keys) =
    fine-or (key_finding place key (role_of table key)) (first_bad_key table place keys) (fine-key place key (role_of table key)) (fine-keys table place keys)

pub only-object_by : (table : Table) → OnlyFine (object_by table)
unfolding object_by
only-object_by table place d =
    fine-first (no_object place d ∷ first_bad_key table place (keys_of d) ∷ []) (only-no_object place d, (fine-keys table place (keys_of d), tt))

-- fields
fine-value : (f : Field) (place : Place) (found : Option Data) → OnlyFine f.check → Fine (elim found [ None ↦ refused_if f.is_required (missing_field (place ▸ f.key)) | Some value ↦ f.check (place ▸ f.key) value ])
fine-value f place None only = fine-if _ _ (refl, refl)
fine-value f place (Some value) only = only (place ▸ f.key) value

pub only-field : (f : Field) → OnlyFine f.check → OnlyFine (λ place d. field_finding place d f)
unfolding field_finding
only-field f only place d = fine-value f place (get f.key d) only

pub only-used_fields : (used : List Field) → AllByRecursion (λ (f : Field). OnlyFine f.check) used → OnlyFine (used_fields used)
only-used_fields [] only place d = tt
only-used_fields (f ∷ used) (here, there) place d =
    fine-or (field_finding place d f) (used_fields used place d) (only-field f here place d) (only-used_fields used there place d)

-- the choice of two fields
pub only-just_one : (first second : List ℕ) → OnlyFine (just_one first second)
unfolding just_one
only-just_one first second place d =
    fine-first
    (refused_if (neither first second d) (missing_field (place ▸ second)) ∷ refused_if (both first second d) (bad_choice (place ▸ second)) ∷ [])
    (fine-if _ _ (refl, refl), (fine-if _ _ (refl, refl), tt))
