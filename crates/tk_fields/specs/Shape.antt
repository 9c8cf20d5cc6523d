-- Objects of given fields.
use Rattle.std.specs.Prelude.{ℕ, Bool, true, false, not, ◌&&◌, ◌||◌, List, [], ◌∷◌, ◌++◌, map, Some, None}
use Rattle.serde_json.specs.Data.{Data}
use Rattle.serde_json.specs.Find.{get}
use Rattle.tk_types.specs.Fault.{bad_choice, missing_field}
use Rattle.tk_types.specs.Place.{Place, ◌▸◌}
use Rattle.tk_types.specs.First.{Finding, first_of, refused_if}
use Rattle.tk_fields.specs.declared.table.Role.{Role}
use Rattle.tk_fields.specs.declared.table.Role.TheVariants.{Used, Ignored, Refused}
use Rattle.tk_fields.specs.Check.{Check, in_order, no_object}
use Rattle.tk_fields.specs.Get.{has, keys_of}
use Rattle.tk_fields.specs.Keys.{Table, first_bad_key}

-- a field that is used: its key, whether it must stand, and the check of its value
pub record Field : Type 0 where
  pub key : List ℕ
  pub is_required : Bool
  pub check : Check

abbrev pub required : List ℕ → Check → Field
required key check = record { key = key; is_required = true; check = check }

abbrev pub optional : List ℕ → Check → Field
optional key check = record { key = key; is_required = false; check = check }

-- what an object of this shape may have: the used fields in reading order, the keys that are passed over, those that are refused, and
-- the rules between the fields
pub record Shape : Type 0 where
  pub used : List Field
  pub ignored : List (List ℕ)
  pub refused : List (List ℕ)
  pub choices : List Check

-- a shape of used fields alone
abbrev pub fields : List Field → Shape
fields used = record { used = used; ignored = []; refused = []; choices = [] }

-- the table of its keys
abbrev pub with_role : Role → List ℕ → List ℕ × Role
with_role role key = (key, role)

abbrev pub table_of : Shape → Table
table_of shape = map (λ (f : Field). with_role Used f.key) shape.used ++ map (with_role Ignored) shape.ignored ++ map (with_role Refused) shape.refused

-- an object whose keys a table names and doesn't refuse
unfoldable pub object_by : Table → Check
object_by table place d = first_of (no_object place d ∷ first_bad_key table place (keys_of d) ∷ [])

-- what is wrong with a field: it is missing, or its value is wrong
unfoldable pub field_finding : Place → Data → Field → Finding
field_finding place d f = elim (get f.key d) [ None ↦ refused_if f.is_required (missing_field (place ▸ f.key)) | Some value ↦ f.check (place ▸ f.key) value ]

-- fields in order, each whole before the next
abbrev pub used_fields : List Field → Check
used_fields used place d = first_of (map (field_finding place d) used)

-- an object of the shape: its keys are those of the shape, then the fields in order, and then the rules between them
abbrev pub object_of : Shape → Check
object_of shape = in_order (object_by (table_of shape) ∷ used_fields shape.used ∷ shape.choices)

-- the same where every other key is passed over
abbrev pub open_object_of : Shape → Check
open_object_of shape = in_order (no_object ∷ used_fields shape.used ∷ shape.choices)

-- Rules between two fields.

-- none of the two stands
abbrev pub neither : List ℕ → List ℕ → Data → Bool
neither first second d = not (has first d || has second d)

abbrev pub both : List ℕ → List ℕ → Data → Bool
both first second d = has first d && has second d

-- exactly one stands; a fault names the second
unfoldable pub just_one : List ℕ → List ℕ → Check
just_one first second place d =
    first_of (refused_if (neither first second d) (missing_field (place ▸ second)) ∷ refused_if (both first second d) (bad_choice (place ▸ second)) ∷ [])
