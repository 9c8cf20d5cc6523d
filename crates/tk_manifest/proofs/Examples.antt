-- What is wrong first with some values, and what some say.
use Rattle.std.proofs.Common.{◌≡◌, ℕ, List, [], ◌∷◌, Some, None, refl}
use Rattle.std.specs.Prelude.{codes, fold}
use Rattle.serde_json.specs.Data.{Data, null, string, array, object, no_items, item as element, no_members, put}
use Rattle.tk_types.specs.declared.value.ParamType.TheVariants.{Obj, Arr}
use Rattle.tk_types.specs.Fault.{bad_choice, bad_name, missing_field, unsupported, wrong_kind, wrong_version}
use Rattle.tk_types.specs.Place.{root, ◌▸◌, ◌#◌}
use Rattle.tk_fields.specs.Shape.{field_finding}
use Rattle.tk_manifest.specs.declared.item.Heading.{Heading}
use Rattle.tk_manifest.specs.declared.kinds.KindSet.TheVariants.{Four, WithOutcomes}
use Rattle.tk_manifest.specs.Item.{accepted, has_version, heading, is_named, item, heading_of, headed, kind_stands, kind_text, metadata, metadata_fields, name_by, naming_of, version_stands, version_text}
use Rattle.tk_manifest.specs.Outcomes.{rising_stops, stop_above, stop_of}
use Rattle.tk_manifest.specs.Parameter.{declared_type, type_by, value_of}
use Rattle.tk_manifest.specs.Task.{runs_something, script_or_command}
use Rattle.tk_manifest.specs.Workspace.{folder_or_claim}

-- members may be given in any order
abbrev members : List (List ℕ × Data) → Data
members ms = object (fold (λ all (m : List ℕ × Data). put m.0 m.1 all) no_members ms)

abbrev said : List ℕ → Data
said s = string s

abbrev of_kind : List ℕ → List ℕ → Data
of_kind version kind = members ((codes "apiVersion", said version) ∷ (codes "kind", said kind) ∷ [])

-- both fields stand before one of them is judged
no_kind : heading root (members ((codes "apiVersion", null) ∷ [])) ≡ Some (missing_field (root ▸ codes "kind"))
unfolding heading version_stands kind_stands version_text kind_text field_finding
no_kind = refl

-- the kind is judged before the version
no_such_kind : item Four root (of_kind (codes "v0") (codes "task")) ≡ Some (wrong_kind (root ▸ codes "kind"))
unfolding item heading version_stands kind_stands version_text kind_text headed heading_of accepted field_finding
no_such_kind = refl

other_version : item Four root (of_kind (codes "tekton.dev/v1beta1") (codes "Task")) ≡ Some (wrong_version (root ▸ codes "apiVersion"))
unfolding item heading version_stands kind_stands version_text kind_text headed heading_of accepted has_version field_finding
other_version = refl

-- a list in a list is of no kind
list_in_list : item Four (root # 0) (of_kind (codes "v1") (codes "List")) ≡ Some (wrong_kind (root # 0 ▸ codes "kind"))
unfolding item heading version_stands kind_stands version_text kind_text headed heading_of accepted field_finding
list_in_list = refl

-- Outcomes are of a kind where they are asked for, by a version of their own
outcomes_unasked : accepted Four (record { version = codes "tkn.local/v1"; kind = codes "Outcomes" }) root ≡ Some (wrong_kind (root ▸ codes "kind"))
unfolding accepted
outcomes_unasked = refl

outcomes_asked : accepted WithOutcomes (record { version = codes "tkn.local/v1"; kind = codes "Outcomes" }) root ≡ None
unfolding accepted has_version
outcomes_asked = refl

-- a prefix is judged beside a name too
prefix_beside_name : metadata root (members ((codes "name", said (codes "a")) ∷ (codes "generateName", said (codes "-")) ∷ [])) ≡ Some (bad_name (root ▸ codes "generateName"))
unfolding metadata metadata_fields is_named field_finding
prefix_beside_name = refl

no_name : metadata root (members []) ≡ Some (missing_field (root ▸ codes "name"))
unfolding metadata metadata_fields is_named field_finding
no_name = refl

generated_name : name_by 1 (naming_of (members ((codes "generateName", said (codes "build-")) ∷ []))) ≡ codes "build-00001"
unfolding naming_of
generated_name = refl

name_goes_first : name_by 1 (naming_of (members ((codes "generateName", said (codes "b-")) ∷ (codes "name", said (codes "a")) ∷ []))) ≡ codes "a"
unfolding naming_of
name_goes_first = refl

-- an empty script is a script, and an empty command is none
empty_script : runs_something root (members ((codes "script", said []) ∷ (codes "command", array no_items) ∷ [])) ≡ None
unfolding script_or_command
empty_script = refl

nothing_to_run : runs_something root (members ((codes "command", array no_items) ∷ [])) ≡ Some (unsupported root)
unfolding script_or_command
nothing_to_run = refl

-- a type that isn't written
type_by_properties : declared_type (members ((codes "properties", members []) ∷ (codes "default", said []) ∷ [])) ≡ Obj
unfolding type_by value_of
type_by_properties = refl

type_by_default : declared_type (members ((codes "default", array no_items) ∷ [])) ≡ Arr
unfolding type_by value_of
type_by_default = refl

-- a workspace is bound once
unbound : folder_or_claim root (members []) ≡ Some (missing_field (root ▸ codes "emptyDir"))
unfolding folder_or_claim
unbound = refl

-- stops rise
same_level : rising_stops root (array (element (said (codes "Failure")) (element (said (codes "StoppedRunFinally")) no_items))) ≡ Some (bad_choice (root # 1))
unfolding rising_stops stop_above stop_of
same_level = refl
