-- Objects of the input.
use Rattle.std.specs.Prelude.{ℕ, not, List, [], ◌∷◌, Some, None, codes, bytes_eq, is_some, unwrap_or}
use Rattle.serde_json.specs.Data.{Data}
use Rattle.serde_json.specs.Find.{get}
use Rattle.tk_types.specs.declared.object.Item.{Item}
use Rattle.tk_types.specs.declared.object.ItemObject.{ItemObject}
use Rattle.tk_types.specs.Fault.{missing_field, wrong_kind, wrong_version}
use Rattle.tk_types.specs.Place.{Place, ◌▸◌}
use Rattle.tk_types.specs.First.{Finding, first_of, refused_if}
use Rattle.tk_names.specs.Rules.{is_object_name, is_name_prefix}
use Rattle.tk_names.specs.Children.{generated}
use Rattle.tk_fields.specs.Check.{Check, anything, in_order, no_object, text}
use Rattle.tk_fields.specs.Get.{at, text_at, text_of}
use Rattle.tk_fields.specs.Shape.{neither, object_by, optional, required, used_fields}
use Rattle.tk_manifest.specs.declared.item.Heading.{Heading}
use Rattle.tk_manifest.specs.declared.item.Naming.{Naming}
use Rattle.tk_manifest.specs.declared.item.Naming.TheVariants.{Name, Prefix}
use Rattle.tk_manifest.specs.declared.kinds.KindSet.{KindSet}
use Rattle.tk_manifest.specs.declared.kinds.ObjectKind.{ObjectKind}
use Rattle.tk_manifest.specs.declared.kinds.ObjectKind.TheVariants.{Task}
use Rattle.tk_manifest.specs.Kind.{kind_named, object_made, spec, version_of}
use Rattle.tk_manifest.specs.Parameter.{named, rows, used_field}

-- version and kind are read first: both stand, and both are texts
unfoldable pub version_stands : Check
version_stands = used_field (required (codes "apiVersion") anything)

unfoldable pub kind_stands : Check
kind_stands = used_field (required (codes "kind") anything)

unfoldable pub version_text : Check
version_text = used_field (required (codes "apiVersion") text)

unfoldable pub kind_text : Check
kind_text = used_field (required (codes "kind") text)

unfoldable pub heading : Check
heading = in_order (no_object ∷ version_stands ∷ kind_stands ∷ version_text ∷ kind_text ∷ [])

unfoldable pub heading_of : Data → Heading
heading_of d = record { version = text_at (codes "apiVersion") d; kind = text_at (codes "kind") d }

-- the version is the one that is due
unfoldable pub has_version : List ℕ → List ℕ → Place → Finding
has_version due version place = refused_if (not (bytes_eq version due)) (wrong_version (place ▸ codes "apiVersion"))

-- the kind is accepted, and the version is the kind's
abbrev pub kind_told : KindSet → List ℕ → ObjectKind
kind_told kinds name = unwrap_or (kind_named kinds name) Task

unfoldable pub accepted : KindSet → Heading → Place → Finding
accepted kinds h place =
    first_of
    (refused_if (not (is_some (kind_named kinds h.kind))) (wrong_kind (place ▸ codes "kind"))
    ∷ has_version (version_of (kind_told kinds h.kind)) h.version place
    ∷ [])

-- a name, or the prefix of one that is generated; a name goes first
unfoldable pub metadata_fields : Check
metadata_fields = used_fields (optional (codes "name") (named is_object_name) ∷ optional (codes "generateName") (named is_name_prefix) ∷ [])

unfoldable pub is_named : Check
is_named place d = refused_if (neither (codes "name") (codes "generateName") d) (missing_field (place ▸ codes "name"))

unfoldable pub metadata : Check
metadata = in_order (no_object ∷ metadata_fields ∷ is_named ∷ [])

unfoldable pub naming_of : Data → Naming
naming_of d = elim (get (codes "name") d) [ Some name ↦ Name (text_of name) | None ↦ Prefix (text_at (codes "generateName") d) ]

-- the name of the object at this index of the input
abbrev pub name_by : ℕ → Naming → List ℕ
name_by index (Name name) = name
name_by index (Prefix prefix) = generated prefix index

-- an object of a kind: its keys, its metadata and its spec
unfoldable pub object_keys : Check
object_keys = object_by (rows (codes "apiVersion" ∷ codes "kind" ∷ codes "metadata" ∷ codes "spec" ∷ []) (codes "status" ∷ []) [])

unfoldable pub object_metadata : Check
object_metadata = used_field (required (codes "metadata") metadata)

unfoldable pub object_spec : ObjectKind → Check
object_spec kind = used_field (required (codes "spec") (spec kind))

unfoldable pub object : ObjectKind → Check
object kind = in_order (object_keys ∷ object_metadata ∷ object_spec kind ∷ [])

unfoldable pub object_at : ObjectKind → ℕ → Data → ItemObject
object_at kind index d = object_made kind (name_by index (naming_of (at (codes "metadata") d))) (at (codes "spec") d)

-- an object by its heading
unfoldable pub headed : KindSet → Heading → Check
headed kinds h place d = first_of (accepted kinds h place ∷ object (kind_told kinds h.kind) place d ∷ [])

unfoldable pub headed_at : KindSet → Heading → Place → ℕ → Data → Item
headed_at kinds h place index d = record { place = place; object = object_at (kind_told kinds h.kind) index d }

-- an object of an accepted kind
unfoldable pub item : KindSet → Check
item kinds place d = first_of (heading place d ∷ headed kinds (heading_of d) place d ∷ [])

unfoldable pub item_at : KindSet → Place → ℕ → Data → Item
item_at kinds place index d = headed_at kinds (heading_of d) place index d
