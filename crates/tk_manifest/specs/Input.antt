-- The objects of an input, or the first fault of reading.
use Rattle.std.specs.Prelude.{ℕ, suc, Bool, nat_lt, if◌then◌else◌, List, [], ◌∷◌, length, Option, Some, None, codes, bytes_eq}
use Rattle.std.specs.Option.{option_map_or}
use Rattle.serde_json.specs.Data.{Data}
use Rattle.tk_types.specs.declared.object.Item.{Item}
use Rattle.tk_types.specs.Fault.{bad_json, too_long}
use Rattle.tk_types.specs.Json.{json_of}
use Rattle.tk_types.specs.Limits.{longest_input}
use Rattle.tk_types.specs.Place.{Place, root, ◌▸◌, ◌#◌}
use Rattle.tk_types.specs.First.{Finding, first_of, refused_if}
use Rattle.tk_fields.specs.Check.{Check, each}
use Rattle.tk_fields.specs.Get.{at, elements}
use Rattle.tk_fields.specs.Shape.{object_by, required}
use Rattle.tk_manifest.specs.declared.item.Heading.{Heading}
use Rattle.tk_manifest.specs.declared.kinds.KindSet.{KindSet}
use Rattle.tk_manifest.specs.Item.{has_version, headed, headed_at, heading, heading_of, item, item_at}
use Rattle.tk_manifest.specs.Parameter.{rows, used_field}

-- the objects of a list, each with its place and at its index
abbrev pub items_from : KindSet → Place → ℕ → List Data → List Item
items_from kinds place index [] = []
items_from kinds place index (d ∷ ds) = item_at kinds (place # index) index d ∷ items_from kinds place (suc index) ds

-- a list of objects, by its heading; a list in it is of no accepted kind
unfoldable pub list_keys : Check
list_keys = object_by (rows (codes "apiVersion" ∷ codes "kind" ∷ codes "items" ∷ []) (codes "metadata" ∷ []) [])

unfoldable pub list_items : KindSet → Check
list_items kinds = used_field (required (codes "items") (each (item kinds)))

unfoldable pub list_items_of : KindSet → Place → Data → List Item
list_items_of kinds place d = items_from kinds (place ▸ codes "items") 0 (elements (at (codes "items") d))

unfoldable pub list : KindSet → Heading → Check
list kinds h place d = first_of (has_version (codes "v1") h.version place ∷ list_keys place d ∷ list_items kinds place d ∷ [])

-- the whole input is a list, or one object
abbrev pub is_list : Heading → Bool
is_list h = bytes_eq h.kind (codes "List")

unfoldable pub body : KindSet → Heading → Check
body kinds h place d = if is_list h then list kinds h place d else headed kinds h place d

unfoldable pub body_of : KindSet → Heading → Place → Data → List Item
body_of kinds h place d = if is_list h then list_items_of kinds place d else headed_at kinds h place 0 d ∷ []

unfoldable pub whole : KindSet → Check
whole kinds place d = first_of (heading place d ∷ body kinds (heading_of d) place d ∷ [])

unfoldable pub whole_of : KindSet → Data → List Item
whole_of kinds d = body_of kinds (heading_of d) root d

-- what is wrong with what the bytes are as JSON
abbrev pub json_fault : KindSet → Option Data → Finding
json_fault kinds None = Some bad_json
json_fault kinds (Some d) = whole kinds root d

-- the first fault of reading the bytes, and the objects where there is none
abbrev pub reading_fault : KindSet → List ℕ → Finding
reading_fault kinds bytes = first_of (refused_if (nat_lt longest_input (length bytes)) too_long ∷ json_fault kinds (json_of bytes) ∷ [])

abbrev pub objects_of : KindSet → List ℕ → List Item
objects_of kinds bytes = option_map_or (whole_of kinds) (json_of bytes) []
