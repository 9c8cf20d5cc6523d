-- What holds of each object of an input in which reading finds no fault.
use Rattle.std.proofs.Common.{◌≡◌, ℕ, suc, Bool, true, false, not, ◌||◌, List, [], ◌∷◌, Option, Some, None}
use Rattle.std.specs.Prelude.{All, codes, if◌then◌else◌, is_some, unwrap_or}
use Rattle.std.specs.Option.{option_map_or}
use Rattle.std.proofs.lemmas.List.Elements.{All-cons, All-nil}
use Rattle.serde_json.specs.Data.{Data, null}
use Rattle.serde_json.specs.Find.{get}
use Rattle.tk_types.specs.Fault.{bad_name}
use Rattle.tk_types.specs.First.{Finding, first_from}
use Rattle.tk_types.specs.Place.{Place, root, ◌▸◌, ◌#◌}
use Rattle.tk_names.specs.Rules.{is_name_prefix, is_object_name}
use Rattle.tk_fields.specs.Check.{each}
use Rattle.tk_fields.specs.Get.{at, elements, text_of}
use Rattle.tk_fields.specs.Shape.{field_finding}
use Rattle.tk_manifest.specs.declared.item.Heading.{Heading}
use Rattle.tk_manifest.specs.declared.item.Naming.{Naming}
use Rattle.tk_manifest.specs.declared.item.Naming.TheVariants.{Name, Prefix}
use Rattle.tk_manifest.specs.declared.kinds.KindSet.{KindSet}
use Rattle.tk_manifest.specs.declared.kinds.ObjectKind.{ObjectKind}
use Rattle.tk_manifest.specs.declared.kinds.ObjectKind.TheVariants.{Task, TaskRun, Pipeline, PipelineRun, Outcomes, Scenario}
use Rattle.tk_types.specs.Json.{json_of}
use Rattle.tk_manifest.specs.Input.{body, body_of, is_list, items_from, json_fault, list, list_items, list_items_of, objects_of, reading_fault, whole, whole_of}
use Rattle.tk_manifest.specs.Item.{headed, headed_at, heading_of, is_named, item, item_at, kind_told, metadata, metadata_fields, name_by, naming_of, object, object_at, object_metadata, object_spec}
use Rattle.tk_manifest.specs.Kind.{object_made, spec}
use Rattle.tk_manifest.specs.Parameter.{named}
use Rattle.tk_read_laws.specs.Read.{IsRead, IsReadObject}
use Rattle.tk_read_laws.proofs.Fields.{found_finding, required_at, text_passes}
use Rattle.tk_read_laws.proofs.Names.{generated_is_name}
use Rattle.tk_read_laws.proofs.Nothing.{first_none, not_refused, rest_none}
use Rattle.tk_read_laws.proofs.Pipelines.{pipeline_read}
use Rattle.tk_read_laws.proofs.Runs.{run_read, task_run_read}
use Rattle.tk_read_laws.proofs.Tasks.{task_spec_read}

-- the name, by what stands at `name` and at `generateName`
abbrev naming_by : Option Data → Option Data → Naming
naming_by name prefix = elim name [ Some d ↦ Name (text_of d) | None ↦ Prefix (text_of (unwrap_or prefix null)) ]

name_by_fields : (index : ℕ) (place : Place) (name prefix : Option Data) → found_finding false (codes "name") (named is_object_name) place name ≡ None
    → found_finding false (codes "generateName") (named is_name_prefix) place prefix ≡ None → not (is_some name || is_some prefix) ≡ false
    → is_object_name (name_by index (naming_by name prefix)) ≡ true
name_by_fields index place (Some d) prefix e f there = text_passes is_object_name bad_name (place ▸ codes "name") d e
name_by_fields index place None (Some d) e f there = generated_is_name (text_of d) index (text_passes is_name_prefix bad_name (place ▸ codes "generateName") d f)
name_by_fields index place None None e f there = absurd (let g : ⊥ = cc in g)

name_is_right : (index : ℕ) (place : Place) (d : Data) → metadata place d ≡ None → is_object_name (name_by index (naming_of d)) ≡ true
unfolding metadata metadata_fields is_named naming_of field_finding
name_is_right index place d e =
    let rest = rest_none _ _ e in
    let fields = first_none _ _ rest in
    name_by_fields index place (get (codes "name") d) (get (codes "generateName") d) (first_none _ _ fields) (first_none _ _ (rest_none _ _ fields))
    (not_refused _ _ (first_none _ _ (rest_none _ _ rest)))

-- an object of each kind
made_read : (kind : ObjectKind) (name : List ℕ) → is_object_name name ≡ true → (place : Place) (d : Data) → spec kind place d ≡ None → IsReadObject (object_made kind name d)
unfolding spec object_made
made_read Task name is place d e = task_spec_read place d e
made_read TaskRun name is place d e = task_run_read name is place d e
made_read Pipeline name is place d e = pipeline_read place d e
made_read PipelineRun name is place d e = run_read name is place d e
made_read Outcomes name is place d e = tt
made_read Scenario name is place d e = tt

object_read : (kind : ObjectKind) (index : ℕ) (place : Place) (d : Data) → object kind place d ≡ None → IsReadObject (object_at kind index d)
unfolding object object_metadata object_spec object_at
object_read kind index place d e =
    let rest = rest_none _ _ e in
    made_read kind _
    (name_is_right index (place ▸ codes "metadata") (at (codes "metadata") d) (required_at (codes "metadata") metadata place d (first_none _ _ rest)))
    (place ▸ codes "spec") (at (codes "spec") d)
    (required_at (codes "spec") (spec kind) place d (first_none _ _ (rest_none _ _ rest)))

headed_read : (kinds : KindSet) (h : Heading) (place : Place) (index : ℕ) (d : Data) → headed kinds h place d ≡ None → IsRead (headed_at kinds h place index d)
unfolding headed headed_at
headed_read kinds h place index d e = object_read (kind_told kinds h.kind) index place d (first_none _ _ (rest_none _ _ e))

item_read : (kinds : KindSet) (place : Place) (index : ℕ) (d : Data) → item kinds place d ≡ None → IsRead (item_at kinds place index d)
unfolding item item_at
item_read kinds place index d e = headed_read kinds (heading_of d) place index d (first_none _ _ (rest_none _ _ e))

-- a list of objects, and one alone
items_read : (kinds : KindSet) (place : Place) (index : ℕ) (ds : List Data) → first_from (item kinds) place index ds ≡ None → All IsRead (items_from kinds place index ds)
items_read kinds place index [] e = All-nil IsRead
items_read kinds place index (d ∷ ds) e =
    All-cons IsRead (item_at kinds (place # index) index d) (items_from kinds place (suc index) ds)
    (item_read kinds (place # index) index d (first_none _ _ e)) (items_read kinds place (suc index) ds (rest_none _ _ e))

list_read : (kinds : KindSet) (h : Heading) (place : Place) (d : Data) → list kinds h place d ≡ None → All IsRead (list_items_of kinds place d)
unfolding list list_items list_items_of
list_read kinds h place d e =
    let items = required_at (codes "items") (each (item kinds)) place d (first_none _ _ (rest_none _ _ (rest_none _ _ e))) in
    items_read kinds (place ▸ codes "items") 0 (elements (at (codes "items") d)) (first_none _ _ (rest_none _ _ items))

abbrev body_finding : KindSet → Heading → Place → Data → Bool → Finding
body_finding kinds h place d is = if is then list kinds h place d else headed kinds h place d

body_read : (kinds : KindSet) (h : Heading) (place : Place) (d : Data) (is : Bool) → body_finding kinds h place d is ≡ None
    → All IsRead (if is then list_items_of kinds place d else headed_at kinds h place 0 d ∷ [])
body_read kinds h place d true e = list_read kinds h place d e
body_read kinds h place d false e = All-cons IsRead (headed_at kinds h place 0 d) [] (headed_read kinds h place 0 d e) (All-nil IsRead)

whole_read : (kinds : KindSet) (d : Data) → whole kinds root d ≡ None → All IsRead (whole_of kinds d)
unfolding whole whole_of body body_of
whole_read kinds d e = body_read kinds (heading_of d) root d (is_list (heading_of d)) (first_none _ _ (rest_none _ _ e))

-- the objects of an input
json_read : (kinds : KindSet) (found : Option Data) → json_fault kinds found ≡ None → All IsRead (option_map_or (whole_of kinds) found [])
json_read kinds None e = absurd (let f : ⊥ = cc in f)
json_read kinds (Some d) e = whole_read kinds d e

pub objects_are_read : (kinds : KindSet) (bytes : List ℕ) → reading_fault kinds bytes ≡ None → All IsRead (objects_of kinds bytes)
objects_are_read kinds bytes e = json_read kinds (json_of bytes) (first_none _ _ (rest_none _ _ e))
