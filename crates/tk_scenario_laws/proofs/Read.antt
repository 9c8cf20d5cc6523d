-- Each Scenario of an input in which reading finds no fault may be played.
use Rattle.std.proofs.Common.{◌≡◌, ℕ, suc, Bool, true, false, List, [], ◌∷◌, Option, Some, None}
use Rattle.std.specs.Prelude.{All, codes, if◌then◌else◌}
use Rattle.std.specs.Option.{option_map_or}
use Rattle.std.proofs.lemmas.List.Elements.{All-cons, All-nil}
use Rattle.serde_json.specs.Data.{Data}
use Rattle.tk_types.specs.declared.object.Item.{Item}
use Rattle.tk_types.specs.declared.object.ItemObject.{ItemObject}
use Rattle.tk_types.specs.declared.object.ItemObject.TheVariants.{Scenario as scenario_object}
use Rattle.tk_types.specs.First.{Finding, first_from}
use Rattle.tk_types.specs.Place.{Place, root, ◌▸◌, ◌#◌}
use Rattle.tk_fields.specs.Check.{each}
use Rattle.tk_fields.specs.Get.{at, elements}
use Rattle.tk_manifest.specs.declared.item.Heading.{Heading}
use Rattle.tk_manifest.specs.declared.kinds.KindSet.{KindSet}
use Rattle.tk_manifest.specs.declared.kinds.ObjectKind.{ObjectKind}
use Rattle.tk_manifest.specs.declared.kinds.ObjectKind.TheVariants.{Scenario}
use Rattle.tk_types.specs.Json.{json_of}
use Rattle.tk_manifest.specs.Input.{body, body_of, is_list, items_from, json_fault, list, list_items, list_items_of, objects_of, reading_fault, whole, whole_of}
use Rattle.tk_manifest.specs.Item.{headed, headed_at, heading_of, item, item_at, kind_told, object, object_at, object_spec}
use Rattle.tk_manifest.specs.Kind.{object_made, spec}
use Rattle.tk_read_laws.proofs.Fields.{required_at}
use Rattle.tk_read_laws.proofs.Nothing.{first_none, rest_none}
use Rattle.tk_scenario_laws.specs.Laws.{IsPlayable}
use Rattle.tk_scenario_laws.proofs.Playable.{scenario_is_playable}

-- a Scenario may be played
abbrev pub IsPlayableObject : ItemObject → Type 0
IsPlayableObject (scenario_object name given) = IsPlayable given
IsPlayableObject _ = Unit {0}

abbrev pub IsPlayableItem : Item → Type 0
IsPlayableItem item = IsPlayableObject item.object

made_playable : (kind : ObjectKind) (name : List ℕ) (place : Place) (d : Data) → spec kind place d ≡ None → IsPlayableObject (object_made kind name d)
unfolding spec object_made
made_playable Scenario name place d e = scenario_is_playable place d e
made_playable kind name place d e = tt

object_playable : (kind : ObjectKind) (index : ℕ) (place : Place) (d : Data) → object kind place d ≡ None → IsPlayableObject (object_at kind index d)
unfolding object object_spec object_at
object_playable kind index place d e =
    made_playable kind _ (place ▸ codes "spec") (at (codes "spec") d)
    (required_at (codes "spec") (spec kind) place d (first_none _ _ (rest_none _ _ (rest_none _ _ e))))

headed_playable : (kinds : KindSet) (h : Heading) (place : Place) (index : ℕ) (d : Data) → headed kinds h place d ≡ None → IsPlayableItem (headed_at kinds h place index d)
unfolding headed headed_at
headed_playable kinds h place index d e = object_playable (kind_told kinds h.kind) index place d (first_none _ _ (rest_none _ _ e))

item_playable : (kinds : KindSet) (place : Place) (index : ℕ) (d : Data) → item kinds place d ≡ None → IsPlayableItem (item_at kinds place index d)
unfolding item item_at
item_playable kinds place index d e = headed_playable kinds (heading_of d) place index d (first_none _ _ (rest_none _ _ e))

-- a list of objects, and one alone
items_playable : (kinds : KindSet) (place : Place) (index : ℕ) (ds : List Data) → first_from (item kinds) place index ds ≡ None → All IsPlayableItem (items_from kinds place index ds)
items_playable kinds place index [] e = All-nil IsPlayableItem
items_playable kinds place index (d ∷ ds) e =
    All-cons IsPlayableItem (item_at kinds (place # index) index d) (items_from kinds place (suc index) ds)
    (item_playable kinds (place # index) index d (first_none _ _ e)) (items_playable kinds place (suc index) ds (rest_none _ _ e))

list_playable : (kinds : KindSet) (h : Heading) (place : Place) (d : Data) → list kinds h place d ≡ None → All IsPlayableItem (list_items_of kinds place d)
unfolding list list_items list_items_of
list_playable kinds h place d e =
    let items = required_at (codes "items") (each (item kinds)) place d (first_none _ _ (rest_none _ _ (rest_none _ _ e))) in
    items_playable kinds (place ▸ codes "items") 0 (elements (at (codes "items") d)) (first_none _ _ (rest_none _ _ items))

abbrev body_finding : KindSet → Heading → Place → Data → Bool → Finding
body_finding kinds h place d is = if is then list kinds h place d else headed kinds h place d

body_playable : (kinds : KindSet) (h : Heading) (place : Place) (d : Data) (is : Bool) → body_finding kinds h place d is ≡ None
    → All IsPlayableItem (if is then list_items_of kinds place d else headed_at kinds h place 0 d ∷ [])
body_playable kinds h place d true e = list_playable kinds h place d e
body_playable kinds h place d false e = All-cons IsPlayableItem (headed_at kinds h place 0 d) [] (headed_playable kinds h place 0 d e) (All-nil IsPlayableItem)

whole_playable : (kinds : KindSet) (d : Data) → whole kinds root d ≡ None → All IsPlayableItem (whole_of kinds d)
unfolding whole whole_of body body_of
whole_playable kinds d e = body_playable kinds (heading_of d) root d (is_list (heading_of d)) (first_none _ _ (rest_none _ _ e))

-- the objects of an input
json_playable : (kinds : KindSet) (found : Option Data) → json_fault kinds found ≡ None → All IsPlayableItem (option_map_or (whole_of kinds) found [])
json_playable kinds None e = absurd (let f : ⊥ = cc in f)
json_playable kinds (Some d) e = whole_playable kinds d e

pub objects_playable : (kinds : KindSet) (bytes : List ℕ) → reading_fault kinds bytes ≡ None → All IsPlayableItem (objects_of kinds bytes)
objects_playable kinds bytes e = json_playable kinds (json_of bytes) (first_none _ _ (rest_none _ _ e))
