-- The objects of a list stand in order.
use Rattle.std.proofs.Common.{◌≡◌, ◌+◌, ℕ, suc, List, [], ◌∷◌, ◌++◌, length, Some, None, refl, ap, ◌∙◌, arith}
use Rattle.std.specs.Option.{option_or}
use Rattle.serde_json.specs.Data.{Data}
use Rattle.tk_types.specs.declared.fault.Fault.{Fault}
use Rattle.tk_types.specs.First.{first_from}
use Rattle.tk_types.specs.Place.{Place, ◌#◌}
use Rattle.tk_manifest.specs.declared.kinds.KindSet.{KindSet}
use Rattle.tk_manifest.specs.Input.{items_from}
use Rattle.tk_manifest.specs.Item.{item, item_at}
use Rattle.tk_manifest.specs.Laws.{AllRight}

pub items_from-count : (kinds : KindSet) (place : Place) (index : ℕ) (ds : List Data) → length (items_from kinds place index ds) ≡ length ds
items_from-count kinds place index [] = refl
items_from-count kinds place index (d ∷ ds) = ap suc (items_from-count kinds place (suc index) ds)

next_index : (index n : ℕ) → suc index + n ≡ index + suc n
next_index index n = omega arith

object_here : (kinds : KindSet) (place : Place) (index n : ℕ) (after : List Data) (d : Data) → n ≡ index → items_from kinds place index (d ∷ after) ≡ item_at kinds (place # n) n d ∷ items_from kinds place (suc n) after
object_here kinds place index n after d e = rw e refl

items_from-at : (kinds : KindSet) (place : Place) (index : ℕ) (before after : List Data) (d : Data) → items_from kinds place index (before ++ d ∷ after) ≡ items_from kinds place index before ++ item_at kinds (place # (index + length before)) (index + length before) d ∷ items_from kinds place (suc (index + length before)) after
items_from-at kinds place index [] after d = object_here kinds place index (index + 0) after d (omega arith)
items_from-at kinds place index (b ∷ before) after d =
    ap (λ rest. item_at kinds (place # index) index b ∷ rest) (items_from-at kinds place (suc index) before after d
    ∙ ap (λ n. items_from kinds place (suc index) before ++ item_at kinds (place # n) n d ∷ items_from kinds place (suc n) after) (next_index index (length before)))

fault_here : (kinds : KindSet) (place : Place) (index n : ℕ) (after : List Data) (d : Data) (fault : Fault) → n ≡ index → item kinds (place # n) d ≡ Some fault → option_or (item kinds (place # index) d) (first_from (item kinds) place (suc index) after) ≡ Some fault
fault_here kinds place index n after d fault is e = let here : item kinds (place # index) d ≡ Some fault = rw is at e in rw here refl

first_from-at : (kinds : KindSet) (place : Place) (index : ℕ) (before after : List Data) (d : Data) (fault : Fault) → AllRight kinds place index before → item kinds (place # (index + length before)) d ≡ Some fault → first_from (item kinds) place index (before ++ d ∷ after) ≡ Some fault
first_from-at kinds place index [] after d fault right e = fault_here kinds place index (index + 0) after d fault (omega arith) e
first_from-at kinds place index (b ∷ before) after d fault (here, right) e =
    rw here (first_from-at kinds place (suc index) before after d fault right (ap (λ n. item kinds (place # n) d) (next_index index (length before)) ∙ e))

plus_zero : (n : ℕ) → 0 + n ≡ n
plus_zero n = omega arith

pub objects_at : (kinds : KindSet) (place : Place) (before after : List Data) (d : Data) → items_from kinds place 0 (before ++ d ∷ after) ≡ items_from kinds place 0 before ++ item_at kinds (place # length before) (length before) d ∷ items_from kinds place (suc (length before)) after
objects_at kinds place before after d =
    items_from-at kinds place 0 before after d
    ∙ ap (λ n. items_from kinds place 0 before ++ item_at kinds (place # n) n d ∷ items_from kinds place (suc n) after) (plus_zero (length before))

pub fault_at : (kinds : KindSet) (place : Place) (before after : List Data) (d : Data) (fault : Fault) → AllRight kinds place 0 before → item kinds (place # length before) d ≡ Some fault → first_from (item kinds) place 0 (before ++ d ∷ after) ≡ Some fault
fault_at kinds place before after d fault right e =
    first_from-at kinds place 0 before after d fault right (ap (λ n. item kinds (place # n) d) (plus_zero (length before)) ∙ e)
