-- What the definitions of reading promise.
use Rattle.std.specs.Prelude.{◌≡◌, ◌==◌, ℕ, suc, List, [], ◌∷◌, None, true}
use Rattle.std.specs.List.{list_any}
use Rattle.serde_json.specs.Data.{Data}
use Rattle.tk_types.specs.declared.fault.Fault.{Fault}
use Rattle.tk_types.specs.declared.fault.Detail.TheVariants.{Nothing}
use Rattle.tk_types.specs.Place.{Place, ◌#◌}
use Rattle.tk_manifest.specs.declared.kinds.KindSet.{KindSet}
use Rattle.tk_manifest.specs.Item.{item}

-- the faults of reading: of the text, of shapes, versions, kinds and keys, of names, durations and choices, and of the size
abbrev pub reading_numbers : List ℕ
reading_numbers = 1 ∷ 2 ∷ 3 ∷ 4 ∷ 5 ∷ 6 ∷ 7 ∷ 8 ∷ 10 ∷ 11 ∷ 22 ∷ []

-- one of them, which tells nothing beside its place
abbrev pub IsReadingFault : Fault → Type 0
IsReadingFault f = (list_any (λ number. number == f.number) reading_numbers ≡ true) × (f.detail ≡ Nothing)

-- nothing is wrong with the objects, of which the first has this index
abbrev pub AllRight : KindSet → Place → ℕ → List Data → Type 0
AllRight kinds place index [] = Unit {0}
AllRight kinds place index (d ∷ ds) = (item kinds (place # index) d ≡ None) × AllRight kinds place (suc index) ds
