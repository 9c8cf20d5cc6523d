-- What stands in a JSON value, with a value for what doesn't.
use Rattle.std.specs.Prelude.{ℕ, Bool, false, List, [], ◌∷◌, map, Option, option_map, option_and_then, is_some, unwrap_or}
use Rattle.std.specs.Option.{option_map_or}
use Rattle.serde_json.specs.Data.{Data, null, Items, no_items, item, Members, no_members, member}
use Rattle.serde_json.specs.Find.{get, as_array, as_bool, as_number, as_object, as_str, as_u64}
use Rattle.tk_types.specs.declared.value.Pair.{Pair}

-- the elements of an array, and the members of an object, in order
abbrev pub items_list : Items → List Data
items_list no_items = []
items_list (item d ds) = d ∷ items_list ds

abbrev pub members_list : Members → List (List ℕ × Data)
members_list no_members = []
members_list (member k d ms) = (k, d) ∷ members_list ms

abbrev pub elements : Data → List Data
elements d = option_map_or items_list (as_array d) []

abbrev pub members : Data → List (List ℕ × Data)
members d = option_map_or members_list (as_object d) []

abbrev pub keys_of : Data → List (List ℕ)
keys_of d = map (λ (m : List ℕ × Data). m.0) (members d)

abbrev pub is_array : Data → Bool
is_array d = is_some (as_array d)

abbrev pub is_object : Data → Bool
is_object d = is_some (as_object d)

-- a whole number from 0 on, below 2^64
abbrev pub as_whole : Data → Option ℕ
as_whole d = option_and_then as_u64 (as_number d)

-- a text, a whole number and a truth value
abbrev pub text_of : Data → List ℕ
text_of d = unwrap_or (as_str d) []

abbrev pub number_of : Data → ℕ
number_of d = unwrap_or (as_whole d) 0

abbrev pub truth_of : Data → Bool
truth_of d = unwrap_or (as_bool d) false

-- the values of an array's elements, and of an object's members
abbrev pub list_of : {X : Type 0} → (Data → X) → Data → List X
list_of f d = map f (elements d)

abbrev pub texts_of : Data → List (List ℕ)
texts_of d = list_of text_of d

abbrev pub members_of : {X Y : Type 0} → (List ℕ → X → Y) → (Data → X) → Data → List Y
members_of made f d = map (λ (m : List ℕ × Data). made m.0 (f m.1)) (members d)

abbrev pub pair : List ℕ → List ℕ → Pair
pair key value = record { key = key; value = value }

abbrev pub pairs_of : Data → List Pair
pairs_of d = members_of pair text_of d

-- Fields of an object, by their keys.

-- the key is written
abbrev pub has : List ℕ → Data → Bool
has key d = is_some (get key d)

-- the value at a key, `null` where there is none
abbrev pub at : List ℕ → Data → Data
at key d = unwrap_or (get key d) null

abbrev pub field : {X : Type 0} → (Data → X) → List ℕ → Data → Option X
field f key d = option_map f (get key d)

abbrev pub text_at : List ℕ → Data → List ℕ
text_at key d = text_of (at key d)

abbrev pub number_at : List ℕ → Data → ℕ
number_at key d = number_of (at key d)

abbrev pub truth_at : List ℕ → Data → Bool
truth_at key d = truth_of (at key d)

abbrev pub list_at : {X : Type 0} → (Data → X) → List ℕ → Data → List X
list_at f key d = list_of f (at key d)

abbrev pub texts_at : List ℕ → Data → List (List ℕ)
texts_at key d = texts_of (at key d)
