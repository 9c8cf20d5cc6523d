-- What is wrong first with some JSON values of a shape like that of a guard (Tekton, Pipelines, Guard Task execution using when
-- expressions).
use Rattle.std.proofs.Common.{◌≡◌, ℕ, List, [], ◌∷◌, Some, None, refl}
use Rattle.std.specs.Prelude.{codes, fold}
use Rattle.serde_json.specs.Data.{Data, null, number, string, array, object, unsigned, no_items, item, no_members, put}
use Rattle.tk_types.specs.Fault.{bad_choice, missing_field, unknown_field, unsupported, wrong_shape}
use Rattle.tk_types.specs.Place.{root, ◌▸◌, ◌#◌}
use Rattle.tk_fields.specs.Check.{Check, each, one_of, text}
use Rattle.tk_fields.specs.Get.{texts_at}
use Rattle.tk_fields.specs.Shape.{field_finding, just_one, object_by, object_of, optional, required}

abbrev guard : Check
guard =
    object_of (record {
      used = required (codes "input") text ∷ required (codes "operator") (one_of (codes "in" ∷ codes "notin" ∷ [])) ∷ optional (codes "values") (each text) ∷ [];
      ignored = codes "note" ∷ [];
      refused = codes "cel" ∷ [];
      choices = just_one (codes "values") (codes "note") ∷ [];
    })

-- members may be given in any order
abbrev members : List (List ℕ × Data) → Data
members ms = object (fold (λ all (m : List ℕ × Data). put m.0 m.1 all) no_members ms)

-- a guard with further members
abbrev guard_with : List (List ℕ × Data) → Data
guard_with ms = members ((codes "input", string (codes "x")) ∷ (codes "operator", string (codes "in")) ∷ ms)

abbrev two : Data
two = array (item (string (codes "a")) (item (number (unsigned 1)) no_items))

nothing : guard root (guard_with ((codes "note", null) ∷ [])) ≡ None
unfolding field_finding object_by just_one
nothing = refl

no_object : guard root two ≡ Some (wrong_shape root)
unfolding field_finding object_by just_one
no_object = refl

-- the first key in order is told, whatever is wrong with it
unknown_before_refused : guard root (guard_with ((codes "cel", null) ∷ (codes "and", null) ∷ [])) ≡ Some (unknown_field (root ▸ codes "and"))
unfolding field_finding object_by just_one
unknown_before_refused = refl

refused_before_unknown : guard root (guard_with ((codes "or", null) ∷ (codes "cel", null) ∷ [])) ≡ Some (unsupported (root ▸ codes "cel"))
unfolding field_finding object_by just_one
refused_before_unknown = refl

-- keys come before fields
key_before_field : guard root (members ((codes "or", null) ∷ [])) ≡ Some (unknown_field (root ▸ codes "or"))
unfolding field_finding object_by just_one
key_before_field = refl

missing : guard root (members ((codes "input", string []) ∷ [])) ≡ Some (missing_field (root ▸ codes "operator"))
unfolding field_finding object_by just_one
missing = refl

other_word : guard root (guard_with ((codes "operator", string (codes "IN")) ∷ [])) ≡ Some (bad_choice (root ▸ codes "operator"))
unfolding field_finding object_by just_one
other_word = refl

-- `null` isn't an absent field
null_field : guard root (guard_with ((codes "values", null) ∷ [])) ≡ Some (wrong_shape (root ▸ codes "values"))
unfolding field_finding object_by just_one
null_field = refl

second_element : guard root (guard_with ((codes "values", two) ∷ [])) ≡ Some (wrong_shape (root ▸ codes "values" # 1))
unfolding field_finding object_by just_one
second_element = refl

neither_stands : guard root (guard_with []) ≡ Some (missing_field (root ▸ codes "note"))
unfolding field_finding object_by just_one
neither_stands = refl

both_stand : guard root (guard_with ((codes "note", null) ∷ (codes "values", array no_items) ∷ [])) ≡ Some (bad_choice (root ▸ codes "note"))
unfolding field_finding object_by just_one
both_stand = refl

-- an absent list is empty
absent_list : texts_at (codes "values") (guard_with []) ≡ []
absent_list = refl
