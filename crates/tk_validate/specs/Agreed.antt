-- On the way to the types on which all entries of a name agree: those of the first of each name.
use Rattle.std.specs.Prelude.{ℕ, Bool, true, not, ◌&&◌, List, find}
use Rattle.std.specs.Option.{option_map_or}
use Rattle.tk_types.specs.Names.{is_in}
use Rattle.tk_validate.specs.declared.seen.Seen.{Seen}
use Rattle.tk_validate.specs.Seen.{is_kind, is_of_name, kind_seen}

-- the type isn't that of the first of the name
abbrev pub differs : List Seen → Seen → Bool
differs all s = not (is_kind (kind_seen all s.name) s.kind)

-- the type is that of the first of the name, which isn't one of those of which some differ
abbrev pub agrees_with : List Seen → List (List ℕ) → Seen → Bool
agrees_with all mixed s = option_map_or (λ (first : Seen). is_kind s.kind first.kind && not (is_in mixed s.name)) (find (is_of_name s.name) all) true
