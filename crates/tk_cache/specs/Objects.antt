-- The objects of one kind as a cache holds them: by their names, in order of creation, each with its version.
use Rattle.std.specs.Prelude.{ℕ, List, map, Option, Some, None, option_map, string_bytes}
use Rattle.std.specs.Option.{option_map_or}
use Rattle.std.specs.declared.string.String.{String}
use Rattle.indexmap.specs.IndexMap.{IndexMap, keys, get_by_text}
use Rattle.tk_cache.specs.declared.objects.Held.{Held}

module _ {A T S : Type 0} where
  -- what is held by a name
  abbrev pub held_at : IndexMap (String A) (Held T) S → List ℕ → Option (Held T)
  held_at m name = get_by_text m name

  -- an object by its name
  abbrev pub object_at : IndexMap (String A) (Held T) S → List ℕ → Option T
  object_at m name = option_map (λ (h : Held T). h.object) (held_at m name)

  -- its version, or 0
  abbrev pub version_at : IndexMap (String A) (Held T) S → List ℕ → ℕ
  version_at m name = option_map_or (λ (h : Held T). h.version) (held_at m name) 0

  -- the names, in order of creation
  abbrev pub names_in : IndexMap (String A) (Held T) S → List (List ℕ)
  names_in m = map string_bytes (keys m)

-- what is held after an entry that writes the object, at this position
abbrev pub held_after : {T : Type 0} → ℕ → (T → T) → Option T → Option (Held T) → Option (Held T)
held_after position after made None = option_map (λ object. record { object = object; version = position }) made
held_after position after made (Some h) = Some record { object = after h.object; version = position }
