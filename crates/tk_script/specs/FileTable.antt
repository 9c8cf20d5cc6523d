-- What a table of files says of a path.
use Rattle.std.specs.Prelude.{◌≡◌, ℕ, Bool, true, false, ◌&&◌, bytes_eq, List, Option, Some, None, is_some}
use Rattle.std.specs.Option.{option_map, option_map_or}
use Rattle.tk_edge.specs.Files.{Files, is_under}
use Rattle.tk_script.specs.declared.file_table.Held.{Held}

-- the bytes of the file
abbrev pub bytes_at : (List ℕ → Option Held) → List ℕ → Option (List ℕ)
bytes_at table path = option_map (λ held. held.bytes) (table path)

-- a put of the file is told, and no clear behind it
abbrev pub put_at : (List ℕ → Option Held) → List ℕ → Bool
put_at table path = option_map_or (λ held. held.put) (table path) false

-- each folder that a file stands below may hold some
abbrev pub AreKnown : Files → (List ℕ → Bool) → Type 0
AreKnown files may_hold = (folder path : List ℕ) → is_under folder path ≡ true → is_some (files path) ≡ true → may_hold folder ≡ true

-- the path is this one, if there is one
abbrev pub is_at : List ℕ → Option (List ℕ) → Bool
is_at path None = false
is_at path (Some file) = bytes_eq path file

-- the pod passed with this post file
abbrev pub is_pass : List ℕ → List ℕ → Option (List ℕ × List ℕ) → Bool
is_pass pod path None = false
is_pass pod path (Some pass) = bytes_eq pod pass.1 && bytes_eq path pass.0
