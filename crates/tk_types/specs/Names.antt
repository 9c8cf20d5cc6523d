-- Names, and things that are found by them.
use Rattle.std.specs.Prelude.{ℕ, Bool, List, bytes_eq}
use Rattle.std.specs.List.{list_any}

-- the text is in the list
abbrev pub is_in : List (List ℕ) → List ℕ → Bool
is_in texts text = list_any (bytes_eq text) texts
