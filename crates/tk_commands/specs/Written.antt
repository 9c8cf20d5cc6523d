-- What stands in a sink after a text was written in part.
use Rattle.std.specs.Prelude.{◌≡◌, ℕ, List, ◌++◌, take, Option, Some, None, ⊤}

-- known bytes grow by the front of a text
abbrev pub AppendsFront : Option (List ℕ) → Option (List ℕ) → List ℕ → Type 0
AppendsFront None new text = ⊤
AppendsFront (Some old) None text = ⊥
AppendsFront (Some old) (Some new) text = (n : ℕ) × (new ≡ old ++ take n text)
