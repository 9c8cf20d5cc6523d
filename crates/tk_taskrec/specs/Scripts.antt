-- What runs a script, in the parts that the code goes by.
use Rattle.std.specs.Prelude.{ℕ, ◌+◌, ◌==◌, List, [], ◌∷◌, length, take, drop, unwrap_or}
use Rattle.std.specs.List.{position}

-- where the first space stands, or the length
abbrev pub space_in : List ℕ → ℕ
space_in line = unwrap_or (position (λ b. b == 32) line) (length line)

-- what stands in front of the first space, and what stands behind it
abbrev pub first_word : List ℕ → List ℕ
first_word line = take (space_in line) line

abbrev pub behind_word : List ℕ → List ℕ
behind_word line = drop (space_in line + 1) line

-- a program, and one word more where there is something
abbrev pub words_of : List ℕ → List ℕ → List (List ℕ)
words_of program [] = program ∷ []
words_of program (byte ∷ bytes) = program ∷ (byte ∷ bytes) ∷ []
