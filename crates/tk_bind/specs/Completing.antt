-- Steps of a walk that puts pairs in their places.
use Rattle.std.specs.Prelude.{ℕ, Bool, false, List, [], ◌∷◌}
use Rattle.std.specs.Ordering.{nat_cmp, is_eq, is_gt}
use Rattle.std.specs.Cmp.Lexicographic.{slice_cmp}
use Rattle.tk_types.specs.declared.value.Pair.{Pair}

-- the pair stands below the key
abbrev pub is_below : List ℕ → Pair → Bool
is_below key pair = is_gt (slice_cmp nat_cmp key pair.key)

-- the first pair, if there is one, stands below the key
abbrev pub begins_below : List ℕ → List Pair → Bool
begins_below key [] = false
begins_below key (p ∷ ps) = is_below key p

-- the first pair has the key
abbrev pub begins_at : List ℕ → List Pair → Bool
begins_at key [] = false
begins_at key (p ∷ ps) = is_eq (slice_cmp nat_cmp key p.key)
