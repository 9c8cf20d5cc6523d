-- All values, read one by one.
use Rattle.std.proofs.Common.{List, ◌++◌}
use Rattle.std.specs.Prelude.{Option, option_map}

-- what is made stands in front of what is left
abbrev pub behind : {X : Type 0} → List X → Option (List X) → Option (List X)
behind made left = option_map (λ rest. made ++ rest) left
