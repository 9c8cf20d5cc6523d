-- All results, read one by one up to the first that is refused.
use Rattle.std.proofs.Common.{List, ◌++◌, Ok, Err}
use Rattle.std.specs.Prelude.{Result}

-- what is made stands in front of what is left
abbrev pub behind : {X E : Type 0} → List X → Result (List X) E → Result (List X) E
behind made (Ok rest) = Ok (made ++ rest)
behind made (Err e) = Err e
