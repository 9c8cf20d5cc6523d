-- What is wrong first with some parts, by what is wrong with the first and with the others.
use Rattle.std.proofs.Common.{◌≡◌, List, [], ◌∷◌, Some, None, Result, refl}
use Rattle.tk_types.specs.declared.rejected.Rejected.{Rejected}
use Rattle.tk_types.specs.declared.rejected.Rejected.TheVariants.{Memory, Fault}
use Rattle.tk_types.specs.First.{Finding, first_of}
use Rattle.tk_types.specs.Rejected.{IsRefusal, Reads}

-- nothing is wrong with the first
pub passed : (found : Finding) (others : List Finding) (result : Result (Unit {0}) Rejected) → found ≡ None → Reads (first_of others) tt result → Reads (first_of (found ∷ others)) tt result
passed found others result none reads = rw none reads

-- it is the last
pub last : (found : Finding) (result : Result (Unit {0}) Rejected) → Reads found tt result → Reads (first_of (found ∷ [])) tt result
last None result reads = reads
last (Some fault) result reads = reads

-- it is refused
pub refused : (found : Finding) (others : List Finding) (error : Rejected) → IsRefusal found error → IsRefusal (first_of (found ∷ others)) error
refused found others Memory is = tt
refused found others (Fault fault) is = rw is refl
