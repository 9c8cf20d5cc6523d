use Rattle.tk_space.proofs.Apart.{own_lies, claim_lies}
use Rattle.tk_space.proofs.laws.folders_lie_under.Goals as goal

pub returns : goal.returns
returns c = record { own = own_lies; claims = claim_lies }
