use Rattle.tk_space.proofs.Apart.{apart_of_pods, apart_of_claims}
use Rattle.tk_space.proofs.laws.own_folders_are_apart.Goals as goal

pub returns : goal.returns
returns c = record { of_pods = apart_of_pods; of_claims = apart_of_claims }
