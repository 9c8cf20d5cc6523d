use Rattle.tk_names.proofs.PodNames.{pods_apart}
use Rattle.tk_names.proofs.laws.pod_names_are_apart.Goals as goal

pub returns : goal.returns
returns c = pods_apart
