use Rattle.tk_read_laws.proofs.Objects.{objects_are_read}
use Rattle.tk_read_laws.proofs.laws.objects_are_read.Goals as goal

pub returns : goal.returns
returns c = objects_are_read
