use Rattle.tk_time.proofs.ReadBack.{moment_text-read}
use Rattle.tk_time.proofs.laws.moments_read_back.Goals as goal

pub returns : goal.returns
returns c = moment_text-read
