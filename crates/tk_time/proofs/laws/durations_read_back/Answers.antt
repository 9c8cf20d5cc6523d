use Rattle.tk_time.proofs.Printed.{duration_text-read}
use Rattle.tk_time.proofs.laws.durations_read_back.Goals as goal

pub returns : goal.returns
returns c = duration_text-read
