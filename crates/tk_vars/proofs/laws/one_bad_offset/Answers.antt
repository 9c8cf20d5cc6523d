use Rattle.tk_vars.proofs.OffsetFacts.{bad_offset-some, bad_offset-none}
use Rattle.tk_vars.proofs.laws.one_bad_offset.Goals as goal

pub returns-clause-bad : goal.returns-clause-bad
returns-clause-bad c = bad_offset-some

pub returns-clause-good : goal.returns-clause-good
returns-clause-good c = bad_offset-none
