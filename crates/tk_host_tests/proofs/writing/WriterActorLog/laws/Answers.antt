use Rattle.std.proofs.Common.{◌∙◌}
use Rattle.tk_host_tests.proofs.Adding.{others_written}
use Rattle.tk_host_tests.proofs.writing.WriterActorLog.laws.Goals as goal

pub returns-clause-follow : goal.returns-clause-follow
returns-clause-follow c start m journal rest sound none ready is = others_written m.number journal rest none ∙ is

pub returns-clause-follow_asked : goal.returns-clause-follow_asked
returns-clause-follow_asked c start m journal rest sound none ready is = others_written m.number journal rest none ∙ is
