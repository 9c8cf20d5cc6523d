use Rattle.std.proofs.Common.{ap, is_some, bytes_eq, ◌∙◌}
use Rattle.tk_types.proofs.FirstFound.{is_some-copied}
use Rattle.tk_verdict.proofs.Named.{is_some-find}
use Rattle.tk_verdict.proofs.parents.is_among.Goals as goal

pub returns : goal.returns
returns c = c.is_some.ensures ∙ (is_some-copied c.get.result ∙ (ap is_some c.get.ensures ∙ is_some-find (λ other. bytes_eq other c.args.name.now) c.args.names.now))
