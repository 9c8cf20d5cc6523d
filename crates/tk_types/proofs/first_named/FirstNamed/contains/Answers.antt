use Rattle.std.proofs.Common.{◌∙◌, ap, is_some}
use Rattle.tk_types.proofs.FirstFound.{is_some-copied, is_some-named}
use Rattle.tk_types.proofs.first_named.FirstNamed.contains.Goals as goal

pub returns : goal.returns
returns g c = c.is_some.ensures ∙ (is_some-copied c.get.result ∙ (ap is_some c.get.ensures ∙ is_some-named g.T.Named.name c.args.name.now c.args.self.now))
