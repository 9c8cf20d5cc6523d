use Rattle.std.proofs.Common.{◌∙◌}
use Rattle.tk_matrix.proofs.Additions.{inserted}
use Rattle.tk_matrix.proofs.include.add.Goals as goal

pub returns : goal.returns
returns c =
    inserted c.in_ok-name.name c.in_ok-copy.field-0 c.args.param.now _ _ c.in_ok-insert.ensures.entries (c.in_ok-name.ensures.ok ∙ c.as_str.ensures) c.in_ok-copy.ensures
