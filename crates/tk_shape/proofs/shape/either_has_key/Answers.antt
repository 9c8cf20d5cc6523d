use Rattle.std.proofs.Common.{◌∙◌}
use Rattle.std.specs.Prelude.{option_copied}
use Rattle.tk_shape.specs.Bound.{default_keys}
use Rattle.tk_shape.proofs.Found.{either_there, either_else}
use Rattle.tk_shape.proofs.shape.either_has_key.Goals as goal

pub returns-then-is_some : goal.returns-then-is_some
returns-then-is_some c =
    either_there c.args.key.now c.args.pairs.now (default_keys (option_copied c.args.default_shape)) c.get.result c.is_some.result c.is_some.ensures c.get.ensures c.if-is_some.true

pub returns-else-is_some : goal.returns-else-is_some
returns-else-is_some c =
    c.default_has_key.ensures
    ∙ either_else c.args.key.now c.args.pairs.now (default_keys (option_copied c.args.default_shape)) c.get.result c.is_some.result c.is_some.ensures c.get.ensures c.if-is_some.false
