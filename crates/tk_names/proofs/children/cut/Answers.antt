use Rattle.std.proofs.Common.{arith}
use Rattle.tk_names.proofs.Cut.{cut_place_is}
use Rattle.tk_names.proofs.children.cut.Goals as goal

pub returns-clause-place : goal.returns-clause-place
returns-clause-place c =
    cut_place_is c.args.text.now 30 _ (omega arith) c.floor_char_boundary.ensures.bound c.floor_char_boundary.ensures.boundary c.floor_char_boundary.ensures.nearest
