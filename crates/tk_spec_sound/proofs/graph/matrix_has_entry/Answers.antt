use Rattle.tk_spec_sound.proofs.Empty.{first_has, second_has}
use Rattle.tk_spec_sound.proofs.graph.matrix_has_entry.Goals as goal

pub returns-then-not-is_empty : goal.returns-then-not-is_empty
returns-then-not-is_empty c =
    let matrix = c.args.matrix.now in
    first_has matrix.params matrix.include c.is_empty.result c.is_empty.ensures c.if-not-is_empty.true

pub returns : goal.returns
returns c =
    let matrix = c.args.matrix.now in
    second_has matrix.params matrix.include c.is_empty.result c.is_empty-2.result c.is_empty.ensures c.if-not-is_empty.false c.is_empty-2.ensures
