use Rattle.std.proofs.Common.{Some, None, ap, ◌∙◌}
use Rattle.tk_shape.proofs.References.{shape_found}
use Rattle.tk_shape.proofs.values.taken_shape.Goals as goal

pub returns-in_ok-found_shape-in-Some : goal.returns-in_ok-found_shape-in-Some
returns-in_ok-found_shape-in-Some c =
    ap Some c.in_ok-found_shape-in-Some.ensures
    ∙ shape_found c.args.lookup.now c.args.reference.now c.in_ok-found.field-0 (Some c.in-Some.found) c.in-Some.is c.in_ok-found.ensures

pub returns-in-None : goal.returns-in-None
returns-in-None c = shape_found c.args.lookup.now c.args.reference.now c.in_ok-found.field-0 None c.in-None.is c.in_ok-found.ensures
