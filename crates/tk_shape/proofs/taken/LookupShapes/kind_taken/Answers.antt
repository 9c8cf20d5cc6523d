use Rattle.std.proofs.Common.{Some, None, ap, ◌∙◌}
use Rattle.std.specs.Prelude.{option_map}
use Rattle.tk_shape.specs.Shape.{kind_of}
use Rattle.tk_shape.proofs.References.{shape_found}
use Rattle.tk_shape.proofs.taken.LookupShapes.kind_taken.Goals as goal

pub returns-in-Some : goal.returns-in-Some
returns-in-Some c =
    ap Some c.kind_found.ensures
    ∙ ap (option_map kind_of) (shape_found c.args.self.now c.args.reference.now c.in_ok-found.field-0 (Some c.in-Some.found) c.in-Some.is c.in_ok-found.ensures)

pub returns-in-None : goal.returns-in-None
returns-in-None c = ap (option_map kind_of) (shape_found c.args.self.now c.args.reference.now c.in_ok-found.field-0 None c.in-None.is c.in_ok-found.ensures)
