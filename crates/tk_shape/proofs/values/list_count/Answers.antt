use Rattle.std.proofs.Common.{Some, None, ap, ◌∙◌}
use Rattle.tk_shape.specs.Substituted.{list_count}
use Rattle.tk_shape.proofs.References.{shape_found}
use Rattle.tk_shape.proofs.values.list_count.Goals as goal

pub returns-in-Some : goal.returns-in-Some
returns-in-Some c =
    c.found_count.ensures ∙ ap list_count (shape_found c.args.lookup.now c.args.reference.now c.in_ok-found.field-0 (Some c.in-Some.found) c.in-Some.is c.in_ok-found.ensures)

pub returns-in-None : goal.returns-in-None
returns-in-None c = ap list_count (shape_found c.args.lookup.now c.args.reference.now c.in_ok-found.field-0 None c.in-None.is c.in_ok-found.ensures)
