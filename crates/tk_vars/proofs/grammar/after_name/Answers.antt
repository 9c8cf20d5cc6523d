use Rattle.std.proofs.Common.{◌&&◌, sym, ◌∙◌, ap}
use Rattle.tk_vars.specs.Steps.{is_tail}
use Rattle.tk_vars.proofs.ShapeFacts.{dotted_name, undotted_name}
use Rattle.tk_vars.proofs.grammar.after_name.Goals as goal

pub returns-then-is_name : goal.returns-then-is_name
returns-then-is_name c = λ slots. dotted_name c.args.tail.now c.in-Some.name.now c.in-Some.rest.now c.in-Some.ensures.found slots ∙ ap (λ t. t && is_tail slots c.in-Some.rest.now) (sym c.is_name.ensures ∙ c.if-is_name.true)

pub returns-else-is_name : goal.returns-else-is_name
returns-else-is_name c = λ slots. dotted_name c.args.tail.now c.in-Some.name.now c.in-Some.rest.now c.in-Some.ensures.found slots ∙ ap (λ t. t && is_tail slots c.in-Some.rest.now) (sym c.is_name.ensures ∙ c.if-is_name.false)

pub returns-in-None : goal.returns-in-None
returns-in-None c = λ slots. undotted_name c.args.tail.now slots c.in-None.ensures.none
