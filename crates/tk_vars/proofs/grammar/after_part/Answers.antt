use Rattle.std.proofs.Common.{◌&&◌, sym, ◌∙◌, ap}
use Rattle.tk_vars.specs.Steps.{is_tail}
use Rattle.tk_vars.proofs.ShapeFacts.{dotted_part, bracketed_part, unbegun_part, behind_dotted, behind_bracketed}
use Rattle.tk_vars.proofs.grammar.after_part.Goals as goal

pub returns-then-is_name-clause-allowed : goal.returns-then-is_name-clause-allowed
returns-then-is_name-clause-allowed c = λ slots.
    dotted_part c.args.tail.now c.in-Some.name.now c.in-Some.rest.now c.in-Some.ensures.found slots ∙ ap (λ t. t && is_tail slots c.in-Some.rest.now) (sym c.is_name.ensures ∙ c.if-is_name.true)

pub returns-then-is_name-clause-shorter : goal.returns-then-is_name-clause-shorter
returns-then-is_name-clause-shorter c = behind_dotted c.args.tail.now c.in-Some.name.now c.in-Some.rest.now c.in-Some.ensures.found

pub returns-else-is_name-clause-allowed : goal.returns-else-is_name-clause-allowed
returns-else-is_name-clause-allowed c = λ slots.
    dotted_part c.args.tail.now c.in-Some.name.now c.in-Some.rest.now c.in-Some.ensures.found slots ∙ ap (λ t. t && is_tail slots c.in-Some.rest.now) (sym c.is_name.ensures ∙ c.if-is_name.false)

pub returns-then-is_inside-clause-allowed : goal.returns-then-is_inside-clause-allowed
returns-then-is_inside-clause-allowed c = λ slots.
    let split = c.in-Some-split_bracketed in
    bracketed_part c.args.tail.now split.inner.now split.rest.now split.ensures.found slots ∙ ap (λ t. t && is_tail slots split.rest.now) (sym c.is_inside.ensures ∙ c.if-is_inside.true)

pub returns-then-is_inside-clause-shorter : goal.returns-then-is_inside-clause-shorter
returns-then-is_inside-clause-shorter c =
    let split = c.in-Some-split_bracketed in
    behind_bracketed c.args.tail.now split.inner.now split.rest.now split.ensures.found

pub returns-else-is_inside-clause-allowed : goal.returns-else-is_inside-clause-allowed
returns-else-is_inside-clause-allowed c = λ slots.
    let split = c.in-Some-split_bracketed in
    bracketed_part c.args.tail.now split.inner.now split.rest.now split.ensures.found slots ∙ ap (λ t. t && is_tail slots split.rest.now) (sym c.is_inside.ensures ∙ c.if-is_inside.false)

pub returns-in-None-clause-allowed : goal.returns-in-None-clause-allowed
returns-in-None-clause-allowed c = λ slots. unbegun_part c.args.tail.now slots c.in_default.ensures.none c.in-None.ensures.none
