use Rattle.std.proofs.Common.{◌&&◌, sym, ◌∙◌, ap, length}
use Rattle.std.specs.Prelude.{◌==◌}
use Rattle.tk_vars.proofs.ShapeFacts.{dotted_selector, bracketed_selector, unbegun_selector}
use Rattle.tk_vars.proofs.grammar.is_selector.Goals as goal

pub returns-then-is_name : goal.returns-then-is_name
returns-then-is_name c =
    c.is_empty-then-is_name.ensures
    ∙ sym (dotted_selector c.args.tail.now c.in-Some.name.now c.in-Some.rest.now c.in-Some.ensures.found ∙ ap (λ t. t && (length c.in-Some.rest.now == 0)) (sym c.is_name.ensures ∙ c.if-is_name.true))

pub returns-else-is_name : goal.returns-else-is_name
returns-else-is_name c =
    c.if-is_name.false
    ∙ sym (dotted_selector c.args.tail.now c.in-Some.name.now c.in-Some.rest.now c.in-Some.ensures.found ∙ ap (λ t. t && (length c.in-Some.rest.now == 0)) (sym c.is_name.ensures ∙ c.if-is_name.false))

pub returns-then-is_choice : goal.returns-then-is_choice
returns-then-is_choice c =
    let split = c.in-Some-split_bracketed in
    c.is_empty-then-is_choice.ensures ∙ sym (bracketed_selector c.args.tail.now split.inner.now split.rest.now split.ensures.found ∙ ap (λ t. t && (length split.rest.now == 0)) (sym c.is_choice.ensures ∙ c.if-is_choice.true))

pub returns-else-is_choice : goal.returns-else-is_choice
returns-else-is_choice c =
    let split = c.in-Some-split_bracketed in
    c.if-is_choice.false ∙ sym (bracketed_selector c.args.tail.now split.inner.now split.rest.now split.ensures.found ∙ ap (λ t. t && (length split.rest.now == 0)) (sym c.is_choice.ensures ∙ c.if-is_choice.false))

pub returns-in-None : goal.returns-in-None
returns-in-None c = sym (unbegun_selector c.args.tail.now (sym c.is_empty.ensures ∙ c.if-is_empty.false) c.in_default.ensures.none c.in-None.ensures.none)
