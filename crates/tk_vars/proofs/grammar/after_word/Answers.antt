use Rattle.std.proofs.Common.{◌&&◌, sym, ◌∙◌, ap}
use Rattle.tk_vars.specs.Steps.{is_tail}
use Rattle.tk_vars.proofs.ShapeFacts.{dotted_word, undotted_word}
use Rattle.tk_vars.proofs.grammar.after_word.Goals as goal

pub returns-then-eq : goal.returns-then-eq
returns-then-eq c = λ slots.
    dotted_word c.args.wanted.now c.args.tail.now c.in-Some.name.now c.in-Some.rest.now c.requires c.in-Some.ensures.found slots ∙ ap (λ t. t && is_tail slots c.in-Some.rest.now) (sym c.eq.ensures ∙ c.if-eq.true)

pub returns-else-eq : goal.returns-else-eq
returns-else-eq c = λ slots.
    dotted_word c.args.wanted.now c.args.tail.now c.in-Some.name.now c.in-Some.rest.now c.requires c.in-Some.ensures.found slots ∙ ap (λ t. t && is_tail slots c.in-Some.rest.now) (sym c.eq.ensures ∙ c.if-eq.false)

pub returns-in-None : goal.returns-in-None
returns-in-None c = λ slots. undotted_word c.args.wanted.now c.args.tail.now slots c.in-None.ensures.none
