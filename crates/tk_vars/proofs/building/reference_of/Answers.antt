use Rattle.std.proofs.Common.{◌≡◌, ◌++◌, true, sym, ◌∙◌, ap, subst}
use Rattle.std.specs.Prelude.{codes}
use Rattle.tk_vars.specs.Grammar.{is_reference}
use Rattle.tk_vars.specs.Reading.{reference_of}
use Rattle.tk_vars.proofs.BuildFacts.{letters_text, whole_reference}
use Rattle.tk_vars.proofs.TableFacts.{reference_tail}
use Rattle.tk_vars.proofs.building.reference_of.Goals as goal

pub parts_of-requires-clause-head : goal.parts_of-requires-clause-head
parts_of-requires-clause-head c = letters_text c.split_head.result.0.now c.split_head.ensures.within

pub parts_of-requires-clause-tail : goal.parts_of-requires-clause-tail
parts_of-requires-clause-tail c =
    reference_tail c.as_bytes.result.now c.split_head.result.0.now c.split_head.result.1.now c.split_head.ensures
    (subst (λ t. is_reference (reference_of t) ≡ true) (sym c.as_bytes.ensures.value) c.requires.reference)

pub returns : goal.returns
returns c =
    whole_reference c.as_bytes.result.now c.split_head.result.0.now c.split_head.result.1.now c.new.result c.in_ok-parts.parts c.split_head.ensures (c.new.ensures ∙ (c.requires.spelling ∙ ap (λ t. codes "$(" ++ t ++ codes ")") (sym c.as_bytes.ensures.value))) c.in_ok-parts.ensures
    ∙ ap reference_of c.as_bytes.ensures.value
