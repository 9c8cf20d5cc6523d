use Rattle.std.proofs.Common.{sym, subst}
use Rattle.tk_vars.specs.Steps.{IsFirstPart}
use Rattle.tk_vars.specs.declared.part.Part.TheVariants.{Name}
use Rattle.tk_vars.proofs.BuildFacts.{name_text, dotted_first, bracketed_first, none_first}
use Rattle.tk_vars.proofs.building.first_part.Goals as goal

pub word_of-requires : goal.word_of-requires
word_of-requires c = name_text c.in-Some.name.now (dotted_first c.args.tail.now c.in-Some.name.now c.in-Some.rest.now c.requires c.in-Some.ensures.found).named

pub returns-in-Some : goal.returns-in-Some
returns-in-Some c =
    subst (λ n. IsFirstPart c.args.tail.now (Name n) c.in-Some.rest.now) (sym c.word_of.ensures) (dotted_first c.args.tail.now c.in-Some.name.now c.in-Some.rest.now c.requires c.in-Some.ensures.found).first

pub bracketed-requires : goal.bracketed-requires
bracketed-requires c = let split = c.in-Some-split_bracketed in (bracketed_first c.args.tail.now split.inner.now split.rest.now c.requires split.ensures.found).inside

pub returns-in-Some-split_bracketed : goal.returns-in-Some-split_bracketed
returns-in-Some-split_bracketed c =
    let split = c.in-Some-split_bracketed in
    subst (λ p. IsFirstPart c.args.tail.now p split.rest.now) (sym c.bracketed.ensures) (bracketed_first c.args.tail.now split.inner.now split.rest.now c.requires split.ensures.found).first

pub returns-in-None : goal.returns-in-None
returns-in-None c = none_first c.args.tail.now c.requires c.in_default.ensures.none c.in-None.ensures.none
