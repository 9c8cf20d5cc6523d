use Rattle.std.proofs.Common.{◌≡◌, true, false, ◌||◌, ◌&&◌, not, ◌++◌, length, sym, ◌∙◌, ap}
use Rattle.std.specs.Prelude.{◌==◌, codes}
use Rattle.tk_vars.specs.Grammar.{is_reference}
use Rattle.tk_vars.specs.Reading.{reference_of, ends_with_star}
use Rattle.std.proofs.lemmas.List.{append_cancel_right}
use Rattle.tk_vars.proofs.StandFacts.{IsFound, found_reference, no_end, no_beginning, no_reference, no_place, first_reference}
use Rattle.tk_vars.proofs.scanner.reference_at.Goals as goal

pub returns-in_default : goal.returns-in_default
returns-in_default c = no_end c.args.is_first c.args.after.now c.in_default.ensures.none

pub returns-in_default-behind_parenthesis : goal.returns-in_default-behind_parenthesis
returns-in_default-behind_parenthesis c = no_beginning c.args.is_first c.args.after.now c.in-Some.front.now c.in-Some.rest.now c.in-Some.ensures.found.text_is c.in_default-behind_parenthesis.ensures

pub returns-then-not-is_reference : goal.returns-then-not-is_reference
returns-then-not-is_reference c =
    let inner = c.in-Some-behind_parenthesis.inner.now in
    let bad : is_reference (reference_of inner) ≡ false = ap (λ t. is_reference (reference_of t)) (sym c.as_bytes.ensures.value) ∙ (sym c.is_reference.ensures ∙ c.if-not-is_reference.true) in
    no_reference c.args.is_first c.args.after.now c.in-Some.front.now inner c.in-Some.rest.now c.in-Some.ensures.found.text_is c.in-Some.ensures.found.other c.in-Some-behind_parenthesis.ensures bad

pub returns-then-not-may_stand : goal.returns-then-not-may_stand
returns-then-not-may_stand c =
    let reference = c.in_ok-reference.reference in
    let bad : (not (ends_with_star reference.parts) || (c.args.is_first && (length c.in-Some.rest.now == 0))) ≡ false =
    ap (λ t. not (ends_with_star reference.parts) || t) (sym c.is_whole.ensures) ∙ (sym c.may_stand.ensures ∙ c.if-not-may_stand.true) in
    no_place c.args.is_first c.args.after.now c.in-Some.front.now c.in-Some-behind_parenthesis.inner.now c.in-Some.rest.now reference c.in-Some.ensures.found.text_is c.in-Some.ensures.found.other c.in-Some-behind_parenthesis.ensures c.in_ok-reference.ensures bad

pub returns : goal.returns
returns c =
    let reference = c.in_ok-reference.reference in
    let inner = c.in-Some-behind_parenthesis.inner.now in
    let ok : is_reference (reference_of inner) ≡ true = ap (λ t. is_reference (reference_of t)) (sym c.as_bytes.ensures.value) ∙ (sym c.is_reference.ensures ∙ c.if-not-is_reference.false) in
    let may : (not (ends_with_star reference.parts) || (c.args.is_first && (length c.in-Some.rest.now == 0))) ≡ true =
    ap (λ t. not (ends_with_star reference.parts) || t) (sym c.is_whole.ensures) ∙ (sym c.may_stand.ensures ∙ c.if-not-may_stand.false) in
    first_reference c.args.is_first c.args.after.now c.in-Some.front.now inner c.in-Some.rest.now reference c.in-Some.ensures.found.text_is c.in-Some.ensures.found.other c.in-Some-behind_parenthesis.ensures ok c.in_ok-reference.ensures may

pub in_front-requires : goal.in_front-requires
in_front-requires c =
    let inner = c.in-Some-behind_parenthesis.inner.now in
    let found : IsFound c.args.after.now inner c.in-Some.rest.now =
    found_reference c.args.after.now c.in-Some.front.now inner c.in-Some.rest.now c.in-Some.ensures.found.text_is c.in-Some.ensures.found.other c.in-Some-behind_parenthesis.ensures in
    ((reference_of inner).spelling, c.requires ∙ found.whole)

pub reference_of-requires-clause-spelling : goal.reference_of-requires-clause-spelling
reference_of-requires-clause-spelling c =
    let inner = c.in-Some-behind_parenthesis.inner.now in
    let found : IsFound c.args.after.now inner c.in-Some.rest.now =
    found_reference c.args.after.now c.in-Some.front.now inner c.in-Some.rest.now c.in-Some.ensures.found.text_is c.in-Some.ensures.found.other c.in-Some-behind_parenthesis.ensures in
    append_cancel_right c.in_front.result.now (codes "$(" ++ inner ++ codes ")") c.in-Some.rest.now (c.in_front.ensures ∙ (c.requires ∙ found.whole))
