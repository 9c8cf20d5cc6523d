use Rattle.std.proofs.Common.{◌∙◌, ap, sym, subst, refl}
use Rattle.tk_types.specs.Rejected.{Reads}
use Rattle.tk_validate.specs.Scoped.{pieces_finding}
use Rattle.tk_validate.proofs.PiecesFinding.{by_pieces, plain_text}
use Rattle.tk_validate.proofs.rules.text_rule.InScopeTextRule.check_text.Goals as goal

pub returns : goal.returns
returns c =
    let pieces = c.as_slice.ensures ∙ c.in_ok-pieces.ensures.pieces in
    subst (λ finding. Reads finding tt c.check_pieces.result)
    (ap (λ ps. pieces_finding c.args.self.now.firsts.now c.args.self.now.names.now c.args.whole ps c.args.place.now) pieces
    ∙ sym (by_pieces c.args.self.now.firsts.now c.args.self.now.names.now c.args.whole c.args.place.now c.args.text.now c.in_ok-pieces.ensures.good))
    c.check_pieces.ensures

pub returns-then-is_plain : goal.returns-then-is_plain
returns-then-is_plain c =
    let yes = c.if-is_plain.true in
    (plain_text c.args.self.now.firsts.now c.args.self.now.names.now c.args.whole c.args.place.now c.args.text.now (c.is_plain.ensures.reading yes) (c.is_plain.ensures.references yes), refl)
