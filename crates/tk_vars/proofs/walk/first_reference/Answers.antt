use Rattle.std.proofs.Common.{◌≡◌, ◌∷◌, [], Some, None, find, filter_map, option_copied, ap, sym, ◌∙◌}
use Rattle.tk_vars.specs.Target.{referenced}
use Rattle.tk_vars.proofs.WalkFacts.{found_none, found_here}
use Rattle.tk_vars.proofs.walk.first_reference.Goals as goal

pub loop-piece-preserved : goal.loop-piece-preserved
loop-piece-preserved g c =
    let here : find (g.T.ReferenceTest.is_met c.args.test.now) (filter_map referenced (c.piece-item.result ∷ [])) ≡ None = sym c.in_ok-reference.ensures ∙ ap option_copied c.in_default.is in
    found_none (g.T.ReferenceTest.is_met c.args.test.now) referenced c.args.pieces.now c.loop-piece.piece-index c.piece-item.result c.loop-piece-test.true c.piece-item.is c.loop-piece.invariant here

pub returns-in-Some : goal.returns-in-Some
returns-in-Some g c =
    let here : find (g.T.ReferenceTest.is_met c.args.test.now) (filter_map referenced (c.piece-item.result ∷ [])) ≡ Some c.in-Some.reference.now = sym c.in_ok-reference.ensures ∙ ap option_copied c.in-Some.is in
    sym (found_here (g.T.ReferenceTest.is_met c.args.test.now) referenced c.args.pieces.now c.loop-piece.piece-index c.piece-item.result c.in-Some.reference.now c.loop-piece-test.true c.piece-item.is c.loop-piece.invariant here)
