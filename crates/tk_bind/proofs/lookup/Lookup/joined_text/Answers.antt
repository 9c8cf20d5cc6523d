use Rattle.std.proofs.lemmas.Result.{err_from_is_err_and}
use Rattle.tk_bind.specs.Substitute.{piece_text}
use Rattle.tk_bind.proofs.Gathering.{joined_refused}
use Rattle.tk_bind.proofs.lookup.Lookup.joined_text.Goals as goal

pub returns-in_err-push_piece-clause-refused : goal.returns-in_err-push_piece-clause-refused
returns-in_err-push_piece-clause-refused c =
    let p = err_from_is_err_and c.from_residual.result c.from_residual.ensures.1 in
    rw (p.1, p.2) (joined_refused (piece_text c.args.self.now) c.args.pieces.now c.loop-piece.piece-index c.piece-item.result _ _ _ c.loop-piece-test.true c.piece-item.is c.loop-piece.invariant c.in_err-push_piece.ensures.refused)
