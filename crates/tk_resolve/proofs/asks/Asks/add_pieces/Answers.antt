use Rattle.std.proofs.Common.{◌+◌, ◌++◌, [], ◌∷◌, ap, sym, take, ◌∙◌}
use Rattle.std.proofs.lemmas.List.{take_more}
use Rattle.tk_resolve.proofs.Asked.{adds_more}
use Rattle.tk_resolve.proofs.asks.Asks.add_pieces.Goals as goal

pub loop-piece-preserved : goal.loop-piece-preserved
loop-piece-preserved c =
    let pieces = c.args.pieces.now in
    let i = c.loop-piece.piece-index in
    let piece = c.piece-item.result in
    adds_more c.args.due (take i pieces) (piece ∷ []) (take (i + 1) pieces) c.args.self.now c.loop-piece.self c.add_piece.new.self
    (take_more pieces i piece c.loop-piece-test.true ∙ ap (λ p. take i pieces ++ p ∷ []) (sym c.piece-item.is)) c.loop-piece.invariant c.in_ok-add_piece.ensures
