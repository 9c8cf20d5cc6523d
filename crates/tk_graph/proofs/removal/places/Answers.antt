use Rattle.std.proofs.Common.{◌∙◌, ◌++◌, ◌∷◌, [], ap, sym}
use Rattle.tk_graph.proofs.Among.{range-push}
use Rattle.tk_graph.proofs.removal.places.Goals as goal

pub loop-place-preserved : goal.loop-place-preserved
loop-place-preserved c =
    c.in_ok-push.ensures.items ∙ (ap (λ xs. xs ++ c.loop-place.place ∷ []) c.loop-place.invariant ∙ sym (range-push c.loop-place.place))
