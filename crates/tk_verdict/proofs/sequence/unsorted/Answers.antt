use Rattle.std.proofs.Common.{[], ◌∷◌, ◌++◌, ◌∙◌, sym, ap, zero-add, List}
use Rattle.std.proofs.lemmas.List.FromFn.{map-range_with_len_more}
use Rattle.tk_verdict.specs.declared.sequence.Ranked.{Ranked}
use Rattle.tk_verdict.specs.Sequence.{ranked_at}
use Rattle.tk_verdict.proofs.sequence.unsorted.Goals as goal

pub loop-place-preserved : goal.loop-place-preserved
loop-place-preserved c =
    c.in_ok-push.ensures.items
    ∙ (ap (λ (tasks : List Ranked). tasks ++ ranked_at c.args.ranks.now c.loop-place.place ∷ []) c.loop-place.invariant
    ∙ sym (map-range_with_len_more (ranked_at c.args.ranks.now) 0 c.loop-place.place c.loop-place.place (zero-add c.loop-place.place)))
