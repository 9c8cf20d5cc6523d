use Rattle.std.proofs.Common.{Bool, List, [], ◌∷◌, ◌++◌, map, sym, ap, ◌∙◌, zero-add, arith}
use Rattle.std.specs.List.{range_with_len}
use Rattle.std.proofs.lemmas.List.FromFn.{map-range_with_len_more}
use Rattle.tk_verdict.specs.Good.{is_good_at}
use Rattle.tk_verdict.proofs.Mapped.{all_asked}
use Rattle.tk_verdict.proofs.good.good_tasks.Goals as goal

pub loop-place-preserved : goal.loop-place-preserved
loop-place-preserved c =
    let test = is_good_at c.args.facts.now in
    c.in_ok-push.ensures.items
    ∙ (ap (λ (good : List Bool). good ++ c.is_good_at.result ∷ []) c.loop-place.invariant
    ∙ (ap (λ (b : Bool). map test (range_with_len 0 c.loop-place.place) ++ b ∷ []) c.is_good_at.ensures
    ∙ sym (map-range_with_len_more test 0 c.loop-place.place c.loop-place.place (zero-add c.loop-place.place))))

pub returns : goal.returns
returns c = all_asked c.args.facts.now c.loop-place.good.items c.loop-place.place c.loop-place.invariant (omega (arith, c.len.ensures, c.len-2.ensures, c.loop-place-test.false))
