use Rattle.std.proofs.Common.{◌<◌, length, sym, ◌∙◌, arith}
use Rattle.std.specs.Map.{keys_of}
use Rattle.tk_cache.specs.Views.{object_in}
use Rattle.tk_lives.proofs.Walks.{strange_here, strange_more}
use Rattle.tk_lives.proofs.strange.first_strange.Goals as goal

pub loop-place-preserved : goal.loop-place-preserved
loop-place-preserved c =
    let names = keys_of c.args.cache.now.pods in
    let less : c.loop-place.place < length names = omega (arith, c.loop-place-test.true, c.pod_count-place-end.ensures) in
    c.loop-place.invariant
    ∙ strange_more c.args.nodes (object_in c.args.cache.now.pods) names c.loop-place.place c.pod_at.result.now c.strange_claim-strange.result less c.pod_at.ensures c.strange_claim-strange.ensures
    (sym c.is_some.ensures ∙ c.if-is_some.false)

pub returns-then-is_some : goal.returns-then-is_some
returns-then-is_some c =
    let names = keys_of c.args.cache.now.pods in
    let less : c.loop-place.place < length names = omega (arith, c.loop-place-test.true, c.pod_count-place-end.ensures) in
    sym (c.loop-place.invariant
    ∙ strange_here c.args.nodes (object_in c.args.cache.now.pods) names c.loop-place.place c.pod_at.result.now c.strange_claim-strange.result less c.pod_at.ensures c.strange_claim-strange.ensures
    (sym c.is_some.ensures ∙ c.if-is_some.true))
