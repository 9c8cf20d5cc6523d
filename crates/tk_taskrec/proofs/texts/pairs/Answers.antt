use Rattle.std.proofs.Common.{◌≡◌, ◌+◌, List, Some, drop, sym, ap, ◌∙◌}
use Rattle.std.specs.Result.{result_ok}
use Rattle.tk_bind.specs.Substitute.{substituted_pair}
use Rattle.tk_types.specs.declared.value.Pair.{Pair}
use Rattle.tk_taskrec.proofs.Gathered.{gathered, gathered_all, gathered_more, all_there}
use Rattle.tk_taskrec.proofs.texts.pairs.Goals as goal

pub loop-written-init : goal.loop-written-init
loop-written-init c =
    let f = λ (p : Pair). result_ok (substituted_pair c.args.lookup.now p) in
    ap (λ (ys : List Pair). gathered f ys c.args.pairs.now) c.new-made.ensures ∙ (gathered_all f c.args.pairs.now ∙ sym (all_there (substituted_pair c.args.lookup.now) c.args.pairs.now))

pub loop-written-preserved : goal.loop-written-preserved
loop-written-preserved c =
    let f = λ (p : Pair). result_ok (substituted_pair c.args.lookup.now p) in
    let place = c.loop-written.written-index in
    let there : f c.written-item.result ≡ Some c.in-Some.pair = (let a = c.in_ok-pair.ensures in let b = c.in-Some.is in cc) in
    ap (λ (ys : List Pair). gathered f ys (drop (place + 1) c.args.pairs.now)) c.in_ok-push-in-Some.ensures.ok
    ∙ (sym (gathered_more f c.loop-written.made c.args.pairs.now place c.written-item.result c.in-Some.pair c.loop-written-test.true c.written-item.is there) ∙ c.loop-written.invariant)
