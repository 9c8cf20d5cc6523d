use Rattle.std.proofs.Common.{◌+◌, take}
use Rattle.std.proofs.lemmas.List.{take_more}
use Rattle.tk_resolve.specs.Due.{seen}
use Rattle.tk_resolve.proofs.Asked.{same_more, seen_more}
use Rattle.tk_resolve.proofs.asks.asks_of.Goals as goal

pub loop-standing-preserved : goal.loop-standing-preserved
loop-standing-preserved c =
    let texts = c.args.texts.now in
    let i = c.loop-standing.standing-index in
    same_more _ _ (seen (take i texts)) (seen (take (i + 1) texts)) c.loop-standing.asks c.add_text.new.self
    (seen_more (take i texts) (take (i + 1) texts) _ (take_more texts i _ c.loop-standing-test.true)) c.loop-standing.invariant c.in_ok-add_text.ensures
