use Rattle.std.proofs.Common.{sym, ◌∙◌, ap, arith}
use Rattle.tk_journal.proofs.Past.{past_whole}
use Rattle.tk_journal.proofs.Positions.{past_none}
use Rattle.tk_lives.specs.Lives.{greatest_life}
use Rattle.tk_lives.proofs.Walks.{greatest_more}
use Rattle.tk_lives.proofs.lives.greatest_life.Goals as goal

pub loop-place-init : goal.loop-place-init
loop-place-init c = sym (ap (greatest_life c.args.number) (past_none c.args.journal.now.history))

pub loop-place-preserved : goal.loop-place-preserved
loop-place-preserved c =
    let more = greatest_more c.args.number c.args.journal.now.history c.loop-place.place c.entry.result.now c.entry.ensures in
    cc

pub returns : goal.returns
returns c =
    c.loop-place.invariant ∙ ap (greatest_life c.args.number) (past_whole c.loop-place.place c.args.journal.now.history (omega (arith, c.loop-place-test.false, c.len-place-end.ensures.value)))
