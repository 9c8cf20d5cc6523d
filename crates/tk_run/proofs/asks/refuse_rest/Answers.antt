use Rattle.std.proofs.Common.{◌∙◌}
use Rattle.tk_run.proofs.asks.refuse_rest.Goals as goal

pub returns-in_err-refuse_word-clause-asks : goal.returns-in_err-refuse_word-clause-asks
returns-in_err-refuse_word-clause-asks c since was = c.refuse_word.ensures.asks since (c.loop-place.invariant.asks since was)

pub loop-place-preserved : goal.loop-place-preserved
loop-place-preserved c = record {
  count = c.refuse_word.ensures.count ∙ c.loop-place.invariant.count;
  start = c.refuse_word.ensures.start ∙ c.loop-place.invariant.start;
  asks = λ since was. c.refuse_word.ensures.asks since (c.loop-place.invariant.asks since was);
  end = c.loop-place.invariant.end;
}
