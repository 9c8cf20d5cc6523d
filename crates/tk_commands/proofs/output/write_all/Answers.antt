use Rattle.tk_commands.proofs.Counts.{none_failed}
use Rattle.tk_commands.proofs.Fronts.{front_grows, start_within}
use Rattle.tk_commands.proofs.output.write_all.Goals as goal

pub loop-start-preserved : goal.loop-start-preserved
loop-start-preserved g c = (
  start_within c.args.text.now c.loop-start.start c.in_ok-count.count c.loop-start.invariant.0 c.in_ok-count.ensures.count,
  front_grows (g.W.Sink.written c.args.sink.now) (g.W.Sink.written c.loop-start.sink) (g.W.Sink.written c.write.new.self) c.args.text.now c.loop-start.start c.in_ok-count.count c.loop-start.invariant.1 c.in_ok-count.ensures.bytes,
  none_failed _ c.in_ok-count.count _ _ _ c.if-count-eq0.false c.loop-start.invariant.2 c.in_ok-count.ensures.faults,
)
