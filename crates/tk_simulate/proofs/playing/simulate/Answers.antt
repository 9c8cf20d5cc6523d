use Rattle.tk_simulate.specs.Played.{given_by}
use Rattle.tk_simulate.proofs.Begun.{may_play, plays_to}
use Rattle.tk_simulate.proofs.playing.simulate.Goals as goal

pub play-requires : goal.play-requires
play-requires c = may_play (given_by c.args.bytes.now) c.in_ok-start.ensures.1 c.in_ok-start.field-0 c.in_ok-start.ensures.2

pub returns : goal.returns
returns c = (
  c.in_ok-start.ensures.0,
  plays_to (given_by c.args.bytes.now) c.in_ok-start.ensures.1 c.in_ok-start.field-0 c.in_ok-start.ensures.2 c.in_ok-play.field-0.history c.in_ok-play.ensures,
)
