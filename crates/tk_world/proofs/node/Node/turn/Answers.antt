use Rattle.std.proofs.Common.{refl}
use Rattle.tk_world.proofs.Played.{node_plays}
use Rattle.tk_world.proofs.node.Node.turn.Goals as goal

pub returns-clause-plays : goal.returns-clause-plays
returns-clause-plays c =
    node_plays c.args.self.now (record { cache = c.args.self.now.cache; life = c.args.self.now.life; kubelet = c.turn.new.self; host = c.turn.new.host }) c.args.moment
    c.args.store.now c.turn.new.store c.in_ok-turn.turn c.legal.ensures refl refl c.turn.ensures.same c.turn.ensures.met c.in_ok-turn.ensures.answer
    c.follows_script.ensures.sure c.follows_script-2.ensures.sure c.follows_script-2.ensures.exits c.follows_script-2.ensures.refusals
