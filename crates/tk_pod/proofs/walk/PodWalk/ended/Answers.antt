use Rattle.std.proofs.Common.{sym}
use Rattle.tk_pod.proofs.WalkFacts.{ended_exits, ended_is}
use Rattle.tk_pod.proofs.walk.PodWalk.ended.Goals as goal

pub invariant_of-self : goal.invariant_of-self
invariant_of-self c =
    ended_is c.args.self.now c.self.inside.steps c.self.inside.keep_going c.self.inside.count c.args.exit c.self.inside.exits (sym c.self.view_is) c.self.told
    c.self.invariant.0 c.self.invariant.1 c.requires

pub returns : goal.returns
returns c =
    ended_exits c.args.self.now c.self.inside.steps c.self.inside.keep_going c.self.inside.count c.args.exit c.self.inside.exits (sym c.self.view_is) c.self.told (invariant_of-self c)
