use Rattle.std.proofs.Common.{sym}
use Rattle.tk_pod.proofs.WalkFacts.{at_end, fits, here, later}
use Rattle.tk_pod.proofs.walk.PodWalk.broken.Goals as goal

pub returns-then-not-passes : goal.returns-then-not-passes
returns-then-not-passes c =
    here c.args.self.now c.self.inside.steps c.self.inside.keep_going c.self.inside.count c.loop-step.step c.self.inside.exits c.passes.result
    (sym c.self.view_is) (fits c.self.inside.count c.self.inside.exits c.self.told c.self.invariant.1) c.loop-step-test.true c.passes.ensures c.if-not-passes.true c.loop-step.invariant

pub loop-step-preserved : goal.loop-step-preserved
loop-step-preserved c =
    later c.args.self.now c.self.inside.steps c.self.inside.keep_going c.self.inside.count c.loop-step.step c.self.inside.exits c.passes.result
    (sym c.self.view_is) (fits c.self.inside.count c.self.inside.exits c.self.told c.self.invariant.1) c.loop-step-test.true c.passes.ensures c.if-not-passes.false c.loop-step.invariant

pub returns : goal.returns
returns c =
    at_end c.args.self.now c.self.inside.steps c.self.inside.keep_going c.self.inside.count c.loop-step.step c.self.inside.exits (sym c.self.view_is) (fits c.self.inside.count c.self.inside.exits c.self.told c.self.invariant.1) c.loop-step-test.false c.loop-step.invariant
