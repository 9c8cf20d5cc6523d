use Rattle.std.proofs.Common.{ℕ, subst}
use Rattle.tk_passes.specs.Standing.{IsPassFor}
use Rattle.tk_passes.proofs.Standing.{stands_on}
use Rattle.tk_passes.proofs.turns.go.Goals as goal

pub returns-in-Ok-false-clause-stands : goal.returns-in-Ok-false-clause-stands
returns-in-Ok-false-clause-stands g c =
    let a = g.A.Actor in
    stands_on a.number a.such a.ready a.follows c.args.actor.now c.loop.actor c.one_turn-next.new.actor c.args.pass.claim.seen c.loop.now.claim.seen c.one_turn-next.result.0.claim.seen c.loop.invariant.stands c.one_turn-next.ensures.stands

pub returns-in-Err-clause-stands : goal.returns-in-Err-clause-stands
returns-in-Err-clause-stands g c =
    let a = g.A.Actor in
    stands_on a.number a.such a.ready a.follows c.args.actor.now c.loop.actor c.one_turn-next.new.actor c.args.pass.claim.seen c.loop.now.claim.seen c.one_turn-next.result.0.claim.seen c.loop.invariant.stands c.one_turn-next.ensures.stands

pub loop-preserved : goal.loop-preserved
loop-preserved g c =
    let a = g.A.Actor in
    let before = c.loop.invariant.stands in
    record {
      pass = subst (λ (n : ℕ). IsPassFor c.args.lock.now n c.one_turn-next.result.0) before.same c.one_turn-next.ensures.pass;
      sound = c.one_turn-next.ensures.sound;
      stands = stands_on a.number a.such a.ready a.follows c.args.actor.now c.loop.actor c.one_turn-next.new.actor c.args.pass.claim.seen c.loop.now.claim.seen c.one_turn-next.result.0.claim.seen before c.one_turn-next.ensures.stands;
    }
