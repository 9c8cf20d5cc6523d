use Rattle.tk_passes.specs.Standing.{IsPassFor, Stands}
use Rattle.tk_passes.proofs.turns.go.Given as goal

abbrev pub invariant-loop : goal.invariant-loop
invariant-loop g l =
    let a = g.A.Actor in
    record {
      pass : IsPassFor l.lock (a.number l.fn.actor) l.now;
      sound : a.sound l.now.claim.seen;
      stands : Stands a.number a.such a.ready a.follows l.fn.actor l.fn.pass.claim.seen l.actor l.now.claim.seen;
    }
