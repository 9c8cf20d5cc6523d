use Rattle.tk_passes.specs.Standing.{Turned}
use Rattle.tk_passes.proofs.Standing.{each_of}
use Rattle.tk_passes.proofs.turns.all_turns.Goals as goal

pub returns : goal.returns
returns g c =
    let a = g.A.Actor in
    each_of (Turned a.number a.sound a.such a.ready a.follows c.args.lock.now) c.args.members.now c.for_each_mut.new.s c.for_each_mut.auto.s (λ i d h.
    let k = (c.for_each_mut.ensures i d h).1 in
    (k.argument.now, k.after_call.now, k.argument_is, k.left, k.call))
