use Rattle.std.proofs.Common.{◌≡◌, Some, sym, ◌∙◌}
use Rattle.tk_passes.proofs.Owning.{back_with, seated_with, sound_joined}
use Rattle.tk_passes.proofs.Standing.{stands_behind}
use Rattle.tk_passes.proofs.back.take_one.Goals as goal

pub returns-in-Some-clause-member : goal.returns-in-Some-clause-member
returns-in-Some-clause-member g c =
    let a = g.A.Actor in
    let m = c.args.member.now in
    let q = c.in-Some.other in
    let was : m.pass ≡ Some q = sym c.take.ensures.value ∙ c.in-Some.is in
    let seated = seated_with a.number a.sound a.ready c.args.lock.now m.actor m.pass q was c.requires.seated in
    let here = sound_joined a.sound c.args.pass.now.claim q.claim c.join.new.pass.claim c.join.ensures.claim c.requires.sound seated.1 in
    back_with a.number a.such a.ready a.follows c.join.new.pass.claim.seen m.actor m.actor m.pass q was
    (stands_behind a.number a.such a.ready a.follows a.sound c.laws.ensures.keep c.laws.ensures.follow m.actor q.claim c.join.new.pass.claim.seen seated.0.alone seated.0.owner c.join.ensures.follows_other here seated.2)
