use Rattle.std.proofs.Common.{◌≡◌, ℕ, suc, ◌-◌, ◌<◌, true, length, get_or, length-set, ap, sym, ◌∙◌, subst, arith}
use Rattle.tk_turn.specs.Claims.{Claim, lends, owns}
use Rattle.tk_passes.specs.declared.actor.Member.{Member}
use Rattle.tk_passes.specs.Standing.{IsHanded}
use Rattle.tk_passes.proofs.Owning.{among_at, at_or_set, free_at, get_or_same, still_lent}
use Rattle.tk_passes.proofs.handing.hand_out.Goals as goal

pub hand_one-requires-clause-owns : goal.hand_one-requires-clause-owns
hand_one-requires-clause-owns g c =
    let number = g.A.Actor.number in
    let first = c.args.members.now in
    let at = c.loop-at.at in
    let d = c.index-members-at.result in
    let i = c.loop-at.invariant in
    let inside = i.inside in
    let count = i.count in
    let positive = c.loop-at-test.true in
    let next : at ≡ suc (at - 1) = omega arith in
    let there = among_at number first (at - 1) d (omega arith) in
    let n = number (get_or first (at - 1) d).actor in
    subst (λ (m : Member g.row.A.Denot). owns c.loop-at.pass.claim (number m.actor) ≡ true) (sym (i.before (at - 1) d (omega arith)))
    (i.still n (c.requires.owns n there) (free_at number first (at - 1) at d c.requires.distinct next (omega arith)))

pub loop-at-preserved : goal.loop-at-preserved
loop-at-preserved g c =
    let number = g.A.Actor.number in
    let first = c.args.members.now in
    let ms = c.loop-at.members in
    let at = c.loop-at.at in
    let d = c.index-members-at.result in
    let i = c.loop-at.invariant in
    let inside = i.inside in
    let count = i.count in
    let positive = c.loop-at-test.true in
    let next : at ≡ suc (at - 1) = omega arith in
    let one = c.hand_one.ensures in
    let m = c.hand_one.new.member in
    let same = i.before (at - 1) d (omega arith) in
    record {
      inside = omega (arith, length-set ms (at - 1) m);
      count = length-set ms (at - 1) m ∙ i.count;
      lock = one.lock ∙ i.lock;
      first = ap (λ (e : Claim). e.first) one.claim ∙ i.first;
      seen = ap (λ (e : Claim). e.seen) one.claim ∙ i.seen;
      still = still_lent number c.loop-at.pass.claim c.hand_one.new.pass.claim first (at - 1) at d i.first next (omega arith)
          (subst (λ (x : Member g.row.A.Denot). c.hand_one.new.pass.claim ≡ lends c.loop-at.pass.claim (number x.actor)) same one.claim) (λ x. owns c.args.pass.now.claim x ≡ true) i.still;
      before = λ k e lt. at_or_set (λ x. x ≡ get_or first k e) ms (at - 1) k m e (λ here. absurd (omega arith)) (λ ne. i.before k e (omega arith)) (omega arith);
      behind = λ k e le lt.
          let short : k < length ms = omega (arith, length-set ms (at - 1) m) in
          at_or_set (λ x. IsHanded number c.args.lock.now c.args.pass.now.claim.seen (get_or first k e) x) ms (at - 1) k m e
          (λ here.
          let was : get_or ms (at - 1) d ≡ get_or first k e = same ∙ (get_or_same first (at - 1) d e (omega arith) ∙ ap (λ (z : ℕ). get_or first z e) (sym here)) in
          subst (λ x. IsHanded number c.args.lock.now c.args.pass.now.claim.seen x m) was (subst (λ s. IsHanded number c.args.lock.now s (get_or ms (at - 1) d) m) i.seen one.member))
          (λ ne. i.behind k e (omega arith) short) short;
    }
