use Rattle.std.proofs.Common.{◌≡◌, ℕ, ◌<◌, true, length, get_or, length-set, ap, sym, ◌∙◌, subst, arith}
use Rattle.std.specs.Prelude.{Bool, ◌||◌, eqb}
use Rattle.tk_turn.specs.Claims.{owns}
use Rattle.tk_passes.specs.Standing.{IsBack}
use Rattle.tk_passes.proofs.Owning.{all_among, at_or_set, back_more, back_same, follows_then, get_or_same, own_back}
use Rattle.tk_passes.proofs.back.take_back.Goals as goal

pub loop-i-preserved : goal.loop-i-preserved
loop-i-preserved g c =
    let a = g.A.Actor in
    let first = c.args.members.now in
    let ms = c.loop-i.members in
    let i = c.loop-i.i in
    let d = c.index-members-i.result in
    let v = c.loop-i.invariant in
    let count = v.count in
    let one = c.take_one.ensures in
    let m = c.take_one.new.member in
    let now = c.take_one.new.pass.claim in
    let below : i < length ms = omega arith in
    let same = v.rest i d (omega arith) below in
    let more : (x : ℕ) → owns c.loop-i.pass.claim x ≡ true → owns now x ≡ true = λ x own. one.owns x ∙ ap (λ (b : Bool). b || eqb x (a.number (get_or ms i d).actor)) own in
    record {
      count = length-set ms i m ∙ v.count;
      lock = one.lock ∙ v.lock;
      first = one.first;
      sound = one.sound;
      still = λ x own. more x (v.still x own);
      follows = follows_then c.args.pass.now.claim c.loop-i.pass.claim now.seen v.still v.follows one.follows;
      done = λ k e lt len.
          let short : k < length ms = omega (arith, length-set ms i m) in
          at_or_set (λ x. (owns now (a.number x.actor) ≡ true) × IsBack a.number a.such a.ready a.follows now.seen (get_or first k e) x) ms i k m e
          (λ here.
          let was : get_or ms i d ≡ get_or first k e = same ∙ (get_or_same first i d e (omega arith) ∙ ap (λ (z : ℕ). get_or first z e) (sym here)) in
          (own_back (owns c.loop-i.pass.claim) (owns now) (a.number (get_or ms i d).actor) (a.number m.actor) one.owns (back_same a.number a.such a.ready a.follows now.seen (get_or ms i d) m one.member), subst (λ x. IsBack a.number a.such a.ready a.follows now.seen x m) was one.member))
          (λ ne.
          let before = v.done k e (omega (arith, ne)) short in
          (more _ before.0, back_more a.number a.such a.ready a.follows a.sound c.laws.ensures.keep c.laws.ensures.follow c.loop-i.pass.claim now.seen (get_or first k e) (get_or ms k e) before.0 one.follows one.sound before.1))
          short;
      rest = λ k e le len.
          let short : k < length ms = omega (arith, length-set ms i m) in
          at_or_set (λ x. x ≡ get_or first k e) ms i k m e (λ here. absurd (omega arith)) (λ ne. v.rest k e (omega arith) short) short;
    }

pub returns-clause-back : goal.returns-clause-back
returns-clause-back g c =
    let a = g.A.Actor in
    let v = c.loop-i.invariant in
    let count = v.count in
    all_among a.number (λ x. owns c.loop-i.pass.claim x ≡ true) c.args.members.now (λ k d lt.
    let k_done = v.done k d (omega arith) (omega arith) in
    subst (λ (n : ℕ). owns c.loop-i.pass.claim n ≡ true) (back_same a.number a.such a.ready a.follows c.loop-i.pass.claim.seen (get_or c.args.members.now k d) (get_or c.loop-i.members k d) k_done.1) k_done.0)
