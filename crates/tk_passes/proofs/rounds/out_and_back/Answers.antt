use Rattle.std.proofs.Common.{ℕ, List, get_or, sym, ◌∙◌, subst}
use Rattle.tk_passes.specs.Standing.{Each, IsAmong, IsHanded, numbers}
use Rattle.tk_passes.proofs.Around.{all_owned, distinct_apart, distinct_left, distinct_right, each_more, grows_by, lent_ones, numbers_behind, numbers_turned, ready_behind, stands_around, wrote_rest}
use Rattle.tk_passes.proofs.Owning.{among_at, back_same, follows_then}
use Rattle.tk_passes.proofs.rounds.out_and_back.Goals as goal

pub hand_out-requires-clause-distinct : goal.hand_out-requires-clause-distinct
hand_out-requires-clause-distinct g c = distinct_left (numbers g.A.Actor.number c.args.left.now) (numbers g.B.Actor.number c.args.right.now) c.requires.distinct

pub hand_out-requires-2-clause-owns : goal.hand_out-requires-2-clause-owns
hand_out-requires-2-clause-owns g c =
    let left = numbers g.A.Actor.number c.args.left.now in
    let right = numbers g.B.Actor.number c.args.right.now in
    λ x is. c.hand_out.ensures.still x (c.requires.all x) (distinct_apart left right c.requires.distinct x is)

pub hand_out-requires-2-clause-distinct : goal.hand_out-requires-2-clause-distinct
hand_out-requires-2-clause-distinct g c = distinct_right (numbers g.A.Actor.number c.args.left.now) (numbers g.B.Actor.number c.args.right.now) c.requires.distinct

pub returns-clause-all : goal.returns-clause-all
returns-clause-all g c =
    let a = g.A.Actor in
    let b = g.B.Actor in
    let s = c.args.pass.now.claim.seen in
    let left = numbers a.number c.args.left.now in
    let right = numbers b.number c.args.right.now in
    let one = c.hand_out.ensures in
    let two = c.hand_out-2.ensures in
    let out = subst (λ l. Each (IsHanded b.number c.args.lock.now l) c.args.right.now c.hand_out-2.new.members) one.seen two.members in
    let same_left = numbers_turned a.number a.sound a.such a.ready a.follows c.args.lock.now s c.args.left.now c.hand_out.new.members c.both_turns.new.left one.members c.both_turns.ensures.left in
    let same_right = numbers_turned b.number b.sound b.such b.ready b.follows c.args.lock.now s c.args.right.now c.hand_out-2.new.members c.both_turns.new.right out c.both_turns.ensures.right in
    all_owned left right c.hand_out-2.new.pass.claim c.take_back.new.pass.claim c.take_back-2.new.pass.claim (λ x none none_too. two.still x (one.still x (c.requires.all x) none) none_too) c.take_back.ensures.still
    (λ x is. c.take_back.ensures.back x (subst (λ (ns : List ℕ). IsAmong ns x) (sym same_left) is)) c.take_back-2.ensures.still (λ x is. c.take_back-2.ensures.back x (subst (λ (ns : List ℕ). IsAmong ns x) (sym same_right) is))

pub returns-clause-left : goal.returns-clause-left
returns-clause-left g c =
    let a = g.A.Actor in
    let s = c.args.pass.now.claim.seen in
    let end = c.take_back-2.new.pass.claim.seen in
    let mid = c.take_back.new.pass.claim in
    let zs = c.both_turns.new.left in
    let ws = c.take_back.new.members in
    let back = c.take_back.ensures.members in
    stands_around a.number a.sound a.such a.ready a.follows c.args.lock.now s end c.args.left.now c.hand_out.new.members zs ws c.hand_out.ensures.members c.both_turns.ensures.left
    (each_more a.number a.sound a.such a.ready a.follows c.laws.ensures.keep c.laws.ensures.follow mid end zs ws c.take_back.ensures.back
    (λ i d h. subst (IsAmong (numbers a.number zs)) (sym (back_same a.number a.such a.ready a.follows mid.seen (get_or zs i d) (get_or ws i d) (back.1 i d h))) (among_at a.number zs i d h)) c.take_back-2.ensures.follows ((c.requires.alike end).1 c.take_back-2.ensures.sound) back)

pub returns-clause-right : goal.returns-clause-right
returns-clause-right g c =
    let b = g.B.Actor in
    let s = c.args.pass.now.claim.seen in
    let out = subst (λ l. Each (IsHanded b.number c.args.lock.now l) c.args.right.now c.hand_out-2.new.members) c.hand_out.ensures.seen c.hand_out-2.ensures.members in
    stands_around b.number b.sound b.such b.ready b.follows c.args.lock.now s c.take_back-2.new.pass.claim.seen c.args.right.now c.hand_out-2.new.members c.both_turns.new.right c.take_back-2.new.members out c.both_turns.ensures.right c.take_back-2.ensures.members

pub returns-clause-grows : goal.returns-clause-grows
returns-clause-grows g c =
    let a = g.A.Actor in
    let b = g.B.Actor in
    let s = c.args.pass.now.claim.seen in
    let end = c.take_back-2.new.pass.claim.seen in
    let left = numbers a.number c.args.left.now in
    let right = numbers b.number c.args.right.now in
    let one = c.hand_out.ensures in
    let two = c.hand_out-2.ensures in
    let start = c.hand_out-2.new.pass.claim in
    grows_by a.such b.such left right start s end (two.seen ∙ one.seen)
    (λ rest grown. wrote_rest a.number a.such a.ready a.follows s end rest c.args.left.now c.take_back.new.members grown (returns-clause-left g c))
    (λ rest grown. wrote_rest b.number b.such b.ready b.follows s end rest c.args.right.now c.take_back-2.new.members grown (returns-clause-right g c))
    (lent_ones left right start (λ x none none_too. two.still x (one.still x (c.requires.all x) none) none_too))
    (follows_then start c.take_back.new.pass.claim end c.take_back.ensures.still c.take_back.ensures.follows c.take_back-2.ensures.follows)

pub returns-clause-numbers : goal.returns-clause-numbers
returns-clause-numbers g c =
    let a = g.A.Actor in
    let b = g.B.Actor in
    let s = c.args.pass.now.claim.seen in
    let end = c.take_back-2.new.pass.claim.seen in (
      numbers_behind a.number a.such a.ready a.follows s end c.args.left.now c.take_back.new.members (returns-clause-left g c),
      numbers_behind b.number b.such b.ready b.follows s end c.args.right.now c.take_back-2.new.members (returns-clause-right g c),
    )

pub returns-clause-left_ready : goal.returns-clause-left_ready
returns-clause-left_ready g c =
    let a = g.A.Actor in
    ready_behind a.number a.such a.ready a.follows c.args.pass.now.claim.seen c.take_back-2.new.pass.claim.seen c.args.left.now c.take_back.new.members (returns-clause-left g c)

pub returns-clause-right_ready : goal.returns-clause-right_ready
returns-clause-right_ready g c =
    let b = g.B.Actor in
    ready_behind b.number b.such b.ready b.follows c.args.pass.now.claim.seen c.take_back-2.new.pass.claim.seen c.args.right.now c.take_back-2.new.members (returns-clause-right g c)
