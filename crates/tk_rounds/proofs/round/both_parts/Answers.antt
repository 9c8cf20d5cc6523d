use Rattle.std.proofs.Common.{length, inl, inr}
use Rattle.std.specs.Prelude.{◌⊎◌}
use Rattle.tk_journal.specs.declared.entry.Entry.{Entry}
use Rattle.tk_rounds.specs.Growth.{OfOne}
use Rattle.tk_rounds.proofs.Growing.{grows_as, grows_on}
use Rattle.tk_rounds.proofs.round.both_parts.Goals as goal

pub returns-in_err-part_beside-clause-others_follow : goal.returns-in_err-part_beside-clause-others_follow
returns-in_err-part_beside-clause-others_follow g c = c.part_beside.ensures.beside_follow

pub part_beside-requires-2-clause-kinds : goal.part_beside-requires-2-clause-kinds
part_beside-requires-2-clause-kinds g c i j e = let apart = c.requires.kinds j i e in (apart.1, apart.0)

pub returns-clause-grows : goal.returns-clause-grows
returns-clause-grows g c =
    let ones = OfOne g.A.Member.mine (length c.args.ones.now) in
    let others = OfOne g.B.Member.mine (length c.args.others.now) in
    grows_on (λ (e : Entry). ones e ⊎ others e) c.args.store.now.history c.part_beside.new.store.history c.part_beside-2.new.store.history
    (grows_as ones (λ (e : Entry). ones e ⊎ others e) (λ e own. inl own) c.args.store.now.history c.part_beside.new.store.history c.part_beside.ensures.grows)
    (grows_as others (λ (e : Entry). ones e ⊎ others e) (λ e own. inr own) c.part_beside.new.store.history c.part_beside-2.new.store.history c.part_beside-2.ensures.grows)

pub returns-clause-ones_follow : goal.returns-clause-ones_follow
returns-clause-ones_follow g c i start a b at_a at_b is = c.part_beside-2.ensures.beside_follow i start b b at_b at_b (c.part_beside.ensures.members_follow i start a b at_a at_b is)

pub returns-clause-others_follow : goal.returns-clause-others_follow
returns-clause-others_follow g c i start a b at_a at_b is = c.part_beside-2.ensures.members_follow i start a b at_a at_b (c.part_beside.ensures.beside_follow i start a a at_a at_a is)
