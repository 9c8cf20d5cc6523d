use Rattle.std.proofs.Common.{length}
use Rattle.tk_rounds.specs.Growth.{OfOne}
use Rattle.tk_rounds.proofs.Parts.{all_follow, all_ready, none_of, same_follow}
use Rattle.tk_rounds.proofs.round.part_beside.Goals as goal

pub returns-clause-beside : goal.returns-clause-beside
returns-clause-beside g c =
    let m = g.B.Member in
    all_ready m.mine m.number m.ready m.follows c.laws.ensures.keep c.laws.ensures.follow (OfOne g.A.Member.mine (length c.args.members.now)) (none_of g.A.Member.mine m.mine c.requires.kinds (length c.args.members.now)) c.args.beside.now c.args.store.now.history c.part.new.store.history c.part.ensures.legal c.part.ensures.grows c.requires.beside

pub returns-clause-beside_follow : goal.returns-clause-beside_follow
returns-clause-beside_follow g c =
    let m = g.B.Member in
    all_follow m.mine m.number m.ready m.follows c.laws.ensures.keep c.laws.ensures.follow (OfOne g.A.Member.mine (length c.args.members.now)) (none_of g.A.Member.mine m.mine c.requires.kinds (length c.args.members.now)) c.args.beside.now c.args.beside.now c.args.store.now.history c.args.store.now.history c.part.new.store.history c.part.ensures.legal c.part.ensures.grows c.requires.beside
    (same_follow m.mine m.number m.ready m.follows c.laws.ensures.keep c.laws.ensures.follow c.args.beside.now c.args.store.now.history)
