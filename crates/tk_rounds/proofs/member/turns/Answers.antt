use Rattle.std.proofs.Common.{ℕ, subst, ◌∙◌}
use Rattle.tk_rounds.specs.Growth.{GrowsBy, IsOwn}
use Rattle.tk_rounds.proofs.Growing.{grows_on}
use Rattle.tk_rounds.proofs.member.turns.Goals as goal

pub returns-in_err-take_turn-clause-grows : goal.returns-in_err-take_turn-clause-grows
returns-in_err-take_turn-clause-grows g c =
    grows_on (IsOwn (g.M.Member.mine (g.M.Member.number c.args.member.now))) c.args.store.now.history c.loop.store.history c.take_turn.new.store.history c.loop.invariant.grows
    (subst (λ (n : ℕ). GrowsBy (IsOwn (g.M.Member.mine n)) c.loop.store.history c.take_turn.new.store.history) c.loop.invariant.number c.take_turn.ensures.grows)

pub returns-then-not-branch-clause-grows : goal.returns-then-not-branch-clause-grows
returns-then-not-branch-clause-grows g c =
    grows_on (IsOwn (g.M.Member.mine (g.M.Member.number c.args.member.now))) c.args.store.now.history c.loop.store.history c.take_turn.new.store.history c.loop.invariant.grows
    (subst (λ (n : ℕ). GrowsBy (IsOwn (g.M.Member.mine n)) c.loop.store.history c.take_turn.new.store.history) c.loop.invariant.number c.take_turn.ensures.grows)

pub loop-preserved : goal.loop-preserved
loop-preserved g c = record {
  legal = c.take_turn.ensures.legal;
  ready = c.take_turn.ensures.ready;
  number = c.take_turn.ensures.number ∙ c.loop.invariant.number;
  grows =
      grows_on (IsOwn (g.M.Member.mine (g.M.Member.number c.args.member.now))) c.args.store.now.history c.loop.store.history c.take_turn.new.store.history c.loop.invariant.grows
      (subst (λ (n : ℕ). GrowsBy (IsOwn (g.M.Member.mine n)) c.loop.store.history c.take_turn.new.store.history) c.loop.invariant.number c.take_turn.ensures.grows);
  follows = λ start is. c.take_turn.ensures.follows start (c.loop.invariant.follows start is);
}
