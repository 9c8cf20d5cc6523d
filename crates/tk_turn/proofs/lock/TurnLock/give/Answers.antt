use Rattle.std.proofs.Common.{◌≡◌, ℕ, ◌+◌, ◌%◌, ◌^◌, Some, None, rules, refl, ap, sym, ◌∙◌, subst}
use Rattle.tk_turn.specs.Claims.{saw, Continues}
use Rattle.tk_turn.specs.Views.{claim_in}
use Rattle.tk_turn.proofs.Calls.{publishes_as, passes_on_as, out_is, exchanged_me, published, passed, only_claim}
use Rattle.tk_turn.proofs.lock.TurnLock.give.Goals as goal

pub unreachable-requires : goal.unreachable-requires
unreachable-requires g c =
    let has = c.held.invariant in
    let was = out_is _ _ _ (ap (λ m. m.1) has.2) c.exchange.ensures.2 in
    let two : Some c.in-Some.field-0 ≡ None = sym c.in-Some.is ∙ was in
    cc

pub store-requires : goal.store-requires
store-requires g c =
    let has = c.held.invariant in
    let lock = ap (λ h. h.lock) c.held.view_is ∙ (c.requires.lock ∙ sym c.self.view_is) in
    let state = ap (λ h. h.state) c.held.view_is in
    let claim = ap (λ h. h.claim) c.held.view_is in
    let out = exchanged_me _ _ _ _ _ has.2 c.exchange.ensures.3 in
    let mine = sym (ap (λ m. m.0.claim) has.2) ∙ claim in (
      c.exchange.ensures.0 ∙ lock,
      search rules,
      publishes_as g.S.Journaled.journal _ _ _ has.1 has.0 c.held.inside.state c.length-length.result c.self.invariant.1 out c.length-length.ensures
          (subst (λ d. Continues d (g.S.Journaled.journal c.held.inside.state)) (sym mine) (subst (λ x. Continues c.args.held.claim (g.S.Journaled.journal x)) (sym state) c.requires.journal)),
    )

pub store-requires-2 : goal.store-requires-2
store-requires-2 g c =
    let has = c.held.invariant in
    let x = c.held.inside.state in
    let lock = ap (λ h. h.lock) c.held.view_is ∙ (c.requires.lock ∙ sym c.self.view_is) in
    let out = exchanged_me _ _ _ _ _ has.2 c.exchange.ensures.3 in
    let now = published g.S.Journaled.journal _ _ c.length-length.result has.1 has.0 x out c.store.ensures.2 in (
      c.store.ensures.0 ∙ (c.exchange.ensures.0 ∙ lock),
      search rules,
      passes_on_as g.S.Journaled.journal _ _ _ has.1 (saw has.0 (g.S.Journaled.journal x)) x _ c.self.invariant.1 now (ap (λ (n : ℕ). (n + 1) % 2 ^ 64) has.3) refl,
    )

pub invariant_of-result : goal.invariant_of-result
invariant_of-result g c =
    let has = c.held.invariant in
    let x = c.held.inside.state in
    let out = exchanged_me _ _ _ _ _ has.2 c.exchange.ensures.3 in
    let now = published g.S.Journaled.journal _ _ c.length-length.result has.1 has.0 x out c.store.ensures.2 in
    let end = passed _ _ ((c.held.inside.ticket + 1) % 2 ^ 64) has.1 (saw has.0 (g.S.Journaled.journal x)) _ now c.store-2.ensures.2 in
    only_claim _ (saw has.0 (g.S.Journaled.journal x)) _ c.into_badge.ensures.2 (ap (λ m. m.0) end)

pub returns : goal.returns
returns g c =
    let has = c.held.invariant in
    let x = c.held.inside.state in
    let state = ap (λ h. h.state) c.held.view_is in
    let claim = ap (λ h. h.claim) c.held.view_is in
    let mine = sym (ap (λ m. m.0.claim) has.2) ∙ claim in
    let out = exchanged_me _ _ _ _ _ has.2 c.exchange.ensures.3 in
    let now = published g.S.Journaled.journal _ _ c.length-length.result has.1 has.0 x out c.store.ensures.2 in
    let end = passed _ _ ((c.held.inside.ticket + 1) % 2 ^ 64) has.1 (saw has.0 (g.S.Journaled.journal x)) _ now c.store-2.ensures.2 in
    record {
      lock = c.into_badge.ensures.0 ∙ (c.store-2.ensures.0 ∙ (c.store.ensures.0 ∙ (c.exchange.ensures.0 ∙ ap (λ h. h.lock) c.held.view_is)));
      claim = ap claim_in c.into_badge.ensures.2 ∙ (ap (λ m. m.0.claim) end ∙ (λ i. saw (mine i) (g.S.Journaled.journal (state i))));
    }
