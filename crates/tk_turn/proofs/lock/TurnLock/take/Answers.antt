use Rattle.std.proofs.Common.{Some, rules, refl, ap, sym, ◌∙◌, subst}
use Rattle.tk_turn.specs.Claims.{saw, Follows}
use Rattle.tk_turn.specs.Views.{seat_view, waits}
use Rattle.tk_turn.proofs.Calls.{seat_of, draws_as, looks_as, took, last_out, out_is, some_same, exchanged_me, is_some_by, stays}
use Rattle.tk_turn.proofs.lock.TurnLock.take.Goals as goal

pub fetch_add-ticket-requires : goal.fetch_add-ticket-requires
fetch_add-ticket-requires g c =
    let seat = c.into_seat-seat.ensures in
    let lock = ap (λ v. v.lock) c.pass.view_is ∙ (c.requires ∙ sym c.self.view_is) in
    (seat.0 ∙ lock, search rules, draws_as g.S.Journaled.journal _ _ _ c.args.pass.claim c.self.invariant.1 (seat_of _ _ _ c.pass.invariant (ap (λ v. v.claim) c.pass.view_is) seat.2 seat.3))

pub loop-init : goal.loop-init
loop-init g c =
    let seat = c.into_seat-seat.ensures in
    let drawn = c.fetch_add-ticket.ensures.2 in
    (refl, (drawn.0, drawn.1, drawn.2 ∙ (λ i. (seat_view (waits drawn.0) (ap (λ m. m.0.claim) (sym drawn.2) i), seat.3 i))))

pub load-serving-requires : goal.load-serving-requires
load-serving-requires g c =
    let seat = c.into_seat-seat.ensures in
    let lock = ap (λ v. v.lock) c.pass.view_is ∙ (c.requires ∙ sym c.self.view_is) in
    let i = c.loop.invariant in
    (i.0 ∙ (c.fetch_add-ticket.ensures.0 ∙ (seat.0 ∙ lock)), search rules, looks_as g.S.Journaled.journal _ _ _ i.1.0 _ c.self.invariant.1 i.1.2)

pub loop-preserved : goal.loop-preserved
loop-preserved g c =
    let i = c.loop.invariant in
    let look = c.load-serving.ensures in
    let late = stays g.S.Journaled.journal _ _ _ i.1.0 _ i.1.2 (λ e. c.if-serving-ticket.false (e ∙ sym i.1.1)) look.2 in
    (look.0 ∙ i.0, (i.1.0, i.1.1, late))

pub exchange-requires : goal.exchange-requires
exchange-requires g c =
    let seat = c.into_seat-seat.ensures in
    let lock = ap (λ v. v.lock) c.pass.view_is ∙ (c.requires ∙ sym c.self.view_is) in
    let i = c.loop.invariant in
    let mine = ap (λ m. m.0.claim) c.fetch_add-ticket.ensures.2.2 ∙ ap (λ m. m.0.claim) (seat_of _ _ _ c.pass.invariant (ap (λ v. v.claim) c.pass.view_is) seat.2 seat.3) in
    let got = took g.S.Journaled.journal _ _ _ i.1.0 _ _ i.1.2 (c.if-serving-ticket.true ∙ i.1.1) mine c.load-serving.ensures.2 in
    (c.load-serving.ensures.0 ∙ (i.0 ∙ (c.fetch_add-ticket.ensures.0 ∙ (seat.0 ∙ lock))), (Some got.0, last_out _ _ (ap (λ m. m.1) got.1)))

pub unwrap-state-requires : goal.unwrap-state-requires
unwrap-state-requires g c =
    let seat = c.into_seat-seat.ensures in
    let i = c.loop.invariant in
    let mine = ap (λ m. m.0.claim) c.fetch_add-ticket.ensures.2.2 ∙ ap (λ m. m.0.claim) (seat_of _ _ _ c.pass.invariant (ap (λ v. v.claim) c.pass.view_is) seat.2 seat.3) in
    let got = took g.S.Journaled.journal _ _ _ i.1.0 _ _ i.1.2 (c.if-serving-ticket.true ∙ i.1.1) mine c.load-serving.ensures.2 in
    is_some_by _ got.0 (out_is _ _ _ (ap (λ m. m.1) got.1) c.exchange.ensures.2)

pub invariant_of-result : goal.invariant_of-result
invariant_of-result g c =
    let seat = c.into_seat-seat.ensures in
    let i = c.loop.invariant in
    let mine = ap (λ m. m.0.claim) c.fetch_add-ticket.ensures.2.2 ∙ ap (λ m. m.0.claim) (seat_of _ _ _ c.pass.invariant (ap (λ v. v.claim) c.pass.view_is) seat.2 seat.3) in
    let got = took g.S.Journaled.journal _ _ _ i.1.0 _ _ i.1.2 (c.if-serving-ticket.true ∙ i.1.1) mine c.load-serving.ensures.2 in
    (saw c.args.pass.claim (g.S.Journaled.journal got.0), i.1.0, exchanged_me _ _ _ _ _ got.1 c.exchange.ensures.3, i.1.1)

pub returns-then-serving-ticket : goal.returns-then-serving-ticket
returns-then-serving-ticket g c =
    let seat = c.into_seat-seat.ensures in
    let lock = ap (λ v. v.lock) c.pass.view_is in
    let i = c.loop.invariant in
    let mine = ap (λ m. m.0.claim) c.fetch_add-ticket.ensures.2.2 ∙ ap (λ m. m.0.claim) (seat_of _ _ _ c.pass.invariant (ap (λ v. v.claim) c.pass.view_is) seat.2 seat.3) in
    let got = took g.S.Journaled.journal _ _ _ i.1.0 _ _ i.1.2 (c.if-serving-ticket.true ∙ i.1.1) mine c.load-serving.ensures.2 in
    let same = some_same _ _ (sym (out_is _ _ _ (ap (λ m. m.1) got.1) c.exchange.ensures.2) ∙ c.unwrap-state.ensures) in
    record {
      lock = c.exchange.ensures.0 ∙ (c.load-serving.ensures.0 ∙ (i.0 ∙ (c.fetch_add-ticket.ensures.0 ∙ (seat.0 ∙ lock))));
      journal = subst (λ x. Follows c.args.pass.claim (g.S.Journaled.journal x)) same got.2;
      claim = ap (λ m. m.0.claim) (exchanged_me _ _ _ _ _ got.1 c.exchange.ensures.3) ∙ ap (λ x. saw c.args.pass.claim (g.S.Journaled.journal x)) same;
    }
