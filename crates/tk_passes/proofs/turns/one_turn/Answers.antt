use Rattle.std.proofs.Common.{List, ◌++◌, ap, sym, ◌∙◌, subst}
use Rattle.tk_turn.specs.Claims.{Note, Claim, Follows}
use Rattle.tk_passes.proofs.Standing.{asked_behind, own_new, stands_turn}
use Rattle.tk_passes.proofs.turns.one_turn.Goals as goal

pub on_state-went-requires : goal.on_state-went-requires
on_state-went-requires g c =
    let a = g.A.Actor in
    let j = g.S.Journaled.journal in
    let pass = c.args.pass.claim in
    let is = c.requires.pass in
    λ sound.
    asked_behind a.number a.such a.ready a.follows a.sound a.asked a.follows_asked c.laws.ensures.keep_asked c.laws.ensures.follow_asked c.ask.new.self pass (j c.state.result.now) is.alone (is.owner ∙ sym c.ask.ensures.number)
    (subst (λ s. Follows pass (j s)) (sym c.state.ensures.value) c.take-held.ensures.journal) sound (c.ask.ensures.ready pass.seen c.requires.ready)

pub give-requires-clause-journal : goal.give-requires-clause-journal
give-requires-clause-journal g c =
    let held = c.take-held.ensures in
    let claim = c.take-held.result.claim in
    let adds = c.on_state-went.ensures.adds in
    let seen = ap (λ (d : Claim). d.seen) held.claim in
    let is = c.requires.pass in (
      adds.new,
      adds.grown ∙ ap (λ (l : List Note). l ++ adds.new) (ap g.S.Journaled.journal c.state.ensures.value ∙ sym seen),
      own_new claim _ (ap (λ (d : Claim). d.first) held.claim ∙ is.alone) (ap (λ (d : Claim). d.owner) held.claim ∙ (is.owner ∙ sym c.ask.ensures.number)) adds.new adds.own,
    )

pub returns-clause-stands : goal.returns-clause-stands
returns-clause-stands g c =
    let a = g.A.Actor in
    let j = g.S.Journaled.journal in
    let pass = c.args.pass.claim in
    let is = c.requires.pass in
    let on = c.on_state-went.ensures in
    let ask = c.ask.ensures in
    stands_turn a.number a.such a.ready a.follows a.sound a.asked a.follows_asked c.laws.ensures.keep_asked c.laws.ensures.follow_asked c.args.actor.now c.ask.new.self c.on_state-went.new.actor pass (j c.state.result.now) (j c.on_state-went.new.state)
    c.give.result.claim.seen is.alone is.owner ask.number ask.ready ask.follows (subst (λ s. Follows pass (j s)) (sym c.state.ensures.value) c.take-held.ensures.journal) on.was_sound c.requires.ready on.ready on.number on.adds on.follows
    (ap (λ (d : Claim). d.seen) c.give.ensures.claim)
