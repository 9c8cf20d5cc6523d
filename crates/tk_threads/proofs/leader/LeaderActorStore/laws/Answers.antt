use Rattle.std.proofs.Common.{◌≡◌, ℕ, false, eqb, subst, sym, ◌∙◌, ap}
use Rattle.tk_journal.specs.declared.entry.Entry.{Entry}
use Rattle.tk_store.specs.Notes.{controller_owner, owner_of}
use Rattle.tk_rounds.specs.declared.bench.Controller.{Controller}
use Rattle.tk_rounds.specs.Bench.{ControllerFollows, IsReadyController}
use Rattle.tk_rounds.specs.Members.{of_controller}
use Rattle.tk_threads.specs.Timely.{Over}
use Rattle.tk_threads.proofs.Noting.{over_more, over_with}
use Rattle.tk_threads.proofs.Owners.{not_of_controller}
use Rattle.tk_threads.proofs.leader.LeaderActorStore.laws.Goals as goal

others : (owner n : ℕ) → owner ≡ controller_owner n → (e : Entry) → eqb (owner_of e.actor) owner ≡ false → of_controller n e ≡ false
others owner n is e other = not_of_controller n e.actor (sym (ap (eqb (owner_of e.actor)) is) ∙ other)

pub returns-clause-keep : goal.returns-clause-keep
returns-clause-keep g c m journal rest sound none ready =
    let n = m.controller.number in
    (ready.0, over_more (of_controller n) m.owner (others m.owner n ready.0) (λ history. IsReadyController history m.controller) (c.laws.ensures.keep m.controller) journal rest sound none ready.1)

pub returns-clause-follow : goal.returns-clause-follow
returns-clause-follow g c start m journal rest sound none ready is =
    let n = m.controller.number in
    over_with (of_controller n) m.owner (others m.owner n ready.0) (λ history. IsReadyController history m.controller) (ControllerFollows g.G.Gate.answers g.K.Clock.readings g.K.Clock.last start.controller m.controller)
    (c.laws.ensures.keep m.controller) (c.laws.ensures.follow start.controller m.controller) journal rest sound none ready.1 is

pub returns-clause-keep_asked : goal.returns-clause-keep_asked
returns-clause-keep_asked g c = returns-clause-keep g c

pub returns-clause-follow_asked : goal.returns-clause-follow_asked
returns-clause-follow_asked g c start m journal rest sound none ready is =
    let b = is.before in
    let same : m.controller.number ≡ b.number = ap (λ (x : Controller _ _). x.number) is.rest in
    let shown = subst (λ (x : Controller _ _). Over (λ history. IsReadyController history x) journal) is.rest ready.1 in
    record {
      before = b;
      rest = is.rest;
      gave = is.gave;
      stood = over_with (of_controller b.number) m.owner (others m.owner b.number (ready.0 ∙ ap controller_owner same)) (λ history. IsReadyController history b) (ControllerFollows g.G.Gate.answers g.K.Clock.readings g.K.Clock.last start.controller b)
          (c.laws.ensures.keep b) (c.laws.ensures.follow start.controller b) journal rest sound none shown is.stood;
    }
