use Rattle.std.proofs.Common.{[], ◌∷◌, List, ℕ, refl, subst}
use Rattle.std.specs.Prelude.{IfOk, OnOk}
use Rattle.std.proofs.lemmas.Result.{IfOk-weaker}
use Rattle.tk_types.specs.declared.scenario.Event.TheVariants as events
use Rattle.tk_user.specs.Ask.{Answered, ask_entry, refusal}
use Rattle.tk_world.specs.Goes.{Goes}
use Rattle.tk_world.specs.Stepped.{AskAnswers}
use Rattle.tk_world.specs.Whole.{Whole, whole_of}
use Rattle.tk_world.proofs.Asked.{asked_turn}
use Rattle.tk_world.proofs.Inside.{if_ok, stands_inside}
use Rattle.tk_world.proofs.Worked.{ask_goes}
use Rattle.tk_world.proofs.world.World.ask.Goals as goal

pub returns-clause-ok : goal.returns-clause-ok
returns-clause-ok c =
    subst (λ (w : Whole). OnOk c.ask.result (Goes (events.Ask c.args.name.now c.args.status ∷ []) w
    (whole_of c.ask.new.store c.self.inside.clock c.self.inside.controllers.items c.self.inside.nodes.items c.self.inside.scripts c.self.inside.watch))) c.self.view_is
    (if_ok c.ask.result c.ask.ensures.ok (λ answer answered.
    ask_goes c.self.inside.store c.ask.new.store c.self.inside.clock c.self.inside.controllers.items c.self.inside.nodes.items c.self.inside.scripts c.self.inside.watch (stands_inside (whole_of c.self.inside.store c.self.inside.clock c.self.inside.controllers.items c.self.inside.nodes.items c.self.inside.scripts c.self.inside.watch) c.args.self.now c.self.view_is c.requires.world)
    c.args.name.now c.args.status (asked_turn c.args.name.now c.args.status c.self.inside.clock answer c.self.inside.store c.ask.new.store
    (subst (λ (name : List ℕ). Answered (refusal c.self.inside.store.history name c.args.status) (ask_entry c.self.inside.store.history name c.args.status c.self.inside.clock) c.self.inside.store answer c.ask.new.store) c.as_str.ensures answered))))

pub returns-clause-answer : goal.returns-clause-answer
returns-clause-answer c =
    let before = (whole_of c.self.inside.store c.self.inside.clock c.self.inside.controllers.items c.self.inside.nodes.items c.self.inside.scripts c.self.inside.watch) in
    let after = (whole_of c.ask.new.store c.self.inside.clock c.self.inside.controllers.items c.self.inside.nodes.items c.self.inside.scripts c.self.inside.watch) in
    subst (λ (w : Whole). IfOk c.ask.result (AskAnswers c.args.name.now c.args.status w after)) c.self.view_is
    (IfOk-weaker c.ask.result
    (λ answer. Answered (refusal c.self.inside.store.history c.as_str.result.now c.args.status) (ask_entry c.self.inside.store.history c.as_str.result.now c.args.status c.self.inside.clock) c.self.inside.store answer c.ask.new.store)
    (AskAnswers c.args.name.now c.args.status before after)
    (λ answer answered. record {
      answered = subst (λ (name : List ℕ). Answered (refusal c.self.inside.store.history name c.args.status) (ask_entry c.self.inside.store.history name c.args.status c.self.inside.clock) c.self.inside.store answer c.ask.new.store) c.as_str.ensures answered;
      nodes = refl;
    }) c.ask.ensures.ok)
