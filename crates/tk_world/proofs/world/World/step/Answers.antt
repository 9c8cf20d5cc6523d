use Rattle.std.proofs.Common.{◌≡◌, [], ◌∷◌, subst, sym}
use Rattle.tk_types.specs.declared.scenario.Event.{Event}
use Rattle.tk_types.specs.declared.scenario.Event.TheVariants as events
use Rattle.tk_machine.specs.Machine.{opened}
use Rattle.tk_play.specs.Scripts.{script_of}
use Rattle.tk_world.specs.declared.stepped.Stepped.TheVariants as stepped
use Rattle.tk_world.specs.Goes.{Took}
use Rattle.tk_world.specs.Whole.{machine_of, scripts_of}
use Rattle.tk_world.proofs.Steps.{took_one}
use Rattle.tk_world.proofs.world.World.step.Goals as goal

pub returns-in_ok-ask-in-Ask-clause-ok : goal.returns-in_ok-ask-in-Ask-clause-ok
returns-in_ok-ask-in-Ask-clause-ok c =
    subst (λ (e : Event). Took (opened (script_of (scripts_of c.args.self.now)) (machine_of c.args.self.now) e) c.args.self.now c.ask.new.self) (sym c.in-Ask.is)
    (took_one (events.Ask c.in-Ask.name c.in-Ask.status) c.args.self.now c.ask.new.self (stepped.Asked c.in_ok-ask-in-Ask.field-0) c.in_ok-ask-in-Ask.ensures.ok c.in_ok-ask-in-Ask.ensures.answer)
