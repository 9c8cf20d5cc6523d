use Rattle.std.proofs.Common.{List, subst, sym}
use Rattle.tk_types.specs.declared.scenario.Event.{Event}
use Rattle.tk_world.specs.Goes.{MayTakeAll, Runs}
use Rattle.tk_simulate.proofs.Begun.{weighs_on}
use Rattle.tk_simulate.proofs.playing.play.Goals as goal

pub run-requires-clause-may : goal.run-requires-clause-may
run-requires-clause-may c = subst (MayTakeAll c.args.started.world) (sym c.as_slice.ensures) c.requires.may

pub finish-requires-clause-weight : goal.finish-requires-clause-weight
finish-requires-clause-weight c =
    weighs_on c.args.started c.run.new.self c.requires (subst (λ (given : List Event). Runs given c.args.started.world c.run.new.self) c.as_slice.ensures c.in_ok-run.ensures)

pub returns : goal.returns
returns c = record {
  between = c.run.new.self;
  after = c.finish.new.self;
  events = subst (λ (given : List Event). Runs given c.args.started.world c.run.new.self) c.as_slice.ensures c.in_ok-run.ensures;
  rounds = c.in_ok-finish.ensures;
  end = sym c.into_journal.ensures;
}
