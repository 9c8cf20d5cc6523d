use Rattle.std.proofs.Common.{replicate}
use Rattle.tk_types.specs.declared.scenario.Event.TheVariants as events
use Rattle.tk_machine.specs.Fair.{OpenRounds}
use Rattle.tk_play.specs.Scripts.{script_of}
use Rattle.tk_world.specs.Goes.{Stays, TakesAll}
use Rattle.tk_world.specs.Whole.{machine_of, scripts_of}
use Rattle.tk_world.proofs.world.World.finish.Given as goal

-- each round so far began while something was open
abbrev pub invariant-loop-round : goal.invariant-loop-round
invariant-loop-round l = record {
  rounds : OpenRounds (script_of (scripts_of l.initial.self)) (machine_of l.initial.self) l.round (machine_of l.self);
  each : TakesAll (replicate l.round events.Round) l.initial.self l.self;
  stays : Stays l.initial.self l.self;
}
