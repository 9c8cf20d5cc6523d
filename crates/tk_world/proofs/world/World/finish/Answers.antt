use Rattle.std.proofs.Common.{◌∙◌, arith, replicate, subst, sym}
use Rattle.std.proofs.lemmas.Bool.{true≢false}
use Rattle.tk_types.specs.declared.scenario.Event.TheVariants as events
use Rattle.tk_journal.specs.Progress.{IsOpen}
use Rattle.tk_store.specs.Writes.{Stored}
use Rattle.tk_machine.specs.Fair.{OpenRounds}
use Rattle.tk_machine.specs.State.{World}
use Rattle.tk_machine.proofs.Rounds.{rounds_close}
use Rattle.tk_play.specs.Scripts.{script_of}
use Rattle.tk_world.specs.Whole.{machine_of, scripts_of}
use Rattle.tk_world.proofs.Steps.{finishes_next, looked_behind, same_machine, stays_on}
use Rattle.tk_world.proofs.world.World.finish.Goals as goal

pub loop-round-preserved : goal.loop-round-preserved
loop-round-preserved c =
    let next = finishes_next c.loop-round.round c.args.self.now c.loop-round.self c.is_open.new.self c.fair_round.new.self c.loop-round.invariant.rounds c.loop-round.invariant.each c.loop-round.invariant.stays
    (c.in_ok-is_open.ensures.open.0 c.if-not-branch.false) c.is_open.ensures.same c.in_ok-is_open.ensures.stays c.in_ok-fair_round.ensures in
    record { rounds = next.0; each = next.1; stays = next.2 }

pub returns : goal.returns
returns c = record {
  rounds = c.loop-round.round;
  few = c.loop-round.auto.round-end;
  opened = c.loop-round.invariant.rounds;
  closed = rounds_close (script_of (scripts_of c.args.self.now)) (machine_of c.args.self.now) (machine_of c.loop-round.self) c.loop-round.round c.requires.world.sound c.requires.peopled
      (omega (arith, c.requires.weight, c.loop-round-test.false)) c.loop-round.invariant.rounds;
  each = c.loop-round.invariant.each;
  stays = c.loop-round.invariant.stays;
}

pub returns-then-not-branch : goal.returns-then-not-branch
returns-then-not-branch c =
    let first = c.args.self.now in
    let last = c.loop-round.self in
    let looked = c.is_open.new.self in
    let same = c.is_open.ensures.same in
    let test = c.loop-round-test.true in
    record {
      rounds = c.loop-round.round;
      few = omega (arith, test);
      opened = subst (λ (w : World). OpenRounds (script_of (scripts_of first)) (machine_of first) c.loop-round.round w) (sym (same_machine last looked same)) c.loop-round.invariant.rounds;
      each = looked_behind (replicate c.loop-round.round events.Round) first last looked c.loop-round.invariant.each same;
      closed = λ still. true≢false (sym (c.in_ok-is_open.ensures.open.1 (subst (λ (s : Stored). IsOpen s.history) same.store still)) ∙ c.if-not-branch.true);
      stays = stays_on first last looked c.loop-round.invariant.stays c.in_ok-is_open.ensures.stays;
    }
