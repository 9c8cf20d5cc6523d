use Rattle.std.proofs.Common.{subst, sym}
use Rattle.tk_simulate.specs.Played.{given_by}
use Rattle.tk_simulate.proofs.Begun.{may_play}
use Rattle.tk_world.specs.Goes.{MayTakeAll}
use Rattle.tk_program_tests.proofs.answers.answers.Goals as goal

pub taken-requires-clause-may : goal.taken-requires-clause-may
taken-requires-clause-may c =
    subst (MayTakeAll c.in-Ok.started.world) (sym c.as_slice-in-Ok.ensures)
    (may_play (given_by c.as_slice.result.now) c.in-Ok.ensures.1 c.in-Ok.started c.in-Ok.ensures.2).may
