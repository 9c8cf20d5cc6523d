use Rattle.tk_types.specs.Behaviour.{tasks_of}
use Rattle.tk_admit.proofs.RunSizes.{none_oversize}
use Rattle.tk_admit.proofs.intake.Intake.measure_run.Goals as goal

pub returns-in-Some-clause-none : goal.returns-in-Some-clause-none
returns-in-Some-clause-none c = none_oversize c.args.place.now c.args.spec.now (tasks_of c.args.spec.now) (c.known_size.ensures c.in-Some.size c.in-Some.is).single
