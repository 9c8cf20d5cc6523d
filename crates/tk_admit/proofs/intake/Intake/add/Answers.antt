use Rattle.tk_admit.proofs.Measured.{added_size}
use Rattle.tk_admit.proofs.intake.Intake.add.Goals as goal

pub invariant_of-self : goal.invariant_of-self
invariant_of-self c = λ name x found.
    added_size c.self.inside.earlier c.add.new.self c.args.item.now name x c.add.result c.add.ensures.added c.add.ensures.kept (c.self.invariant name x found)
