use Rattle.tk_validate.proofs.FewTasks.{few_tasks}
use Rattle.tk_validate.proofs.rules.cycle.check_cycle.Goals as goal

pub cycle-requires : goal.cycle-requires
cycle-requires c = rw c.as_slice.ensures (few_tasks c.args.place.now c.args.spec.now c.requires)
