use Rattle.std.proofs.Common.{List, sym, subst}
use Rattle.std.specs.Prelude.{All}
use Rattle.tk_types.specs.declared.task.Step.{Step}
use Rattle.tk_bind.specs.Readings.{ReadsStep}
use Rattle.tk_taskrec.proofs.Readings.{steps_read}
use Rattle.tk_taskrec.proofs.planning.plan_bound.Goals as goal

pub fill_all-requires : goal.fill_all-requires
fill_all-requires c = record { reads = subst (λ (steps : List Step). All ReadsStep steps) (sym c.as_slice.ensures) (steps_read c.args.task_run.now.spec.body c.requires.fit.readable) }
