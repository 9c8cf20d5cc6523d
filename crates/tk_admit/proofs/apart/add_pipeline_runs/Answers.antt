use Rattle.std.proofs.Common.{arith}
use Rattle.std.proofs.lemmas.Grind.{common_steps}
use Rattle.tk_admit.proofs.apart.add_pipeline_runs.Goals as goal

pub loop-run-preserved : goal.loop-run-preserved
loop-run-preserved c = record {
  names = grind (arith, common_steps);
  differ = λ d. c.in_ok-add_pipeline_run.ensures.differ c.if-not-branch.false (c.loop-run.invariant.differ d);
}
