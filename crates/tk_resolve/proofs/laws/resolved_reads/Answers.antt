use Rattle.tk_resolve.proofs.ResolvedRuns.{run_reads, task_run_reads}
use Rattle.tk_resolve.proofs.laws.resolved_reads.Goals as goal

pub returns-clause-run : goal.returns-clause-run
returns-clause-run c = λ earlier run own all. run_reads earlier run own all

pub returns-clause-task_run : goal.returns-clause-task_run
returns-clause-task_run c = λ earlier run own all. task_run_reads earlier run own all
