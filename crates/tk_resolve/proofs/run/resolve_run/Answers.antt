use Rattle.std.proofs.Common.{sym}
use Rattle.tk_resolve.proofs.BodiesRead.{pipeline_reads}
use Rattle.tk_resolve.proofs.run.resolve_run.Goals as goal

pub run_with_pipeline-requires-clause-pipeline : goal.run_with_pipeline-requires-clause-pipeline
run_with_pipeline-requires-clause-pipeline c = pipeline_reads c.args.earlier.now c.args.run.now.source c.in-Some.pipeline.now c.requires.earlier c.requires.own (sym c.in-Some.ensures)
