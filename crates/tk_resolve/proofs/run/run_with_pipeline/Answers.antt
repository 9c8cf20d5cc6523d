use Rattle.std.proofs.Common.{sym, ◌∙◌}
use Rattle.tk_resolve.proofs.BodiesRead.{bodies_read}
use Rattle.tk_resolve.proofs.run.run_with_pipeline.Goals as goal

pub run_with_bodies-requires-clause-bodies : goal.run_with_bodies-requires-clause-bodies
run_with_bodies-requires-clause-bodies c =
    bodies_read c.args.earlier.now c.args.run.now c.args.pipeline.now c.in-Some.bodies c.requires.earlier c.requires.pipeline (sym c.in_ok-bodies.ensures ∙ c.in-Some.is)
