use Rattle.tk_resolve.proofs.FoundPipeline.{found_source}
use Rattle.tk_resolve.proofs.laws.found_pipeline.Goals as goal

pub returns : goal.returns
returns c = λ earlier run pipeline is. found_source earlier run.source pipeline is
