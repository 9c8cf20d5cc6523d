-- The timeouts of a run's parts fit into the whole (Tekton, PipelineRuns, Configuring a failure timeout).
use Rattle.std.specs.Prelude.{ℕ, ◌+◌, Bool, not, ◌&&◌, ◌==◌, nat_lt, None, codes, unwrap_or}
use Rattle.tk_types.specs.declared.object.Given3.{Given3}
use Rattle.tk_types.specs.declared.object.ItemObject.{ItemObject}
use Rattle.tk_types.specs.declared.object.ItemObject.TheVariants.{PipelineRun}
use Rattle.tk_types.specs.Fault.{timeouts_overrun}
use Rattle.tk_types.specs.Place.{◌▸◌}
use Rattle.tk_types.specs.First.{refused_if}
use Rattle.tk_validate.specs.Parts.{RuleOn}

-- the timeout of a run that writes none, in milliseconds
abbrev pub one_hour : ℕ
one_hour = 3600000

abbrev pub pipeline_timeout : Given3 → ℕ
pipeline_timeout given = unwrap_or given.pipeline one_hour

-- the parts together exceed the whole; 0 is no timeout, and a part that isn't written counts as 0
abbrev pub overruns : Given3 → Bool
overruns given = not (pipeline_timeout given == 0) && nat_lt (pipeline_timeout given) (unwrap_or given.tasks 0 + unwrap_or given.finally 0)

abbrev pub parts_fit : RuleOn Given3
parts_fit at given = refused_if (overruns given) (timeouts_overrun (at ▸ codes "timeouts"))

abbrev pub timeouts : RuleOn ItemObject
timeouts at (PipelineRun run) = parts_fit at run.timeouts
timeouts at _ = None
