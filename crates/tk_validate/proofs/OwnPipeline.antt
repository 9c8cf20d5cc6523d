-- What the rules say of an object's own pipeline.
use Rattle.std.proofs.Common.{◌≡◌, Some, None, subst}
use Rattle.std.proofs.lemmas.Option.{none-some, same_Some}
use Rattle.tk_types.specs.declared.object.ItemObject.{ItemObject}
use Rattle.tk_types.specs.declared.object.ItemObject.TheVariants.{Task, Pipeline, TaskRun, PipelineRun, Outcomes, Scenario}
use Rattle.tk_types.specs.declared.object.PipelineSource.{PipelineSource}
use Rattle.tk_types.specs.declared.object.PipelineSource.TheVariants.{Named, Inlined}
use Rattle.tk_types.specs.declared.object.PipelineSpec.{PipelineSpec}
use Rattle.tk_types.specs.Place.{Place, ◌▸◌}
use Rattle.std.specs.Prelude.{codes}
use Rattle.tk_validate.specs.Parts.{RuleOn, inlined_pipeline, on_pipeline, on_pipeline_source, own_pipeline}

-- a rule passes only pipelines that have the property
abbrev pub Passes : RuleOn PipelineSpec → (PipelineSpec → Type 0) → Type 0
Passes rule P = (at : Place) (pipeline : PipelineSpec) → rule at pipeline ≡ None → P pipeline

module _ (rule : RuleOn PipelineSpec) (P : PipelineSpec → Type 0) (holds : Passes rule P) where
  inlined_none : (at : Place) (source : PipelineSource) (pipeline : PipelineSpec) → inlined_pipeline source ≡ Some pipeline → on_pipeline_source rule at source ≡ None → P pipeline
  inlined_none at (Inlined spec) pipeline is e = subst P (same_Some spec pipeline is) (holds (at ▸ codes "pipelineSpec") spec e)
  inlined_none at (Named name) pipeline is e = absurd (none-some pipeline is)

  pub own_none : (at : Place) (object : ItemObject) (pipeline : PipelineSpec) → own_pipeline object ≡ Some pipeline → on_pipeline rule at object ≡ None → P pipeline
  own_none at (Pipeline name spec) pipeline is e = subst P (same_Some spec pipeline is) (holds at spec e)
  own_none at (PipelineRun run) pipeline is e = inlined_none at run.source pipeline is e
  own_none at (Task name spec) pipeline is e = absurd (none-some pipeline is)
  own_none at (TaskRun run) pipeline is e = absurd (none-some pipeline is)
  own_none at (Outcomes name spec) pipeline is e = absurd (none-some pipeline is)
  own_none at (Scenario name spec) pipeline is e = absurd (none-some pipeline is)
