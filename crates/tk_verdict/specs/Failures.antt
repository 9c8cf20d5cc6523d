-- The condition of a finished run by what it depends on.
use Rattle.std.specs.Prelude.{Bool, false, ◌&&◌, not, List, [], ◌∷◌, codes, slice_get, unwrap_or}
use Rattle.std.specs.Option.{option_map_or}
use Rattle.tk_types.specs.declared.task.PipelineTask.{PipelineTask}
use Rattle.tk_types.specs.declared.run.Child.{Child}
use Rattle.tk_types.specs.declared.verdict.Condition.{Condition}
use Rattle.tk_types.specs.Lists.{first_row}
use Rattle.tk_verdict.specs.declared.finished.Signs.{Signs}
use Rattle.tk_verdict.specs.Condition.{false_with, true_with}
use Rattle.tk_verdict.specs.Facts.{has_ended, is_failure}

-- the child failed, and its task is among these and doesn't ignore that
abbrev pub has_failure_among : List PipelineTask → Child → Bool
has_failure_among tasks child = option_map_or (λ (task : PipelineTask). has_ended is_failure child && not task.ignore_failure) (slice_get tasks child.task) false

-- the first sign that holds, or else `Succeeded`
abbrev pub condition_by : Signs → Condition
condition_by signs =
    unwrap_or
    (first_row
    ((signs.pipeline_timeout, false_with (codes "PipelineRunTimeout"))
    ∷ (signs.cancelled, false_with (codes "Cancelled"))
    ∷ (signs.failed, false_with (codes "Failed"))
    ∷ (signs.broken, false_with (codes "InvalidTaskResultReference"))
    ∷ (signs.stopped, false_with (codes "Cancelled"))
    ∷ (signs.skipped, true_with (codes "Completed"))
    ∷ []))
    (true_with (codes "Succeeded"))
