-- Misuse of a result in several texts.
use Rattle.std.proofs.Common.{◌≡◌, ◌||◌, List, ◌∷◌, ◌++◌, ap, ◌∙◌}
use Rattle.std.specs.Prelude.{flat_map}
use Rattle.std.specs.List.{list_any}
use Rattle.std.proofs.lemmas.Grind.{flat_map-append}
use Rattle.std.proofs.lemmas.List.Folds.{list_any-append}
use Rattle.tk_types.specs.declared.task.PipelineTask.{PipelineTask}
use Rattle.tk_types.specs.declared.task.TaskBody.{TaskBody}
use Rattle.tk_vars.specs.Reading.{pieces_of}
use Rattle.tk_resolve.specs.Due.{DueText, task_dues}
use Rattle.tk_resolve.specs.Misuse.{any_misuse, misuses, passes}

-- in these texts and in those
misuse_append : (tasks : List (PipelineTask × TaskBody)) (xs ys : List DueText) → any_misuse tasks (xs ++ ys) ≡ (any_misuse tasks xs || any_misuse tasks ys)
misuse_append tasks xs ys = list_any-append (λ (t : DueText). list_any (passes (misuses tasks t.0)) (pieces_of t.1)) xs ys

-- in the texts of a task and of others
pub misuse_more : (tasks : List (PipelineTask × TaskBody)) (t : PipelineTask) (ts : List PipelineTask) → any_misuse tasks (flat_map task_dues (t ∷ ts)) ≡ (any_misuse tasks (task_dues t) || any_misuse tasks (flat_map task_dues ts))
misuse_more tasks t ts = misuse_append tasks (task_dues t) (flat_map task_dues ts)

-- in the texts of tasks, of others and in more texts
pub misuse_parts : (tasks : List (PipelineTask × TaskBody)) (xs ys : List PipelineTask) (texts : List DueText)
    → any_misuse tasks (flat_map task_dues (xs ++ ys) ++ texts) ≡ ((any_misuse tasks (flat_map task_dues xs) || any_misuse tasks (flat_map task_dues ys)) || any_misuse tasks texts)
misuse_parts tasks xs ys texts =
    misuse_append tasks (flat_map task_dues (xs ++ ys)) texts
    ∙ ap (λ b. b || any_misuse tasks texts) (ap (any_misuse tasks) (flat_map-append task_dues xs ys) ∙ misuse_append tasks (flat_map task_dues xs) (flat_map task_dues ys))
