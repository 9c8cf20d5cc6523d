-- The texts of a pipeline by what they see and name.
use Rattle.std.specs.Prelude.{ℕ, true, false, List, [], ◌∷◌}
use Rattle.tk_types.specs.declared.object.PipelineSpec.{PipelineSpec}
use Rattle.tk_types.specs.First.{first_of}
use Rattle.tk_validate.specs.declared.seen.Seen.{Seen}
use Rattle.tk_validate.specs.Parts.{RuleOn, on_each_task}
use Rattle.tk_validate.specs.Scoped.{scope_with}
use Rattle.tk_validate.specs.Sited.{in_results}
use Rattle.tk_validate.specs.Texts.{task_texts, text_finding}

-- those of its tasks, and those of its results
abbrev pub tasks_by : List Seen → List (List ℕ) → List (List ℕ) → List (List ℕ) → RuleOn PipelineSpec
tasks_by outer words firsts tasks at pipeline = on_each_task (task_texts firsts outer (scope_with outer words [] tasks true false)) at pipeline

abbrev pub results_by : List Seen → List (List ℕ) → List (List ℕ) → List (List ℕ) → RuleOn PipelineSpec
results_by outer words firsts tasks at pipeline = in_results (text_finding firsts (scope_with outer words [] tasks true true)) at pipeline.results

abbrev pub texts_by : List Seen → List (List ℕ) → List (List ℕ) → List (List ℕ) → RuleOn PipelineSpec
texts_by outer words firsts tasks at pipeline = first_of (tasks_by outer words firsts tasks at pipeline ∷ results_by outer words firsts tasks at pipeline ∷ [])
