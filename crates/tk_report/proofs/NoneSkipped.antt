-- A run that skipped no task shows none.
use Rattle.std.proofs.Common.{◌≡◌, ℕ, List, [], ◌∷◌, refl, sym, subst}
use Rattle.tk_journal.specs.declared.act.Skip.{Skip}
use Rattle.std.specs.Prelude.{flat_map}
use Rattle.tk_types.specs.declared.run.Facts.{Facts}
use Rattle.tk_types.specs.declared.task.PipelineTask.{PipelineTask}
use Rattle.tk_report.specs.Json.{skipped_data_at}

pub none_skipped : (facts : Facts) (tasks : List (ℕ × PipelineTask)) → flat_map (skipped_data_at facts []) tasks ≡ []
none_skipped facts [] = refl
none_skipped facts ((place, task) ∷ tasks) = none_skipped facts tasks

pub skipped_empty : (facts : Facts) (tasks : List (ℕ × PipelineTask)) (skips : List Skip) → skips ≡ [] → flat_map (skipped_data_at facts skips) tasks ≡ []
skipped_empty facts tasks skips empty = subst (λ (ss : List Skip). flat_map (skipped_data_at facts ss) tasks ≡ []) (sym empty) (none_skipped facts tasks)
