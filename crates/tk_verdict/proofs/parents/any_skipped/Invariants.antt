use Rattle.std.proofs.Common.{◌≡◌, ℕ, ◌&&◌, Bool, false, bytes_eq, drop}
use Rattle.std.specs.Prelude.{slice_get}
use Rattle.std.specs.List.{list_any}
use Rattle.std.specs.Option.{option_map_or}
use Rattle.tk_types.specs.declared.task.PipelineTask.{PipelineTask}
use Rattle.tk_verdict.specs.Facts.{all_tasks}
use Rattle.tk_verdict.specs.Verdict.{is_skipped, label_at}
use Rattle.tk_verdict.proofs.parents.any_skipped.Given as goal

-- the parents that are left decide
abbrev pub invariant-loop-place : goal.invariant-loop-place
invariant-loop-place l =
    let test : ℕ → Bool = λ p. is_skipped (label_at l.labels p) && option_map_or (λ (parent : PipelineTask). list_any (λ name. bytes_eq name parent.name) l.names) (slice_get (all_tasks l.facts) p) false in
    list_any test (drop l.place-index l.parents) ≡ list_any test l.parents
