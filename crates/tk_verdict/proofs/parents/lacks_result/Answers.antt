use Rattle.std.proofs.Common.{ℕ, Bool, false, ◌&&◌, List, bytes_eq, ap, sym, ◌∙◌}
use Rattle.std.specs.Prelude.{slice_get}
use Rattle.std.specs.List.{list_any}
use Rattle.std.specs.Option.{option_map_or}
use Rattle.tk_types.specs.declared.task.PipelineTask.{PipelineTask}
use Rattle.tk_types.specs.declared.verdict.Verdict.{Verdict}
use Rattle.tk_graph.specs.Results.{task_texts}
use Rattle.tk_verdict.specs.Facts.{all_tasks}
use Rattle.tk_verdict.specs.Rows.{refers_to}
use Rattle.tk_verdict.specs.Verdict.{is_skipped, label_at}
use Rattle.tk_verdict.proofs.Named.{named, list_any-map}
use Rattle.tk_verdict.proofs.parents.lacks_result.Goals as goal

pub returns : goal.returns
returns c =
    let facts = c.args.facts.now in
    let labels = c.args.labels.now in
    let task = c.args.task.now in
    let refers = λ (test : PipelineTask → Bool) (p : ℕ). is_skipped (label_at labels p) && option_map_or test (slice_get (all_tasks facts) p) false in
    let by_names = λ (names : List (List ℕ)). list_any (refers (λ parent. list_any (λ name. bytes_eq name parent.name) names)) c.args.parents.now in
    c.any_skipped.ensures
    ∙ (ap by_names (c.in_ok-names-2.ensures ∙ (c.as_slice.ensures ∙ c.in_ok-names.ensures))
    ∙ ((λ i. list_any (refers (λ parent. named (task_texts task) parent.name i)) c.args.parents.now)
    ∙ sym (list_any-map (λ (p : ℕ × Verdict). is_skipped p.1 && refers_to facts task p.0) (λ (p : ℕ). (p, label_at labels p)) c.args.parents.now)))
