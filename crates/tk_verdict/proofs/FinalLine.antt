-- The line of a task of `finally`.
use Rattle.std.proofs.Common.{◌≡◌, ℕ, ◌+◌, Bool, true, false, cond, List, length, sym, ap, ◌∙◌}
use Rattle.std.specs.Prelude.{Option, Some, None, slice_get}
use Rattle.std.specs.List.{list_all}
use Rattle.std.specs.Option.{option_map_or}
use Rattle.tk_types.specs.declared.task.PipelineTask.{PipelineTask}
use Rattle.tk_types.specs.declared.task.TaskBody.{TaskBody}
use Rattle.tk_types.specs.declared.run.Facts.{Facts}
use Rattle.tk_types.specs.declared.run.Child.{Child}
use Rattle.tk_types.specs.declared.run.Stop.{Stop}
use Rattle.tk_types.specs.declared.verdict.SkipReason.TheVariants.{Missing}
use Rattle.tk_types.specs.declared.verdict.Verdict.{Verdict}
use Rattle.tk_types.specs.declared.verdict.Verdict.TheVariants.{Ready, Waits}
use Rattle.tk_bind.specs.declared.env.Env.{Env}
use Rattle.tk_verdict.specs.Bindings.{combinations_in}
use Rattle.tk_verdict.specs.Facts.{children_of, first_late_stop}
use Rattle.tk_verdict.specs.Gathered.{final_line, final_row}
use Rattle.tk_verdict.specs.Labels.{finally_line, label_by}
use Rattle.tk_verdict.specs.Rows.{finally_row, lacks_any_result}
use Rattle.tk_verdict.specs.Verdict.{is_done}
use Rattle.tk_verdict.specs.Words.{finally_env}
use Rattle.tk_verdict.proofs.TaskLine.{own_rows_by}

-- the same line, where it is told whether all of `tasks` are done
abbrev line_by : Facts → List Verdict → ℕ → PipelineTask → Bool → Verdict
line_by facts labels place task done =
    let env = finally_env facts labels task in
    let label = label_by (children_of facts place) (combinations_in env task) in
    cond done (label (finally_row facts env place task) (first_late_stop facts) Ready) (label None None Waits)

-- the line at the k-th place, by the task that was read there
pub final_at : (facts : Facts) (labels : List Verdict) (k : ℕ) (task : PipelineTask) → slice_get facts.spec.finally k ≡ Some task
    → finally_line facts labels (length facts.spec.tasks + k) task ≡ final_line facts labels k
final_at facts labels k task found = sym (ap (λ (o : Option PipelineTask). option_map_or (finally_line facts labels (length facts.spec.tasks + k)) o Waits) found)

pub due_line : (facts : Facts) (labels : List Verdict) (place : ℕ) (task : PipelineTask) (body : TaskBody) (env : Env) (children : List Child) (stop : Option Stop) (label : Verdict)
    → true ≡ list_all is_done labels → env ≡ finally_env facts labels task → children ≡ children_of facts place → stop ≡ first_late_stop facts → slice_get facts.spec.bodies place ≡ Some body
    → label ≡ label_by children (combinations_in env task) (final_row env task body) stop Ready
    → label ≡ finally_line facts labels place task
due_line facts labels place task body env children stop label done e cs s found is =
    is
    ∙ ((λ i. label_by (cs i) (combinations_in (e i) task) (final_row (e i) task body) (s i) Ready)
    ∙ ((λ i. label_by (children_of facts place) (combinations_in (finally_env facts labels task) task)
    (cond (lacks_any_result (finally_env facts labels task) task) (Some Missing) (sym (own_rows_by facts (finally_env facts labels task) place task body found) i)) (first_late_stop facts) Ready)
    ∙ ap (line_by facts labels place task) done))

pub early_line : (facts : Facts) (labels : List Verdict) (place : ℕ) (task : PipelineTask) (env : Env) (children : List Child) (label : Verdict)
    → false ≡ list_all is_done labels → env ≡ finally_env facts labels task → children ≡ children_of facts place
    → label ≡ label_by children (combinations_in env task) None None Waits
    → label ≡ finally_line facts labels place task
early_line facts labels place task env children label done e cs is =
    is ∙ ((λ i. label_by (cs i) (combinations_in (e i) task) None None Waits) ∙ ap (line_by facts labels place task) done)
