-- The line of a task of `tasks`, by whether it is blocked and whether its parents are good.
use Rattle.std.proofs.Common.{◌≡◌, ℕ, ◌-◌, Bool, true, false, ◌||◌, not, cond, List, [], ◌∷◌, length, take, refl, sym, ap, ◌∙◌}
use Rattle.std.specs.Prelude.{Option, Some, None, if◌then◌else◌, is_none, slice_get}
use Rattle.std.specs.List.{list_any, list_all}
use Rattle.std.specs.Option.{option_map_or}
use Rattle.std.proofs.lemmas.List.Folds.{list_all-map}
use Rattle.tk_types.specs.declared.value.Param.{Param}
use Rattle.tk_types.specs.declared.task.PipelineTask.{PipelineTask}
use Rattle.tk_types.specs.declared.task.TaskBody.{TaskBody}
use Rattle.tk_types.specs.declared.run.Facts.{Facts}
use Rattle.tk_types.specs.declared.run.Child.{Child}
use Rattle.tk_types.specs.declared.run.Stop.{Stop}
use Rattle.tk_types.specs.declared.verdict.SkipReason.TheVariants.{Parent, Missing, Broken, When, EmptyMatrix}
use Rattle.tk_types.specs.declared.verdict.Verdict.{Verdict}
use Rattle.tk_types.specs.declared.verdict.Verdict.TheVariants.{Ready, Waits}
use Rattle.tk_types.specs.Lists.{first_row}
use Rattle.tk_bind.specs.declared.env.Env.{Env}
use Rattle.tk_bind.specs.Fits.{fits}
use Rattle.tk_graph.specs.Parents.{parents}
use Rattle.tk_verdict.specs.Bindings.{combinations_in, guards_in, has_no_combination, is_refused}
use Rattle.tk_verdict.specs.Facts.{children_of, first_stop}
use Rattle.tk_verdict.specs.Gathered.{good_row, labelled}
use Rattle.tk_verdict.specs.Labels.{finally_line, label_by, task_line, verdict_line}
use Rattle.tk_verdict.specs.Own.{own_in, row_by}
use Rattle.tk_verdict.specs.Rows.{is_good_parent, lacks_result, own_rows}
use Rattle.tk_verdict.specs.Verdict.{blocks, label_at}
use Rattle.tk_verdict.specs.Words.{task_env}
use Rattle.tk_verdict.proofs.Named.{list_any-map}

-- the first row of a task's own texts, by the body that was read
pub own_rows_by : (facts : Facts) (env : Env) (place : ℕ) (task : PipelineTask) (body : TaskBody) → slice_get facts.spec.bodies place ≡ Some body
    → first_row (own_rows facts env place task) ≡ row_by body (own_in env task)
own_rows_by facts env place task body found =
    ap (λ (o : Option TaskBody).
    first_row
    ((is_none (guards_in env task) || not (option_map_or (list_all (λ params. option_map_or (λ b. fits b params) o false)) (combinations_in env task) false), Broken)
    ∷ (is_refused env task, When)
    ∷ (has_no_combination env task, EmptyMatrix)
    ∷ [])) found

-- the line at a place of `tasks`, by the parents that were read there
pub line_at : (facts : Facts) (labels : List Verdict) (place : ℕ) (task : PipelineTask) (above : List ℕ) → slice_get facts.spec.tasks place ≡ Some task → above ≡ parents facts.spec.tasks place
    → task_line facts (labelled labels above) place task ≡ verdict_line facts labels place
line_at facts labels place task above found is =
    ap (λ (ps : List ℕ). task_line facts (labelled labels ps) place task) is
    ∙ sym (ap (λ (o : Option PipelineTask). option_map_or (task_line facts (labelled labels (parents facts.spec.tasks place)) place) o
    (option_map_or (finally_line facts (take (length facts.spec.tasks) labels) place) (slice_get facts.spec.finally (place - length facts.spec.tasks)) Waits)) found)

-- the same line, where it is told whether the task is blocked and its parents are good
abbrev line_by : Facts → List (ℕ × Verdict) → ℕ → PipelineTask → Bool → Bool → Verdict
line_by facts parents place task blocked good =
    let env = task_env facts task in
    let own = (lacks_result facts parents task, Missing) ∷ own_rows facts env place task in
    label_by (children_of facts place) (combinations_in env task) (first_row ((blocked, Parent) ∷ (if good then own else []))) (first_stop facts) (if good then Ready else Waits)

told : (facts : Facts) (labels : List Verdict) (above : List ℕ) (place : ℕ) (task : PipelineTask) (blocked good : Bool)
    → blocked ≡ list_any (λ p. blocks (label_at labels p)) above → good ≡ list_all (λ p. is_good_parent facts (p, label_at labels p)) above
    → line_by facts (labelled labels above) place task blocked good ≡ task_line facts (labelled labels above) place task
told facts labels above place task blocked good b g =
    let with_label : ℕ → ℕ × Verdict = λ p. (p, label_at labels p) in
    (λ i. line_by facts (labelled labels above) place task
    ((b ∙ sym (list_any-map (λ (p : ℕ × Verdict). blocks p.1) with_label above)) i)
    ((g ∙ sym (list_all-map (is_good_parent facts) with_label above)) i))

-- the label of a task that is blocked
pub blocked_line : (facts : Facts) (labels : List Verdict) (above : List ℕ) (place : ℕ) (task : PipelineTask) (children : List Child) (stop : Option Stop) (label : Verdict)
    → true ≡ list_any (λ p. blocks (label_at labels p)) above → children ≡ children_of facts place → stop ≡ first_stop facts
    → ((combinations : Option (List (List Param))) (next : Verdict) → label ≡ label_by children combinations (Some Parent) stop next)
    → label ≡ task_line facts (labelled labels above) place task
blocked_line facts labels above place task children stop label b cs s is =
    let good = list_all (λ p. is_good_parent facts (p, label_at labels p)) above in
    let env = task_env facts task in
    is (combinations_in env task) (if good then Ready else Waits)
    ∙ ((λ i. label_by (cs i) (combinations_in env task) (Some Parent) (s i) (if good then Ready else Waits))
    ∙ told facts labels above place task true good b refl)

-- of one with a parent that isn't good yet
pub waiting_line : (facts : Facts) (labels : List Verdict) (above : List ℕ) (place : ℕ) (task : PipelineTask) (children : List Child) (stop : Option Stop) (label : Verdict)
    → false ≡ list_any (λ p. blocks (label_at labels p)) above → false ≡ list_all (λ p. is_good_parent facts (p, label_at labels p)) above
    → children ≡ children_of facts place → stop ≡ first_stop facts
    → label ≡ label_by children (combinations_in (task_env facts task) task) None stop Waits
    → label ≡ task_line facts (labelled labels above) place task
waiting_line facts labels above place task children stop label b g cs s is =
    is ∙ ((λ i. label_by (cs i) (combinations_in (task_env facts task) task) None (s i) Waits) ∙ told facts labels above place task false false b g)

-- and of one with good parents
pub good_line : (facts : Facts) (labels : List Verdict) (above : List ℕ) (place : ℕ) (task : PipelineTask) (body : TaskBody) (children : List Child) (stop : Option Stop) (label : Verdict)
    → false ≡ list_any (λ p. blocks (label_at labels p)) above → true ≡ list_all (λ p. is_good_parent facts (p, label_at labels p)) above
    → children ≡ children_of facts place → stop ≡ first_stop facts → slice_get facts.spec.bodies place ≡ Some body
    → label ≡ label_by children (combinations_in (task_env facts task) task) (good_row facts (labelled labels above) task body) stop Ready
    → label ≡ task_line facts (labelled labels above) place task
good_line facts labels above place task body children stop label b g cs s found is =
    let env = task_env facts task in
    let lacks = lacks_result facts (labelled labels above) task in
    is
    ∙ ((λ i. label_by (cs i) (combinations_in env task) (cond lacks (Some Missing) (sym (own_rows_by facts env place task body found) i)) (s i) Ready)
    ∙ told facts labels above place task false true b g)
