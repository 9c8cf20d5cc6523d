-- What a label says of the task's children, row and stop.
use Rattle.std.proofs.Common.{◌≡◌, ℕ, zero, suc, ◌-◌, ◌<◌, ◌≤◌, Bool, true, false, ◌&&◌, List, [], ◌∷◌, map, length, take, Option, Some, None, refl, sym, ap, ◌∙◌, subst, inl, inr, arith, zero-add}
use Rattle.std.specs.Prelude.{if◌then◌else◌, is_none, slice_get, option_map, replicate}
use Rattle.std.specs.List.{list_any, list_all, range_with_len}
use Rattle.std.specs.Option.{option_or, option_map_or}
use Rattle.std.proofs.lemmas.Bool.{cases_Bool, cases_lt}
use Rattle.std.proofs.lemmas.List.{get_or_past, length-replicate}
use Rattle.std.proofs.lemmas.List.FromFn.{get_or-map-range_with_len, length-map-range_with_len}
use Rattle.std.proofs.lemmas.Option.{slice_get_past, slice_get_cases, slice_get_within}
use Rattle.tk_types.specs.declared.value.Param.{Param}
use Rattle.tk_types.specs.declared.task.PipelineTask.{PipelineTask}
use Rattle.tk_types.specs.declared.run.Facts.{Facts}
use Rattle.tk_types.specs.declared.run.Child.{Child}
use Rattle.tk_types.specs.declared.run.Stop.{Stop}
use Rattle.tk_types.specs.declared.verdict.SkipReason.{SkipReason}
use Rattle.tk_types.specs.declared.verdict.SkipReason.TheVariants.{When, Stopped}
use Rattle.tk_types.specs.declared.verdict.Verdict.{Verdict}
use Rattle.tk_types.specs.declared.verdict.Verdict.TheVariants.{Ran, Skipped, Runs, Ready, Waits, Wrong}
use Rattle.tk_types.specs.Lists.{repeated}
use Rattle.tk_graph.specs.Parents.{IsAcyclic}
use Rattle.tk_verdict.specs.Facts.{task_total, children_of, is_running, first_stop, first_late_stop}
use Rattle.tk_verdict.specs.Gives.{label_of, first_labels}
use Rattle.tk_verdict.specs.Labels.{has_exact_children, label_by, task_line, finally_line, labelled_parents, verdict_line, labels_of}
use Rattle.tk_verdict.specs.Bindings.{combinations_in}
use Rattle.tk_verdict.specs.Rows.{is_good_parent, task_row, finally_row}
use Rattle.tk_verdict.specs.Words.{task_env, finally_env}
use Rattle.tk_verdict.specs.Verdict.{label_at, is_done}
use Rattle.tk_verdict.proofs.RightLabels.{labels_of_is_right}

-- what is left without children, row and stop
abbrev pub next_by : Bool → Verdict
next_by b = if b then Ready else Waits

next_done : (b : Bool) → is_done (next_by b) ≡ false
next_done true = refl
next_done false = refl

next_skipped : (b : Bool) (reason : SkipReason) → next_by b ≡ Skipped reason → ⊥
next_skipped true reason is = cc
next_skipped false reason is = cc

next_wrong : (b : Bool) → next_by b ≡ Wrong → ⊥
next_wrong true is = cc
next_wrong false is = cc

next_ready : (b : Bool) → next_by b ≡ Ready → b ≡ true
next_ready true is = refl
next_ready false is = cc

-- the label of a task with children
abbrev ended_by : Bool → Bool → Verdict
ended_by runs right = if runs then Runs else (if right then Ran else Wrong)

ended_ready : (runs right : Bool) → ended_by runs right ≡ Ready → ⊥
ended_ready true right is = cc
ended_ready false true is = cc
ended_ready false false is = cc

ended_skipped : (runs right : Bool) (reason : SkipReason) → ended_by runs right ≡ Skipped reason → ⊥
ended_skipped true right reason is = cc
ended_skipped false true reason is = cc
ended_skipped false false reason is = cc

ended_done : (runs right : Bool) → is_done (ended_by runs right) ≡ true → runs ≡ false
ended_done true right is = cc
ended_done false right is = refl

ended_waits : (runs right : Bool) → ended_by runs right ≡ Waits → ⊥
ended_waits true right is = cc
ended_waits false true is = cc
ended_waits false false is = cc

abbrev Combinations : Type 0
Combinations = Option (List (List Param))

abbrev is_right_by : List Child → Combinations → Option SkipReason → Bool
is_right_by children combinations row = is_none row && option_map_or (has_exact_children children) combinations false

-- a Ready task has no children, no row, no stop, and what it waits for is there
pub ready_parts : (children : List Child) (combinations : Combinations) (row : Option SkipReason) (stop : Option Stop) (b : Bool)
    → label_by children combinations row stop (next_by b) ≡ Ready → (children ≡ []) × (row ≡ None) × (stop ≡ None) × (b ≡ true)
ready_parts [] combinations None None b is = (refl, refl, refl, next_ready b is)
ready_parts [] combinations None (Some stop) b is = cc
ready_parts [] combinations (Some reason) stop b is = cc
ready_parts (c ∷ cs) combinations row stop b is = absurd (ended_ready (list_any is_running (c ∷ cs)) (is_right_by (c ∷ cs) combinations row) is)

-- a skipped task has no children, and a row or a stop
pub skipped_parts : (children : List Child) (combinations : Combinations) (row : Option SkipReason) (stop : Option Stop) (b : Bool) (reason : SkipReason)
    → label_by children combinations row stop (next_by b) ≡ Skipped reason → (children ≡ []) × (option_or row (option_map Stopped stop) ≡ Some reason)
skipped_parts [] combinations None None b reason is = absurd (next_skipped b reason is)
skipped_parts [] combinations None (Some stop) b reason is = (refl, cc)
skipped_parts [] combinations (Some other) stop b reason is = (refl, cc)
skipped_parts (c ∷ cs) combinations row stop b reason is = absurd (ended_skipped (list_any is_running (c ∷ cs)) (is_right_by (c ∷ cs) combinations row) reason is)

pub row_is : (row : Option SkipReason) (stop : Option Stop) → option_or row (option_map Stopped stop) ≡ Some When → row ≡ Some When
row_is None None is = cc
row_is None (Some stop) is = cc
row_is (Some reason) stop is = is

-- a task without children isn't Wrong
pub none_not_wrong : (combinations : Combinations) (row : Option SkipReason) (stop : Option Stop) (b : Bool) → label_by [] combinations row stop (next_by b) ≡ Wrong → ⊥
none_not_wrong combinations None None b is = next_wrong b is
none_not_wrong combinations None (Some stop) b is = cc
none_not_wrong combinations (Some reason) stop b is = cc

-- a waiting task has no children, row or stop
pub waits_parts : (children : List Child) (combinations : Combinations) (row : Option SkipReason) (stop : Option Stop) (b : Bool)
    → label_by children combinations row stop (next_by b) ≡ Waits → (children ≡ []) × (row ≡ None) × (stop ≡ None) × (b ≡ false)
waits_parts [] combinations None None true is = cc
waits_parts [] combinations None None false is = (refl, refl, refl, refl)
waits_parts [] combinations None (Some stop) b is = cc
waits_parts [] combinations (Some reason) stop b is = cc
waits_parts (c ∷ cs) combinations row stop b is = absurd (ended_waits (list_any is_running (c ∷ cs)) (is_right_by (c ∷ cs) combinations row) is)

-- no child of a task that is done runs
pub done_ended : (children : List Child) (combinations : Combinations) (row : Option SkipReason) (stop : Option Stop) (b : Bool)
    → is_done (label_by children combinations row stop (next_by b)) ≡ true → list_any is_running children ≡ false
done_ended [] combinations row stop b done = refl
done_ended (c ∷ cs) combinations row stop b done = ended_done (list_any is_running (c ∷ cs)) (is_right_by (c ∷ cs) combinations row) done

-- the label of a task that is done stays while its children, combinations, row and first stop do
pub done_stays : (children : List Child) (combinations : Combinations) (row : Option SkipReason) (stop later : Option Stop) (b d : Bool)
    → is_done (label_by children combinations row stop (next_by b)) ≡ true → ((s : Stop) → stop ≡ Some s → later ≡ Some s)
    → label_by children combinations row later (next_by d) ≡ label_by children combinations row stop (next_by b)
done_stays (c ∷ cs) combinations row stop later b d done keep = refl
done_stays [] combinations (Some reason) stop later b d done keep = refl
done_stays [] combinations None (Some s) later b d done keep = ap (λ (o : Option Stop). label_by [] combinations None o (next_by d)) (keep s refl)
done_stays [] combinations None None later b d done keep = let not_done = next_done b in cc

-- the label of each task is of this form

pub record Shape (facts : Facts) (place : ℕ) (label : Verdict) : Type 0 where
  pub combinations : Combinations
  pub row : Option SkipReason
  pub stop : Option Stop
  pub next : Bool
  pub is : label ≡ label_by (children_of facts place) combinations row stop (next_by next)

task_shape : (facts : Facts) (parents : List (ℕ × Verdict)) (place : ℕ) (task : PipelineTask) → Shape facts place (task_line facts parents place task)
task_shape facts parents place task =
    let env = task_env facts task in
    record { combinations = combinations_in env task; row = task_row facts parents env place task; stop = first_stop facts; next = list_all (is_good_parent facts) parents; is = refl }

final_shape : (facts : Facts) (labels : List Verdict) (place : ℕ) (task : PipelineTask) → Shape facts place (finally_line facts labels place task)
final_shape facts labels place task =
    let env = finally_env facts labels task in
    let combinations = combinations_in env task in
    elim (cases_Bool (list_all is_done labels)) [
      | inl done ↦ record { combinations = combinations; row = finally_row facts env place task; stop = first_late_stop facts; next = true; is = rw done refl }
      | inr waits ↦ record { combinations = combinations; row = None; stop = None; next = false; is = rw waits refl }
    ]

pub line_shape : (facts : Facts) (labels : List Verdict) (place : ℕ) → place < task_total facts → Shape facts place (verdict_line facts labels place)
line_shape facts labels place lt =
    elim (slice_get_cases facts.spec.tasks place).1 [
      | inl found ↦ subst (λ (v : Verdict). Shape facts place v) (rw found.2 refl) (task_shape facts (labelled_parents facts labels place) place found.0)
      | inr past ↦ elim (slice_get_cases facts.spec.finally (place - length facts.spec.tasks)).1 [
        | inl found ↦ subst (λ (v : Verdict). Shape facts place v) (rw (past.1, found.2) refl) (final_shape facts (take (length facts.spec.tasks) labels) place found.0)
        | inr beyond ↦ absurd (omega arith)
      ]
    ]

-- the labels are a judgement of some labels
last_round : (line : List Verdict → ℕ → Verdict) (total rounds place : ℕ) (start : List Verdict) → 0 < rounds → place < total
    → (prev : List Verdict) × (label_at (repeated (λ labels. map (line labels) (range_with_len 0 total)) rounds start) place ≡ line prev place)
last_round line total zero place start some lt = absurd (omega arith)
last_round line total (suc n) place start some lt =
    let prev = repeated (λ labels. map (line labels) (range_with_len 0 total)) n start in
    (prev, get_or-map-range_with_len (line prev) 0 total place place Waits lt (zero-add place))

rounds_length : (line : List Verdict → ℕ → Verdict) (total rounds : ℕ) → length (repeated (λ labels. map (line labels) (range_with_len 0 total)) rounds (replicate total Waits)) ≡ total
rounds_length line total zero = length-replicate total Waits
rounds_length line total (suc n) = length-map-range_with_len (line (repeated (λ labels. map (line labels) (range_with_len 0 total)) n (replicate total Waits))) 0 total

pub labels_length : (facts : Facts) → length (labels_of facts) ≡ task_total facts
labels_length facts = rounds_length (verdict_line facts) (task_total facts) (task_total facts)

pub past_waits : (facts : Facts) (place : ℕ) → task_total facts ≤ place → label_of facts place ≡ Waits
past_waits facts place le = get_or_past (labels_of facts) place Waits (rw (labels_length facts) le)

last_line : (facts : Facts) (place : ℕ) → place < task_total facts → (prev : List Verdict) × (label_of facts place ≡ verdict_line facts prev place)
last_line facts place lt = last_round (verdict_line facts) (task_total facts) (task_total facts) place (replicate (task_total facts) Waits) (omega arith) lt

-- so is the label of a task of `tasks`, and of one of `finally`

pub task_judged : (facts : Facts) (place : ℕ) (task : PipelineTask) → slice_get facts.spec.tasks place ≡ Some task
    → (parents : List (ℕ × Verdict)) × (label_of facts place ≡ task_line facts parents place task)
task_judged facts place task is =
    let within = slice_get_within facts.spec.tasks place task is in
    let last = last_line facts place (omega arith) in
    (labelled_parents facts last.0 place, last.1 ∙ rw is refl)

pub final_judged : (facts : Facts) (place : ℕ) (task : PipelineTask) → length facts.spec.tasks ≤ place → slice_get facts.spec.finally (place - length facts.spec.tasks) ≡ Some task
    → (labels : List Verdict) × (label_of facts place ≡ finally_line facts labels place task)
final_judged facts place task le is =
    let within = slice_get_within facts.spec.finally (place - length facts.spec.tasks) task is in
    let past : slice_get facts.spec.tasks place ≡ None = slice_get_past facts.spec.tasks place le in
    let last = last_line facts place (omega arith) in
    (take (length facts.spec.tasks) last.0, last.1 ∙ rw (past, is) refl)

pub label_shape : (facts : Facts) (place : ℕ) → place < task_total facts → Shape facts place (label_of facts place)
label_shape facts place lt =
    let last = last_line facts place lt in
    subst (λ (v : Verdict). Shape facts place v) (sym last.1) (line_shape facts last.0 place lt)

-- laws of one label

pub ready_has_none : (facts : Facts) (place : ℕ) → label_of facts place ≡ Ready → children_of facts place ≡ []
ready_has_none facts place is =
    elim (cases_lt place (task_total facts)) [
      | inl lt ↦ let s = label_shape facts place lt in (ready_parts (children_of facts place) s.combinations s.row s.stop s.next (sym s.is ∙ is)).0
      | inr past ↦ let waits = past_waits facts place past in cc
    ]

pub none_is_right : (facts : Facts) (place : ℕ) → children_of facts place ≡ [] → label_of facts place ≡ Wrong → ⊥
none_is_right facts place none is =
    elim (cases_lt place (task_total facts)) [
      | inl lt ↦ let s = label_shape facts place lt in
          none_not_wrong s.combinations s.row s.stop s.next (subst (λ (cs : List Child). label_by cs s.combinations s.row s.stop (next_by s.next) ≡ Wrong) none (sym s.is ∙ is))
      | inr past ↦ let waits = past_waits facts place past in cc
    ]

pub skipped_has_none : (facts : Facts) (place : ℕ) (reason : SkipReason) → label_of facts place ≡ Skipped reason → children_of facts place ≡ []
skipped_has_none facts place reason is =
    elim (cases_lt place (task_total facts)) [
      | inl lt ↦ let s = label_shape facts place lt in (skipped_parts (children_of facts place) s.combinations s.row s.stop s.next reason (sym s.is ∙ is)).0
      | inr past ↦ let waits = past_waits facts place past in cc
    ]

pub done_rests : (facts : Facts) (place : ℕ) → is_done (label_of facts place) ≡ true → list_any is_running (children_of facts place) ≡ false
done_rests facts place done =
    elim (cases_lt place (task_total facts)) [
      | inl lt ↦ let s = label_shape facts place lt in done_ended (children_of facts place) s.combinations s.row s.stop s.next (sym (ap is_done s.is) ∙ done)
      | inr past ↦ let waits : is_done (label_of facts place) ≡ false = ap is_done (past_waits facts place past) in cc
    ]

-- the label of a task of `tasks`, and of `finally`, in a run without a cycle

pub task_label : (facts : Facts) → IsAcyclic facts.spec.tasks → (place : ℕ) (task : PipelineTask) → slice_get facts.spec.tasks place ≡ Some task
    → label_of facts place ≡ task_line facts (labelled_parents facts (labels_of facts) place) place task
task_label facts acyclic place task is =
    let within = slice_get_within facts.spec.tasks place task is in
    let lt : place < task_total facts = omega arith in
    (labels_of_is_right facts acyclic).each place lt ∙ rw is refl

pub final_label : (facts : Facts) → IsAcyclic facts.spec.tasks → (place : ℕ) (task : PipelineTask) → length facts.spec.tasks ≤ place → slice_get facts.spec.finally (place - length facts.spec.tasks) ≡ Some task
    → label_of facts place ≡ finally_line facts (first_labels facts) place task
final_label facts acyclic place task le is =
    let within = slice_get_within facts.spec.finally (place - length facts.spec.tasks) task is in
    let lt : place < task_total facts = omega arith in
    let past : slice_get facts.spec.tasks place ≡ None = slice_get_past facts.spec.tasks place le in
    (labels_of_is_right facts acyclic).each place lt ∙ rw (past, is) refl
