-- The starts and ends of steps that Admit entries allow: two for each step of each attempt.
use Rattle.std.proofs.Common.{◌≡◌, ◌≤◌, ◌<◌, ℕ, zero, suc, ◌+◌, ◌*◌, Bool, true, false, List, [], ◌∷◌, ◌++◌, length, Option, Some, None, refl, sym, ◌∙◌, ap, subst, arith, inl, inr, Contains, length-append, eq-or-lt_of_le}
use Rattle.std.specs.Prelude.{sum_by, slice_get}
use Rattle.std.specs.List.{zip}
use Rattle.std.specs.Option.{option_map_or}
use Rattle.std.proofs.lemmas.List.Sums.{sum_by-cons}
use Rattle.std.proofs.lemmas.List.Elements.{Contains-append_left, Contains-append_right}
use Rattle.tk_types.specs.declared.run.RunSpec.{RunSpec}
use Rattle.tk_types.specs.declared.task.PipelineTask.{PipelineTask}
use Rattle.tk_types.specs.declared.task.TaskBody.{TaskBody}
use Rattle.tk_types.specs.Behaviour.{tasks_of}
use Rattle.tk_names.specs.Children.{pod_name}
use Rattle.tk_journal.specs.declared.act.Admission.TheVariants as admissions
use Rattle.tk_journal.specs.declared.act.Act.{Act}
use Rattle.tk_journal.specs.declared.act.Act.TheVariants as acts
use Rattle.tk_journal.specs.declared.entry.Entry.{Entry}
use Rattle.tk_journal.specs.Effects.{task_count}
use Rattle.tk_journal.specs.Legal.{IsLegal, Fits}
use Rattle.tk_journal.specs.Names.{task_at, child_name_of, possible_of, possible_count}
use Rattle.tk_journal.specs.Weight.{child_weight, task_weight, run_weight, act_weight, weight}
use Rattle.tk_journal.proofs.LeastWeight.{least_child, retries_at, least_children, least_act, least}
use Rattle.tk_deeds.specs.Deeds.{Deed}

abbrev pub deed_at : List ℕ → ℕ → Bool → Deed
deed_at pod step is_end = record { pod = pod; step = step; is_end = is_end }

abbrev pub steps_at : Option TaskBody → ℕ
steps_at None = 0
steps_at (Some body) = length body.spec.steps

-- the deeds that there are: of a pod, from a step on
abbrev pub pod_deeds : List ℕ → ℕ → ℕ → List Deed
pod_deeds pod first zero = []
pod_deeds pod first (suc count) = deed_at pod first false ∷ deed_at pod first true ∷ pod_deeds pod (suc first) count

-- of a TaskRun with so many steps, from an attempt on
abbrev pub attempt_deeds : List ℕ → ℕ → ℕ → ℕ → List Deed
attempt_deeds name steps first zero = []
attempt_deeds name steps first (suc count) = pod_deeds (pod_name name (suc first)) 0 steps ++ attempt_deeds name steps (suc first) count

abbrev pub task_run_deeds : List ℕ → ℕ → ℕ → List Deed
task_run_deeds name retries steps = attempt_deeds name steps 0 (suc retries)

-- of a child of a task
abbrev pub child_deeds : RunSpec → ℕ → ℕ → List Deed
child_deeds spec task index = task_run_deeds (child_name_of spec task index) (retries_at (task_at spec task)) (steps_at (slice_get spec.bodies task))

-- of the task's children, from an index on
abbrev pub index_deeds : RunSpec → ℕ → ℕ → ℕ → List Deed
index_deeds spec task first zero = []
index_deeds spec task first (suc count) = child_deeds spec task first ++ index_deeds spec task (suc first) count

-- of all tasks, from one on
abbrev pub run_deeds : RunSpec → ℕ → ℕ → List Deed
run_deeds spec task zero = []
run_deeds spec task (suc count) = index_deeds spec task 0 (possible_count spec task) ++ run_deeds spec (suc task) count

abbrev pub act_deeds : Act → List Deed
act_deeds (acts.Admit name (admissions.Run spec) pending asked root) = run_deeds spec 0 (task_count spec)
act_deeds (acts.Admit name (admissions.Task spec) pending asked root) = task_run_deeds name spec.retries (length spec.body.spec.steps)
act_deeds _ = []

abbrev pub all_deeds : List Entry → List Deed
all_deeds [] = []
all_deeds (e ∷ older) = all_deeds older ++ act_deeds e.act

-- how many they are

abbrev child_steps : ℕ → ℕ → ℕ
child_steps retries steps = suc retries * (2 * steps)

abbrev steps_of_child : RunSpec → ℕ → ℕ
steps_of_child spec task = child_steps (retries_at (task_at spec task)) (steps_at (slice_get spec.bodies task))

abbrev run_steps : RunSpec → ℕ → ℕ → ℕ
run_steps spec task zero = 0
run_steps spec task (suc count) = possible_count spec task * steps_of_child spec task + run_steps spec (suc task) count

abbrev act_steps : Act → ℕ
act_steps (acts.Admit name (admissions.Run spec) pending asked root) = run_steps spec 0 (task_count spec)
act_steps (acts.Admit name (admissions.Task spec) pending asked root) = child_steps spec.retries (length spec.body.spec.steps)
act_steps _ = 0

one_more : (a b w n : ℕ) → a ≡ w → b ≡ n * w → a + b ≡ suc n * w
one_more a b w n first rest = omega arith

length_pod : (pod : List ℕ) (first count : ℕ) → length (pod_deeds pod first count) ≡ 2 * count
length_pod pod first zero = omega arith
length_pod pod first (suc count) = omega (arith, length_pod pod (suc first) count)

length_attempts : (name : List ℕ) (steps first count : ℕ) → length (attempt_deeds name steps first count) ≡ count * (2 * steps)
length_attempts name steps first zero = omega arith
length_attempts name steps first (suc count) =
    let own : List Deed = pod_deeds (pod_name name (suc first)) 0 steps in
    length-append own (attempt_deeds name steps (suc first) count)
    ∙ one_more (length own) (length (attempt_deeds name steps (suc first) count)) (2 * steps) count (length_pod (pod_name name (suc first)) 0 steps) (length_attempts name steps (suc first) count)

length_child : (name : List ℕ) (retries steps : ℕ) → length (task_run_deeds name retries steps) ≡ child_steps retries steps
length_child name retries steps = length_attempts name steps 0 (suc retries)

length_indexes : (spec : RunSpec) (task first count : ℕ) → length (index_deeds spec task first count) ≡ count * steps_of_child spec task
length_indexes spec task first zero = omega arith
length_indexes spec task first (suc count) =
    length-append (child_deeds spec task first) (index_deeds spec task (suc first) count)
    ∙ one_more (length (child_deeds spec task first)) (length (index_deeds spec task (suc first) count)) (steps_of_child spec task) count
    (length_child (child_name_of spec task first) (retries_at (task_at spec task)) (steps_at (slice_get spec.bodies task))) (length_indexes spec task (suc first) count)

length_run : (spec : RunSpec) (task count : ℕ) → length (run_deeds spec task count) ≡ run_steps spec task count
length_run spec task zero = refl
length_run spec task (suc count) =
    omega (arith, length-append (index_deeds spec task 0 (possible_count spec task)) (run_deeds spec (suc task) count), length_indexes spec task 0 (possible_count spec task), length_run spec (suc task) count)

length_act : (act : Act) → length (act_deeds act) ≡ act_steps act
length_act (acts.Admit name (admissions.Run spec) pending asked root) = length_run spec 0 (task_count spec)
length_act (acts.Admit name (admissions.Task spec) pending asked root) = length_child name spec.retries (length spec.body.spec.steps)
length_act _ = refl

-- with what entries take they are the weight

child_whole : (retries : ℕ) (body : TaskBody) → least_child retries + child_steps retries (length body.spec.steps) ≡ child_weight retries body
child_whole retries body = omega arith

times_whole : (n a b c : ℕ) → a + b ≡ c → n * a + n * b ≡ n * c
times_whole n a b c same = let each : n * (a + b) ≡ n * c = ap (λ (x : ℕ). n * x) same in omega (arith, each)

children_whole : (spec : RunSpec) (first : ℕ) (tasks : List PipelineTask) (bodies : List TaskBody) → length tasks ≡ length bodies
    → ((k : ℕ) → task_at spec (first + k) ≡ slice_get tasks k) → ((k : ℕ) → slice_get spec.bodies (first + k) ≡ slice_get bodies k)
    → least_children spec first (length tasks) + run_steps spec first (length tasks) ≤ sum_by (task_weight spec) (zip tasks bodies)
children_whole spec first [] bodies long at has = omega arith
children_whole spec first (t ∷ ts) [] long at has = absurd (omega (arith, long))
children_whole spec first (t ∷ ts) (b ∷ bs) long at has =
    let here : task_at spec first ≡ Some t = ap (task_at spec) (omega arith) ∙ at 0 in
    let body : slice_get spec.bodies first ≡ Some b = ap (slice_get spec.bodies) (omega arith) ∙ has 0 in
    let later : (k : ℕ) → task_at spec (suc first + k) ≡ slice_get ts k = λ k. ap (task_at spec) (omega arith) ∙ at (suc k) in
    let after : (k : ℕ) → slice_get spec.bodies (suc first + k) ≡ slice_get bs k = λ k. ap (slice_get spec.bodies) (omega arith) ∙ has (suc k) in
    let rest = children_whole spec (suc first) ts bs (omega (arith, long)) later after in
    let count : possible_count spec first ≡ possible_of spec t = ap (λ (o : Option PipelineTask). option_map_or (possible_of spec) o 0) here in
    let retries : retries_at (task_at spec first) ≡ t.retries = ap retries_at here in
    let steps : steps_at (slice_get spec.bodies first) ≡ length b.spec.steps = ap steps_at body in
    let entries : possible_count spec first * least_child (retries_at (task_at spec first)) ≡ possible_of spec t * least_child t.retries
    = ap (λ (n : ℕ). n * least_child (retries_at (task_at spec first))) count ∙ ap (λ (r : ℕ). possible_of spec t * least_child r) retries in
    let deeds : possible_count spec first * steps_of_child spec first ≡ possible_of spec t * child_steps t.retries (length b.spec.steps)
    = ap (λ (n : ℕ). n * steps_of_child spec first) count ∙ (ap (λ (r : ℕ). possible_of spec t * child_steps r (steps_at (slice_get spec.bodies first))) retries ∙ ap (λ (s : ℕ). possible_of spec t * child_steps t.retries s) steps) in
    let one = times_whole (possible_of spec t) (least_child t.retries) (child_steps t.retries (length b.spec.steps)) (child_weight t.retries b) (child_whole t.retries b) in
    subst (λ n. least_children spec first (suc (length ts)) + run_steps spec first (suc (length ts)) ≤ n) (sym (sum_by-cons (task_weight spec) (t, b) (zip ts bs)))
    (whole_sum (possible_count spec first * least_child (retries_at (task_at spec first))) (possible_count spec first * steps_of_child spec first) _ _ _ _ _ _ entries deeds one rest)
  where
    whole_sum : (a b m n w x y s : ℕ) → a ≡ m → b ≡ n → m + n ≡ w → x + y ≤ s → a + x + (b + y) ≤ w + s
    whole_sum a b m n w x y s is_a is_b both rest = omega arith

act_whole : (older : List Entry) (e : Entry) (act : Act) → Fits older e act → least_act act + act_steps act ≤ act_weight act
act_whole older e (acts.Admit name (admissions.Run spec) pending asked root) fits =
    let same : task_count spec ≡ length (tasks_of spec) = sym (length-append spec.tasks spec.finally) in
    let few = children_whole spec 0 (tasks_of spec) spec.bodies (sym same ∙ sym fits.1.tasks.one_body_each) (λ k. ap (task_at spec) (omega arith)) (λ k. ap (slice_get spec.bodies) (omega arith)) in
    subst (λ n. 7 + n + least_children spec 0 n + run_steps spec 0 n ≤ run_weight (admissions.Run spec)) (sym same) (omega (arith, few))
act_whole older e (acts.Admit name (admissions.Task spec) pending asked root) fits = omega (arith, child_whole spec.retries spec.body)
act_whole older e (acts.Ask name status) fits = omega arith
act_whole older e _ fits = omega arith

pub whole_weight : (history : List Entry) → IsLegal history → least history + length (all_deeds history) ≤ weight history
whole_weight [] legal = omega arith
whole_weight (e ∷ older) legal =
    omega (arith, whole_weight older legal.0, act_whole older e e.act legal.1.fits, length-append (all_deeds older) (act_deeds e.act), length_act e.act)

-- where a deed stands

step_among : (pod : List ℕ) (first count step : ℕ) → first ≤ step → step < first + count → (is_end : Bool) → Contains (pod_deeds pod first count) (deed_at pod step is_end)
step_among pod first zero step low high is_end = absurd (omega arith)
step_among pod first (suc count) step low high is_end = elim (eq-or-lt_of_le low) [
  | inl same ↦ subst (λ (s : ℕ). Contains (pod_deeds pod first (suc count)) (deed_at pod s is_end)) same (here is_end)
  | inr later ↦ Contains-append_right (deed_at pod first false ∷ deed_at pod first true ∷ []) (pod_deeds pod (suc first) count) (deed_at pod step is_end) (step_among pod (suc first) count step later (omega arith) is_end)
]
  where
    here : (e : Bool) → Contains (pod_deeds pod first (suc count)) (deed_at pod first e)
    here false = (0, omega arith, refl)
    here true = (1, omega arith, refl)

attempt_among : (name : List ℕ) (steps first count place step : ℕ) → first ≤ place → place < first + count → step < steps → (is_end : Bool) → Contains (attempt_deeds name steps first count) (deed_at (pod_name name (suc place)) step is_end)
attempt_among name steps first zero place step low high below is_end = absurd (omega arith)
attempt_among name steps first (suc count) place step low high below is_end = elim (eq-or-lt_of_le low) [
  | inl same ↦ Contains-append_left (pod_deeds (pod_name name (suc first)) 0 steps) (attempt_deeds name steps (suc first) count) (deed_at (pod_name name (suc place)) step is_end)
      (subst (λ (f : ℕ). Contains (pod_deeds (pod_name name (suc f)) 0 steps) (deed_at (pod_name name (suc place)) step is_end)) (sym same) (step_among (pod_name name (suc place)) 0 steps step (omega arith) (omega arith) is_end))
  | inr later ↦ Contains-append_right (pod_deeds (pod_name name (suc first)) 0 steps) (attempt_deeds name steps (suc first) count) (deed_at (pod_name name (suc place)) step is_end) (attempt_among name steps (suc first) count place step later (omega arith) below is_end)
]

-- of a TaskRun's attempt
pub deed_among : (name : List ℕ) (retries steps place step : ℕ) → place ≤ retries → step < steps → (is_end : Bool) → Contains (task_run_deeds name retries steps) (deed_at (pod_name name (suc place)) step is_end)
deed_among name retries steps place step within below is_end = attempt_among name steps 0 (suc retries) place step (omega arith) (omega arith) below is_end

index_among : (spec : RunSpec) (task first count index : ℕ) (deed : Deed) → first ≤ index → index < first + count → Contains (child_deeds spec task index) deed → Contains (index_deeds spec task first count) deed
index_among spec task first zero index deed low high has = absurd (omega arith)
index_among spec task first (suc count) index deed low high has = elim (eq-or-lt_of_le low) [
  | inl same ↦ Contains-append_left (child_deeds spec task first) (index_deeds spec task (suc first) count) deed (subst (λ (i : ℕ). Contains (child_deeds spec task i) deed) (sym same) has)
  | inr later ↦ Contains-append_right (child_deeds spec task first) (index_deeds spec task (suc first) count) deed (index_among spec task (suc first) count index deed later (omega arith) has)
]

-- of a child of a run
pub child_among : (spec : RunSpec) (first count task index : ℕ) (deed : Deed) → first ≤ task → task < first + count → index < possible_count spec task → Contains (child_deeds spec task index) deed → Contains (run_deeds spec first count) deed
child_among spec first zero task index deed low high within has = absurd (omega arith)
child_among spec first (suc count) task index deed low high within has = elim (eq-or-lt_of_le low) [
  | inl same ↦ Contains-append_left (index_deeds spec first 0 (possible_count spec first)) (run_deeds spec (suc first) count) deed
      (subst (λ (t : ℕ). Contains (index_deeds spec t 0 (possible_count spec t)) deed) (sym same) (index_among spec task 0 (possible_count spec task) index deed (omega arith) (omega arith) has))
  | inr later ↦ Contains-append_right (index_deeds spec first 0 (possible_count spec first)) (run_deeds spec (suc first) count) deed (child_among spec (suc first) count task index deed later (omega arith) within has)
]
