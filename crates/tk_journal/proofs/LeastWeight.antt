-- What the slots of an Admit or Ask entry count: at most its weight.
use Rattle.std.proofs.Common.{◌≡◌, ◌≤◌, ℕ, zero, suc, ◌+◌, ◌*◌, List, [], ◌∷◌, length, Option, Some, None, sym, ap, ◌∙◌, subst, arith, length-append}
use Rattle.std.specs.Prelude.{sum_by, slice_get}
use Rattle.std.specs.List.{zip}
use Rattle.std.specs.Option.{option_map_or}
use Rattle.std.proofs.Math.Nat.{mul-le-mul_left}
use Rattle.std.proofs.lemmas.List.Sums.{sum_by-cons}
use Rattle.tk_types.specs.declared.run.RunSpec.{RunSpec}
use Rattle.tk_types.specs.declared.task.PipelineTask.{PipelineTask}
use Rattle.tk_types.specs.declared.task.TaskBody.{TaskBody}
use Rattle.tk_journal.specs.declared.act.Admission.TheVariants as admissions
use Rattle.tk_journal.specs.declared.act.Act.{Act}
use Rattle.tk_journal.specs.declared.act.Act.TheVariants as acts
use Rattle.tk_journal.specs.declared.entry.Entry.{Entry}
use Rattle.tk_journal.specs.Effects.{task_count}
use Rattle.tk_journal.specs.Legal.{IsLegal, Fits}
use Rattle.tk_types.specs.Behaviour.{tasks_of}
use Rattle.tk_journal.specs.Names.{task_at, possible_of, possible_count}
use Rattle.tk_journal.specs.Weight.{child_weight, task_weight, run_weight, act_weight, weight}

-- of a TaskRun: made, marked and closed without an attempt, and five for each attempt
abbrev pub least_child : ℕ → ℕ
least_child retries = 3 + suc retries * 5

abbrev pub retries_at : Option PipelineTask → ℕ
retries_at None = 0
retries_at (Some task) = task.retries

abbrev pub least_children : RunSpec → ℕ → ℕ → ℕ
least_children spec task zero = 0
least_children spec task (suc count) = possible_count spec task * least_child (retries_at (task_at spec task)) + least_children spec (suc task) count

abbrev pub least_act : Act → ℕ
least_act (acts.Admit name (admissions.Run spec) pending asked root) = 7 + task_count spec + least_children spec 0 (task_count spec)
least_act (acts.Admit name (admissions.Task spec) pending asked root) = least_child spec.retries
least_act (acts.Ask name status) = 1
least_act _ = 0

abbrev pub least : List Entry → ℕ
least [] = 0
least (e ∷ older) = least older + least_act e.act

-- each of these is at most the weight

child_least : (retries : ℕ) (body : TaskBody) → least_child retries ≤ child_weight retries body
child_least retries body =
    let more : (retries + 1) * 5 ≤ (retries + 1) * (5 + 2 * length body.spec.steps) = mul-le-mul_left (retries + 1) (omega arith) in
    omega (arith, more)

children_least : (spec : RunSpec) (first : ℕ) (tasks : List PipelineTask) (bodies : List TaskBody) → length tasks ≡ length bodies → ((k : ℕ) → task_at spec (first + k) ≡ slice_get tasks k) → least_children spec first (length tasks) ≤ sum_by (task_weight spec) (zip tasks bodies)
children_least spec first [] bodies long at = omega arith
children_least spec first (t ∷ ts) [] long at = absurd (omega (arith, long))
children_least spec first (t ∷ ts) (b ∷ bs) long at =
    let here : task_at spec first ≡ Some t = ap (task_at spec) (omega arith) ∙ at 0 in
    let later : (k : ℕ) → task_at spec (suc first + k) ≡ slice_get ts k = λ k. ap (task_at spec) (omega arith) ∙ at (suc k) in
    let rest = children_least spec (suc first) ts bs (omega (arith, long)) later in
    let count : possible_count spec first ≡ possible_of spec t = ap (λ (o : Option PipelineTask). option_map_or (possible_of spec) o 0) here in
    let retries : retries_at (task_at spec first) ≡ t.retries = ap retries_at here in
    let one : possible_count spec first * least_child (retries_at (task_at spec first)) ≤ possible_of spec t * child_weight t.retries b
    = subst (λ n. n * least_child (retries_at (task_at spec first)) ≤ possible_of spec t * child_weight t.retries b) (sym count)
    (subst (λ n. possible_of spec t * least_child n ≤ possible_of spec t * child_weight t.retries b) (sym retries) (mul-le-mul_left (possible_of spec t) (child_least t.retries b))) in
    subst (λ n. least_children spec first (suc (length ts)) ≤ n) (sym (sum_by-cons (task_weight spec) (t, b) (zip ts bs))) (omega (arith, one, rest))

act_least : (older : List Entry) (e : Entry) (act : Act) → Fits older e act → least_act act ≤ act_weight act
act_least older e (acts.Admit name (admissions.Run spec) pending asked root) fits =
    let same : task_count spec ≡ length (tasks_of spec) = sym (length-append spec.tasks spec.finally) in
    let few = children_least spec 0 (tasks_of spec) spec.bodies (sym same ∙ sym fits.1.tasks.one_body_each) (λ k. ap (task_at spec) (omega arith)) in
    subst (λ n. 7 + n + least_children spec 0 n ≤ run_weight (admissions.Run spec)) (sym same) (omega (arith, few))
act_least older e (acts.Admit name (admissions.Task spec) pending asked root) fits = omega (arith, child_least spec.retries spec.body)
act_least older e (acts.Ask name status) fits = omega arith
act_least older e _ fits = omega arith

pub least_weight : (history : List Entry) → IsLegal history → least history ≤ weight history
least_weight [] legal = omega arith
least_weight (e ∷ older) legal = omega (arith, least_weight older legal.0, act_least older e e.act legal.1.fits)
