-- The text of tasks, one task after the other.
use Rattle.std.proofs.Common.{◌≡◌, ℕ, zero, suc, ◌+◌, ◌-◌, ◌<◌, List, ◌∷◌, ◌++◌, ◌∙◌, refl, ap, arith, append-nil, append_assoc, add-one}
use Rattle.std.specs.Prelude.{codes, flat_map}
use Rattle.std.proofs.lemmas.Bool.Decides.{nat_tests}
use Rattle.tk_gen.specs.declared.task.DrawnTask.{DrawnTask}
use Rattle.tk_gen.specs.Generate.{separator, state_behind, task_of, task_text, tasks_from, tasks_text}

-- a task with what stands before it
abbrev pub placed_text : DrawnTask → List ℕ
placed_text t = separator t.place ++ task_text t

-- all but the first stand behind a comma
not_first : (place : ℕ) → separator (suc place) ≡ codes ","
not_first place = grind (arith, nat_tests)

-- a task, and those behind it
joined : (t : DrawnTask) (count place state : ℕ) → let later = tasks_from count (suc place) state in task_text t ++ flat_map placed_text later ≡ tasks_text (t ∷ later)
joined t zero place state = append-nil (task_text t)
joined t (suc count) place state =
    let next = task_of (suc place) state in
    let later = flat_map placed_text (tasks_from count (suc (suc place)) (state_behind (suc place) state)) in
    ap (λ first. task_text t ++ ((first ++ task_text next) ++ later)) (not_first place)
    ∙ ap (λ rest. task_text t ++ 44 ∷ rest) (joined next count (suc place) (state_behind (suc place) state))

pub all_joined : (size state : ℕ) → flat_map placed_text (tasks_from size 0 state) ≡ tasks_text (tasks_from size 0 state)
all_joined zero state = refl
all_joined (suc count) state = joined (task_of 0 state) count 0 (state_behind 0 state)

-- with a task behind the text, the tasks that are left are those behind it
pub goes_on : (old all : List ℕ) (size place state : ℕ) → place < size → old ++ flat_map placed_text (tasks_from (size - place) place state) ≡ all
    → old ++ separator place ++ task_text (task_of place state) ++ flat_map placed_text (tasks_from (size - (place + 1)) (place + 1) (state_behind place state)) ≡ all
goes_on old all size place state inside before =
    let text = placed_text (task_of place state) in
    let later = flat_map placed_text (tasks_from (size - suc place) (suc place) (state_behind place state)) in
    let left : size - place ≡ suc (size - suc place) = omega arith in
    rw (add-one place) (ap (λ text. text ++ later) (append_assoc old (separator place) (task_text (task_of place state))) ∙ append_assoc old text later ∙ (rw left at before))
