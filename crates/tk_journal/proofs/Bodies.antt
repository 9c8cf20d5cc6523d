-- What a sound spec gives its tasks and bodies: few retries and steps, and texts with readings.
use Rattle.std.proofs.Common.{[], ◌∷◌, ◌++◌, ◌≡◌, ◌≤◌, ℕ, List, Some}
use Rattle.std.specs.Prelude.{slice_get, All, flat_map}
use Rattle.std.proofs.lemmas.List.Elements.{All-contains, All-nil, All-cons, All-head, All-tail}
use Rattle.tk_types.specs.declared.run.RunSpec.{RunSpec}
use Rattle.tk_types.specs.declared.task.PipelineTask.{PipelineTask}
use Rattle.tk_types.specs.declared.task.TaskBody.{TaskBody}
use Rattle.tk_bind.specs.Fits.{step_texts}
use Rattle.tk_verdict.proofs.GoodStays.{task_in}
use Rattle.tk_types.specs.Behaviour.{tasks_of}
use Rattle.tk_journal.specs.Names.{task_at}
use Rattle.tk_vars.specs.Reading.{HasReading}
use Rattle.tk_graph.specs.Results.{params_texts, task_texts}
use Rattle.tk_types.specs.Limits.{most_retries}
use Rattle.tk_journal.specs.Sound.{IsSoundSpec, HasSteps, ReadsSteps}

pub few_retries : (spec : RunSpec) → IsSoundSpec spec → (place : ℕ) (task : PipelineTask) → task_at spec place ≡ Some task → task.retries ≤ most_retries
few_retries spec sound place task is = All-contains (λ (t : PipelineTask). t.retries ≤ most_retries) (tasks_of spec) task sound.few_retries (task_in (tasks_of spec) place task is)

pub body_steps : (spec : RunSpec) → IsSoundSpec spec → (place : ℕ) (body : TaskBody) → slice_get spec.bodies place ≡ Some body → HasSteps spec.start body
body_steps spec sound place body is = All-contains (HasSteps spec.start) spec.bodies body sound.steps (task_in spec.bodies place body is)

-- the texts of a task's body have readings, as those of all bodies

all_front : {X : Type 0} (P : X → Type 0) (xs ys : List X) → All P (xs ++ ys) → All P xs
all_front P [] ys each = All-nil P
all_front P (x ∷ xs) ys each = All-cons P x xs (All-head P x (xs ++ ys) each) (all_front P xs ys (All-tail P x (xs ++ ys) each))

all_back : {X : Type 0} (P : X → Type 0) (xs ys : List X) → All P (xs ++ ys) → All P ys
all_back P [] ys each = each
all_back P (x ∷ xs) ys each = all_back P xs ys (All-tail P x (xs ++ ys) each)

all_inside : {X Y : Type 0} (P : Y → Type 0) (f : X → List Y) (xs : List X) → All P (flat_map f xs) → All (λ x. All P (f x)) xs
all_inside P f [] each = All-nil (λ x. All P (f x))
all_inside P f (x ∷ xs) each = All-cons (λ x. All P (f x)) x xs (all_front P (f x) (flat_map f xs) each) (all_inside P f xs (all_back P (f x) (flat_map f xs) each))

abbrev body_texts : TaskBody → List (List ℕ)
body_texts body = flat_map step_texts body.spec.steps

pub body_reads : (spec : RunSpec) → IsSoundSpec spec → (place : ℕ) (body : TaskBody) → slice_get spec.bodies place ≡ Some body → ReadsSteps body
body_reads spec sound place body is =
    let tasks = flat_map task_texts (tasks_of spec) in
    let bodies = flat_map body_texts spec.bodies in
    let of_bodies : All HasReading bodies = all_back HasReading tasks bodies (all_front HasReading (tasks ++ bodies) (params_texts spec.results) sound.readable) in
    all_inside HasReading step_texts body.spec.steps (All-contains (λ (b : TaskBody). All HasReading (body_texts b)) spec.bodies body (all_inside HasReading body_texts spec.bodies of_bodies) (task_in spec.bodies place body is))
