-- The rules give a task at most as many children as admission counts, so each child's name is one of those that are compared.
use Rattle.std.proofs.Common.{◌≡◌, ◌≤◌, ◌<◌, ◌+◌, ℕ, zero, suc, List, [], ◌∷◌, length, map, Option, Some, None, refl, sym, ap, subst, inl, inr, arith, Contains, eq-or-lt_of_le, length-append}
use Rattle.std.specs.Prelude.{option_map, unwrap_or, flat_map}
use Rattle.std.specs.List.{range_with_len}
use Rattle.std.specs.Option.{option_map_or}
use Rattle.std.proofs.lemmas.List.Elements.{Contains-append_left, Contains-append_right}
use Rattle.std.proofs.lemmas.Option.{slice_get_cases}
use Rattle.tk_types.specs.declared.run.Facts.{Facts}
use Rattle.tk_types.specs.declared.run.RunSpec.{RunSpec}
use Rattle.tk_types.specs.declared.task.Matrix.{Matrix}
use Rattle.tk_types.specs.declared.task.PipelineTask.{PipelineTask}
use Rattle.tk_types.specs.declared.verdict.Binding.{Binding}
use Rattle.tk_types.specs.Limits.{most_combinations}
use Rattle.tk_names.specs.Children.{child_name, child_names}
use Rattle.tk_verdict.specs.Gives.{Gives}
use Rattle.tk_verdict.proofs.GivenRight.{gives_place}
use Rattle.tk_verdict.proofs.PossibleChildren.{gives_possible}
use Rattle.tk_verdict.proofs.GoodStays.{task_in}
use Rattle.tk_journal.specs.declared.act.Admission.TheVariants.{Run}
use Rattle.tk_early.specs.Possible.{settled_count}
use Rattle.tk_types.specs.Behaviour.{tasks_of}
use Rattle.tk_journal.specs.Names.{task_at, child_name_of, possible_of, possible_count, task_names, task_run_names}

-- how many children

pub within_possible : (facts : Facts) (place : ℕ) (bindings : List Binding) → Gives facts place bindings → length bindings ≤ possible_count facts.spec place
within_possible facts place bindings gives = elim (slice_get_cases (tasks_of facts.spec) place).1 [
  | inl found ↦ subst (λ (o : Option PipelineTask). length bindings ≤ option_map_or (possible_of facts.spec) o 0) (sym found.2) (gives_possible facts place found.0 bindings found.2 gives)
  | inr past ↦ absurd (omega (arith, past.0, gives_place facts place bindings gives, length-append facts.spec.tasks facts.spec.finally))
]

-- their names

pub count_has : (first n i : ℕ) → first ≤ i → i < first + n → Contains (range_with_len first n) i
count_has first zero i low high = absurd (omega arith)
count_has first (suc n) i low high = elim (eq-or-lt_of_le low) [
  | inl same ↦ (0, omega arith, same)
  | inr later ↦ Contains-append_right (first ∷ []) (range_with_len (first + 1) n) i (count_has (first + 1) n i (omega arith) (omega arith))
]

pub map_has : {X Y : Type 0} (f : X → Y) (xs : List X) (x : X) → Contains xs x → Contains (map f xs) (f x)
map_has f [] x has = absurd (omega (arith, has.1))
map_has f (a ∷ xs) x (zero, below, is) = (0, omega arith, ap f is)
map_has f (a ∷ xs) x (suc k, below, is) = Contains-append_right (f a ∷ []) (map f xs) (f x) (map_has f xs x (k, omega arith, is))

pub flat_has : {X Y : Type 0} (f : X → List Y) (xs : List X) (x : X) (y : Y) → Contains xs x → Contains (f x) y → Contains (flat_map f xs) y
flat_has f [] x y has inside = absurd (omega (arith, has.1))
flat_has f (a ∷ xs) x y (zero, below, is) inside = Contains-append_left (f a) (flat_map f xs) y (subst (λ p. Contains (f p) y) (sym is) inside)
flat_has f (a ∷ xs) x y (suc k, below, is) inside = Contains-append_right (f a) (flat_map f xs) y (flat_has f xs x y (k, omega arith, is) inside)

pub name_among : (run name : List ℕ) (count : Matrix → ℕ) (matrix : Option Matrix) (index : ℕ) → index < unwrap_or (option_map count matrix) 1 → Contains (child_names run name (option_map count matrix)) (child_name run name (option_map (λ (m : Matrix). index) matrix))
name_among run name count None index below = (0, omega arith, refl)
name_among run name count (Some m) index below = map_has (λ i. child_name run name (Some i)) (range_with_len 0 (count m)) index (count_has 0 (count m) index (omega arith) (omega arith))

pub child_named : (spec : RunSpec) (place index : ℕ) → place < length (tasks_of spec) → index < possible_count spec place → Contains (task_run_names (Run spec)) (child_name_of spec place index)
child_named spec place index within below = elim (slice_get_cases (tasks_of spec) place).1 [
  | inl found ↦ by_task found.0 found.2
  | inr past ↦ absurd (omega (arith, past.0))
]
  where
    by_task : (task : PipelineTask) → task_at spec place ≡ Some task → Contains (task_run_names (Run spec)) (child_name_of spec place index)
    by_task task at =
        let few : index < possible_of spec task = subst (λ (o : Option PipelineTask). index < option_map_or (possible_of spec) o 0) at below in
        subst (λ (o : Option PipelineTask). Contains (task_run_names (Run spec)) (option_map_or (λ (t : PipelineTask). child_name spec.name t.name (option_map (λ (m : Matrix). index) t.matrix)) o [])) (sym at)
        (flat_has (task_names spec) (tasks_of spec) task (child_name spec.name task.name (option_map (λ (m : Matrix). index) task.matrix)) (task_in (tasks_of spec) place task at)
        (name_among spec.name task.name (λ (m : Matrix). unwrap_or (settled_count spec task) most_combinations) task.matrix index few))
