-- The rules give a task at most as many children as it may have.
use Rattle.std.proofs.Common.{◌≡◌, ◌≤◌, ℕ, List, length, Bool, true, false, Option, Some, None, refl, ap, arith}
use Rattle.std.specs.Prelude.{slice_get, option_map, unwrap_or, if◌then◌else◌}
use Rattle.tk_types.specs.declared.run.Facts.{Facts}
use Rattle.tk_types.specs.declared.task.Matrix.{Matrix}
use Rattle.tk_types.specs.declared.task.PipelineTask.{PipelineTask}
use Rattle.tk_types.specs.declared.verdict.Binding.{Binding}
use Rattle.tk_types.specs.Limits.{most_combinations}
use Rattle.tk_bind.specs.Params.{matrix_in}
use Rattle.tk_matrix.specs.Task.{task_combination_count}
use Rattle.tk_early.specs.Possible.{possible_children, settled_count}
use Rattle.tk_early.specs.Settled.{is_settled}
use Rattle.tk_early.specs.Words.{first_env}
use Rattle.tk_verdict.specs.Facts.{all_tasks}
use Rattle.tk_verdict.specs.Gives.{Gives}
use Rattle.tk_verdict.proofs.GivenRight.{gives_within, gives_counted}

by_count : (settled : Bool) (known : Option (Option Matrix)) (n : ℕ) → n ≤ most_combinations → ((matrix : Option Matrix) → known ≡ Some matrix → n ≡ task_combination_count matrix) → n ≤ unwrap_or (option_map task_combination_count (if settled then known else None)) most_combinations
by_count false known n few counted = few
by_count true None n few counted = few
by_count true (Some matrix) n few counted = omega (arith, counted matrix refl)

within_task : (facts : Facts) (place : ℕ) (bindings : List Binding) (task : PipelineTask) → Gives facts place bindings → slice_get (all_tasks facts) place ≡ Some task → (own : Option Matrix) → task.matrix ≡ own → length bindings ≤ unwrap_or (option_map (λ (m : Matrix). unwrap_or (settled_count facts.spec task) most_combinations) own) 1
within_task facts place bindings task gives at None is =
    omega (arith, gives_counted facts place task bindings None at (ap (matrix_in (first_env facts.spec task)) is) gives)
within_task facts place bindings task gives at (Some m) is =
    by_count (is_settled task) (matrix_in (first_env facts.spec task) task.matrix) (length bindings) (gives_within facts place bindings gives) (λ matrix same. gives_counted facts place task bindings matrix at same gives)

pub gives_possible : (facts : Facts) (place : ℕ) (task : PipelineTask) (bindings : List Binding) → slice_get (all_tasks facts) place ≡ Some task → Gives facts place bindings → length bindings ≤ unwrap_or (possible_children facts.spec task) 1
gives_possible facts place task bindings at gives = within_task facts place bindings task gives at task.matrix refl
