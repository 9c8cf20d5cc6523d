use Rattle.std.proofs.Common.{◌≡◌, ◌++◌, ◌∙◌, List, [], ℕ, ap}
use Rattle.std.specs.Prelude.{flat_map}
use Rattle.tk_types.specs.declared.task.When.{When}
use Rattle.tk_graph.specs.Tasks.{guard_tasks, matrix_tasks, param_tasks}
use Rattle.tk_graph.proofs.ResultTasks.{parent_names-is}
use Rattle.tk_graph.proofs.above.parent_names.Goals as goal

pub returns : goal.returns
returns c =
    let task = c.args.task.now in
    let first : c.add_of_params.new.names ≡ [] ++ flat_map param_tasks task.params
    = c.in_ok-add_of_params.ensures ∙ ((λ i. c.new-names.ensures i ++ flat_map param_tasks (c.as_slice.ensures i))) in
    let second : c.add_of_matrix.new.names ≡ ([] ++ flat_map param_tasks task.params) ++ matrix_tasks task.matrix
    = c.in_ok-add_of_matrix.ensures ∙ ap (λ (ns : List (List ℕ)). ns ++ matrix_tasks task.matrix) first in
    let third : c.add_copies.new.names ≡ (([] ++ flat_map param_tasks task.params) ++ matrix_tasks task.matrix) ++ task.run_after
    = c.in_ok-add_copies.ensures ∙ (λ i. second i ++ c.as_slice-2.ensures i) in
    c.in_ok-add_of_guards.ensures ∙ (ap (λ (gs : List When). c.add_copies.new.names ++ flat_map guard_tasks gs) c.as_slice-3.ensures ∙ parent_names-is task c.add_copies.new.names third)
