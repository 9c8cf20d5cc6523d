-- No cycle is told exactly where the tasks can be ranked.
use Rattle.std.proofs.Common.{◌≡◌, ℕ, cond, List, [], ◌∷◌, map, Some, None, refl, sym, ap}
use Rattle.std.proofs.lemmas.Option.{none-some}
use Rattle.tk_types.specs.Lists.{is_empty}
use Rattle.tk_types.specs.declared.task.PipelineTask.{PipelineTask}
use Rattle.tk_graph.specs.Cycle.{left_of, cycle_of, cycle_names, name_at}
use Rattle.tk_graph.specs.Parents.{IsAcyclic}
use Rattle.tk_graph.proofs.TaskParents.{left_from_ranks, ranks_from_left}

empty_where : {X Y : Type 0} (left : List X) (names : Y) → cond (is_empty left) None (Some names) ≡ None → left ≡ []
empty_where [] names none = refl
empty_where (x ∷ xs) names none = absurd (none-some names (sym none))

module _ (tasks : List PipelineTask) where
  abbrev told : List (List ℕ)
  told = map (name_at tasks) (cycle_of tasks)

  pub none_where_ranks : IsAcyclic tasks → cycle_names tasks ≡ None
  none_where_ranks acyclic = ap (λ left. cond (is_empty left) None (Some told)) (left_from_ranks tasks acyclic)

  pub ranks_where_none : cycle_names tasks ≡ None → IsAcyclic tasks
  ranks_where_none none = ranks_from_left tasks (empty_where (left_of tasks) told none)
