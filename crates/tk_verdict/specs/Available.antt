-- Which results of a run have values (Tekton, Pipelines, Using Results).
use Rattle.std.specs.Prelude.{ℕ, if◌then◌else◌, nat_le, List, [], ◌∷◌, map, Option, Some, None, filter_map, flat_map, is_some, option_map, option_and_then, take}
use Rattle.std.specs.List.{enumerate_from}
use Rattle.tk_types.specs.declared.value.Param.{Param}
use Rattle.tk_types.specs.declared.value.Value.{Value}
use Rattle.tk_types.specs.declared.value.Value.TheVariants.{Arr}
use Rattle.tk_types.specs.declared.task.PipelineTask.{PipelineTask}
use Rattle.tk_types.specs.declared.run.Facts.{Facts}
use Rattle.tk_types.specs.declared.run.Child.{Child}
use Rattle.tk_types.specs.declared.run.Outcome.{Outcome}
use Rattle.tk_types.specs.declared.run.Outcome.TheVariants.{Succeeded, Failed}
use Rattle.tk_types.specs.Lists.{all_some}
use Rattle.tk_types.specs.Value.{value_named}
use Rattle.tk_bind.specs.declared.env.Given.{Given}
use Rattle.tk_bind.specs.Substitute.{as_text}
use Rattle.tk_verdict.specs.Facts.{all_tasks, children_of, all_ended, is_good}

-- the results that an outcome carries, and that a child emitted
abbrev pub carried : Outcome → List Param
carried (Succeeded results) = results
carried (Failed exit results) = results
carried _ = []

abbrev pub emitted : Child → List Param
emitted child = elim child.outcome [ None ↦ [] | Some outcome ↦ carried outcome ]

-- the children in order of index
abbrev pub with_child : Child → List Child → List Child
with_child child [] = child ∷ []
with_child child (c ∷ cs) = if nat_le child.index c.index then child ∷ c ∷ cs else c ∷ with_child child cs

abbrev pub by_index : List Child → List Child
by_index [] = []
by_index (c ∷ cs) = with_child c (by_index cs)

-- the text that each child emitted under the name, by index
abbrev pub emitted_texts : List ℕ → List Child → Option (List (List ℕ))
emitted_texts name children = all_some (map (λ c. option_and_then as_text (value_named name (emitted c))) (by_index children))

-- the value of a result of a task with these children: each must be good, and of a matrix each must have emitted a text
abbrev pub available : PipelineTask → List Child → List ℕ → Option Value
available task children name =
    if all_ended (is_good task) children then (if is_some task.matrix then option_map Arr (emitted_texts name children) else value_named name (flat_map emitted (by_index children))) else None

-- what may be available of a task with these children, by index: of a matrix what its first child emitted, since each must have
abbrev pub candidates : PipelineTask → List Child → List Param
candidates task children = if is_some task.matrix then flat_map emitted (take 1 children) else flat_map emitted children

-- the available results of a task, and of all tasks
abbrev pub available_of : Facts → ℕ × PipelineTask → List Given
available_of facts (place, task) =
    let children = children_of facts place in
    filter_map (λ (p : Param). option_map (λ value. record { task = task.name; name = p.name; value = value }) (available task children p.name))
    (candidates task (by_index children))

abbrev pub available_results : Facts → List Given
available_results facts = flat_map (available_of facts) (enumerate_from 0 (all_tasks facts))
