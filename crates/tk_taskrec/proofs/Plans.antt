-- A plan in the steps in which the code makes it.
use Rattle.std.proofs.Common.{◌≡◌, ◌∷◌, ◌∙◌, ℕ, ◌+◌, List, [], length, map, Option, Some, refl, sym, ap}
use Rattle.std.specs.List.{enumerate_from}
use Rattle.std.specs.Option.{option_map_or}
use Rattle.std.proofs.lemmas.List.{length-map}
use Rattle.tk_types.specs.declared.task.Step.{Step}
use Rattle.tk_types.specs.Lists.{all_some}
use Rattle.tk_edge.specs.declared.order.Order.{Order}
use Rattle.tk_journal.specs.Plan.{Filled as FilledStep, order_of, script_file}
use Rattle.tk_taskrec.specs.Planned.{step_of, order_at, script_at}
use Rattle.tk_taskrec.specs.declared.texts.Filled.{Filled}
use Rattle.tk_taskrec.proofs.Gathered.{all_length}

pub orders_same : (pod folder : List ℕ) (place : ℕ) (steps : List Filled) → map (order_at pod folder) (enumerate_from place steps) ≡ map (order_of pod folder) (enumerate_from place (map step_of steps))
orders_same pod folder place [] = refl
orders_same pod folder place (step ∷ steps) = ap (λ (later : List Order). order_of pod folder (place, step_of step) ∷ later) (orders_same pod folder (place + 1) steps)

pub scripts_same : (steps : List Filled) → map script_at steps ≡ map (λ (step : FilledStep). option_map_or script_file step.script []) (map step_of steps)
scripts_same [] = refl
scripts_same (step ∷ steps) = ap (λ (later : List (List ℕ)). script_at step ∷ later) (scripts_same steps)

-- as many steps are substituted as there are
pub steps_few : (f : Step → Option FilledStep) (written : List Step) (steps : List Filled) → all_some (map f written) ≡ Some (map step_of steps) → length steps ≡ length written
steps_few f written steps is = sym (length-map steps step_of) ∙ (all_length (map f written) (map step_of steps) is ∙ length-map written f)
