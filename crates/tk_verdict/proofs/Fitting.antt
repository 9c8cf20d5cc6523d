-- What the rules give a task fits its body.
use Rattle.std.proofs.Common.{◌≡◌, ℕ, List, Bool, true, false, not, ◌||◌, map, Option, Some, None, refl, sym, ap, ◌∙◌}
use Rattle.std.specs.Prelude.{slice_get, option_map, is_none}
use Rattle.std.specs.List.{list_all}
use Rattle.std.specs.Option.{option_map_or}
use Rattle.std.proofs.lemmas.List.Folds.{list_all-map}
use Rattle.std.proofs.lemmas.Option.{same_Some}
use Rattle.tk_types.specs.declared.run.Facts.{Facts}
use Rattle.tk_types.specs.declared.task.PipelineTask.{PipelineTask}
use Rattle.tk_types.specs.declared.task.TaskBody.{TaskBody}
use Rattle.tk_types.specs.declared.value.Param.{Param}
use Rattle.tk_types.specs.declared.verdict.Binding.{Binding}
use Rattle.tk_bind.specs.declared.env.Env.{Env}
use Rattle.tk_bind.specs.Fits.{fits}
use Rattle.tk_verdict.specs.Bindings.{combinations_in, fits_at, guards_in}
use Rattle.tk_verdict.specs.Gives.{Gives, to_task, to_final, first_labels}
use Rattle.tk_verdict.specs.Labels.{labels_of, labelled_parents, bindings_in}
use Rattle.tk_verdict.specs.Words.{task_env, finally_env}
use Rattle.tk_verdict.proofs.Elements.{all_at}
use Rattle.tk_verdict.proofs.GoodStays.{task_in}
use Rattle.tk_verdict.proofs.GivenRight.{NoOwnRow, task_none, final_none}

abbrev as_binding : List Param → Binding
as_binding params = record { params = params }

abbrev fits_by : Facts → ℕ → Binding → Bool
fits_by facts place binding = fits_at facts place binding.params

not_second : (a b : Bool) → (a || not b) ≡ false → b ≡ true
not_second true b is = cc
not_second false true is = refl
not_second false false is = cc

by_combinations : (facts : Facts) (place : ℕ) (a : Bool) (combinations : Option (List (List Param))) (bindings : List Binding) → (a || not (option_map_or (list_all (fits_at facts place)) combinations false)) ≡ false → option_map (map as_binding) combinations ≡ Some bindings → list_all (fits_by facts place) bindings ≡ true
by_combinations facts place a None bindings whole is = cc
by_combinations facts place a (Some combinations) bindings whole is =
    ap (list_all (fits_by facts place)) (sym (same_Some (map as_binding combinations) bindings is)) ∙ (list_all-map (fits_by facts place) as_binding combinations ∙ not_second a (list_all (fits_at facts place) combinations) whole)

own_fit : (facts : Facts) (env : Env) (place : ℕ) (task : PipelineTask) (bindings : List Binding) → NoOwnRow facts env place task → bindings_in env task ≡ Some bindings → list_all (fits_by facts place) bindings ≡ true
own_fit facts env place task bindings row bound = by_combinations facts place (is_none (guards_in env task)) (combinations_in env task) bindings row.not_broken bound

all_fit : (facts : Facts) (place : ℕ) (bindings : List Binding) → Gives facts place bindings → list_all (fits_by facts place) bindings ≡ true
all_fit facts place bindings (to_task {task} g) = own_fit facts (task_env facts task) place task bindings (task_none facts (labelled_parents facts (labels_of facts) place) (task_env facts task) place task g.good g.no_row) g.bound
all_fit facts place bindings (to_final {task} g) = own_fit facts (finally_env facts (first_labels facts) task) place task bindings (final_none facts (finally_env facts (first_labels facts) task) place task g.no_row) g.bound

pub given_fits : (facts : Facts) (place : ℕ) (bindings : List Binding) → Gives facts place bindings → (index : ℕ) (binding : Binding) → slice_get bindings index ≡ Some binding → (body : TaskBody) → slice_get facts.spec.bodies place ≡ Some body → fits body binding.params ≡ true
given_fits facts place bindings gives index binding at body body_at =
    sym (ap (λ (o : Option TaskBody). option_map_or (λ b. fits b binding.params) o false) body_at) ∙ all_at (fits_by facts place) bindings binding (all_fit facts place bindings gives) (task_in bindings index binding at)
