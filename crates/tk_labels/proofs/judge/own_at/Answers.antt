use Rattle.std.proofs.Common.{◌≡◌, ◌<◌, ◌++◌, ◌∙◌, List, Some, [], ap, append-nil, get_or, length, subst, sym}
use Rattle.std.specs.Prelude.{Contains, ℕ, flat_map, slice_get}
use Rattle.std.proofs.lemmas.List.Elements.{All-contains_itself}
use Rattle.std.proofs.lemmas.Option.{same_Some, slice_get-get_or}
use Rattle.std.proofs.lemmas.Result.{IfOk-weaker}
use Rattle.tk_types.specs.declared.task.PipelineTask.{PipelineTask}
use Rattle.tk_types.specs.declared.value.Pair.{Pair}
use Rattle.tk_types.specs.declared.value.Param.{Param}
use Rattle.tk_graph.specs.Parents.{parents}
use Rattle.tk_graph.proofs.TaskParents.{parents_within}
use Rattle.tk_bind.specs.declared.env.Env.{Env}
use Rattle.tk_bind.specs.declared.env.Given.{Given}
use Rattle.tk_verdict.specs.Own.{own_in}
use Rattle.tk_verdict.specs.Readings.{ReadsTask}
use Rattle.tk_verdict.specs.Words.{task_env}
use Rattle.tk_verdict.proofs.Formed.{readable}
use Rattle.tk_verdict.proofs.Reading.{read_has}
use Rattle.tk_labels.specs.Kept.{of_run}
use Rattle.tk_labels.specs.Local.{parents_env, results_at}
use Rattle.tk_labels.proofs.judge.own_at.Goals as goal

pub results_of-requires : goal.results_of-requires
results_of-requires c k d lt =
    let p = get_or c.args.parents.now k d in
    (parents_within c.args.run.now.spec.tasks c.args.place p (subst (λ (ps : List ℕ). Contains ps p) c.requires.parents (All-contains_itself c.args.parents.now k d lt))).1

pub own_of-requires : goal.own_of-requires
own_of-requires c =
    let facts = of_run c.args.run.now c.args.kids.now in
    read_has ReadsTask c.as_slice.result.now c.args.run.now.spec.tasks c.args.place c.index-as_slice-place.result (readable facts c.requires.formed).tasks c.requires.exists c.as_slice.ensures c.index-as_slice-place.is

abbrev env_of : List Param → List Given → List Pair → Env
env_of params results words = record { params = params; results = results; words = words }

pub returns : goal.returns
returns c =
    let facts = of_run c.args.run.now c.args.kids.now in
    let spec = c.args.run.now.spec in
    let place = c.args.place in
    let one = c.index-as_slice-place.result in
    let within = subst (λ (ts : List PipelineTask). place < length ts) (sym c.as_slice.ensures) c.requires.exists in
    let there : slice_get spec.tasks place ≡ Some one
    = subst (λ (ts : List PipelineTask). slice_get ts place ≡ Some one) c.as_slice.ensures (slice_get-get_or c.as_slice.result.now place one within ∙ ap Some (sym c.index-as_slice-place.is)) in
    let words = c.as_slice-4.result.now in
    let look : c.new-lookup.result ≡ parents_env facts place one
    = c.new-lookup.ensures
    ∙ (ap (λ (e : Env). env_of e.params e.results (words ++ e.words)) c.in_ok-index.ensures
    ∙ (ap (λ (ps : List Param). env_of ps c.as_slice-3.result.now (words ++ [])) c.as_slice-2.ensures
    ∙ (ap (λ (gs : List Given). env_of spec.params gs (words ++ [])) (c.as_slice-3.ensures ∙ (c.in_ok-results.ensures ∙ ap (flat_map (results_at facts)) c.requires.parents))
    ∙ ap (env_of spec.params (flat_map (results_at facts) (parents spec.tasks place))) (append-nil words ∙ (c.as_slice-4.ensures ∙ c.in_ok-words.ensures))))) in
    IfOk-weaker c.own_of.result _ _
    (λ own is task at. is ∙ (ap (λ (e : Env). own_in e one) look ∙ (c.parents_suffice.ensures facts place one c.requires.formed there
    ∙ ap (λ (t : PipelineTask). own_in (task_env facts t) t) (same_Some one task (sym there ∙ at)))))
    c.own_of.ensures
