use Rattle.std.proofs.Common.{◌≡◌, ℕ, List, Option, Some, sym, ap, ◌∙◌, subst}
use Rattle.std.specs.Prelude.{IfOk, option_and_then, slice_get}
use Rattle.tk_journal.specs.declared.act.Act.{Act}
use Rattle.tk_cache.specs.Views.{seen}
use Rattle.tk_taskrec.specs.Choice.{act_named, act_at, act_of}
use Rattle.tk_taskrec.proofs.choosing.at_place.Goals as goal

pub of_task_run-requires : goal.of_task_run-requires
of_task_run-requires c = record {
  fit = c.requires.fit c.task_run_name.result.now c.task_run_at.result.now (c.task_run_at.ensures c.task_run_name.result.now c.task_run_name.ensures);
}

pub returns : goal.returns
returns c =
    let view = (seen c.args.cache.now).view in
    let name = c.task_run_name.result.now in
    let there : view.task_run name ≡ Some c.task_run_at.result.now = c.task_run_at.ensures name c.task_run_name.ensures in
    let gives : option_and_then (act_named view) (slice_get view.task_runs c.args.place) ≡ act_of view name c.task_run_at.result.now =
    ap (λ (o : Option (List ℕ)). option_and_then (act_named view) o) c.task_run_name.ensures ∙ ap (act_at view name) there in
    subst (λ (chosen : Option Act). IfOk c.of_task_run.result (λ found. found ≡ chosen)) (sym gives) c.of_task_run.ensures
