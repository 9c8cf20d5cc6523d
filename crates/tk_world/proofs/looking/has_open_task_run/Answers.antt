use Rattle.std.proofs.Common.{◌<◌, ◌∙◌, ℕ, List, [], true, false, get_or, ap, sym, subst}
use Rattle.std.proofs.lemmas.Option.{slice_get-get_or}
use Rattle.tk_cache.specs.Views.{seen}
use Rattle.tk_world.specs.Looking.{is_open_task_run}
use Rattle.tk_world.proofs.Opens.{any_here, any_later, none_there}
use Rattle.tk_world.proofs.looking.has_open_task_run.Goals as goal

pub returns-then-is_none : goal.returns-then-is_none
returns-then-is_none c =
    let name = get_or ((seen c.args.cache.now).view.task_runs) c.loop-place.place [] in
    let there = slice_get-get_or ((seen c.args.cache.now).view.task_runs) c.loop-place.place [] (subst (λ (n : ℕ). c.loop-place.place < n) c.task_run_count-place-end.ensures c.loop-place-test.true) in
    sym (any_here (λ (name : List ℕ). is_open_task_run ((seen c.args.cache.now).view.task_run name)) ((seen c.args.cache.now).view.task_runs) c.loop-place.place name there (ap is_open_task_run (c.task_run_at.ensures name there) ∙ none_there c.task_run_at.result.now.closed c.is_none.result true c.is_none.ensures c.if-is_none.true)) ∙ c.loop-place.invariant

pub loop-place-preserved : goal.loop-place-preserved
loop-place-preserved c =
    let name = get_or ((seen c.args.cache.now).view.task_runs) c.loop-place.place [] in
    let there = slice_get-get_or ((seen c.args.cache.now).view.task_runs) c.loop-place.place [] (subst (λ (n : ℕ). c.loop-place.place < n) c.task_run_count-place-end.ensures c.loop-place-test.true) in
    any_later (λ (name : List ℕ). is_open_task_run ((seen c.args.cache.now).view.task_run name)) ((seen c.args.cache.now).view.task_runs) c.loop-place.place name there (ap is_open_task_run (c.task_run_at.ensures name there) ∙ none_there c.task_run_at.result.now.closed c.is_none.result false c.is_none.ensures c.if-is_none.false) ∙ c.loop-place.invariant
