use Rattle.std.proofs.Common.{◌≤◌, length, arith}
use Rattle.tk_cache.specs.Views.{seen}
use Rattle.tk_task_cache.proofs.Queue.{all_queued, queued_further}
use Rattle.tk_task_cache.proofs.advance.judge_all.Goals as goal

pub loop-place-preserved : goal.loop-place-preserved
loop-place-preserved c =
    queued_further (seen c.args.cache.now).view c.loop-place.place c.task_run_name.result.now c.loop-place.queue c.judge.new.queue c.task_run_name.ensures c.loop-place.invariant c.in_ok-judge.ensures

pub returns : goal.returns
returns c =
    let view = (seen c.args.cache.now).view in
    let reached : length view.task_runs ≤ c.loop-place.place = omega (arith, c.task_run_count-place-end.ensures, c.loop-place-test.false) in
    all_queued view c.loop-place.place c.loop-place.queue reached c.loop-place.invariant
