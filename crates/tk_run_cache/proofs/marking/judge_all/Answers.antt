use Rattle.std.proofs.Common.{◌≡◌, ◌≤◌, List, ℕ, Some, length, ap, arith, subst}
use Rattle.std.specs.Prelude.{slice_get}
use Rattle.tk_cache.specs.Views.{Kept, seen}
use Rattle.tk_run_cache.proofs.Activity.{active_further, all_active}
use Rattle.tk_run_cache.proofs.marking.judge_all.Goals as goal

pub loop-place-preserved : goal.loop-place-preserved
loop-place-preserved c =
    let at = subst (λ (k : Kept). slice_get (seen k).view.runs c.loop-place.place ≡ Some c.run_name.result.now) c.cache-shown.ensures c.run_name.ensures in
    active_further (seen c.args.cache.now).view c.loop-place.place c.run_name.result.now c.loop-place.active c.judge.new.active at c.loop-place.invariant c.in_ok-judge.ensures

pub returns : goal.returns
returns c =
    let view = (seen c.args.cache.now).view in
    let same = ap (λ (k : Kept). length (seen k).view.runs) c.cache-shown.ensures in
    let reached : length view.runs ≤ c.loop-place.place = omega (arith, same, c.run_count-place-end.ensures, c.loop-place-test.false) in
    all_active view c.loop-place.place c.loop-place.active reached c.loop-place.invariant
