use Rattle.std.proofs.Common.{◌≤◌, ◌<◌, length, sym, arith}
use Rattle.tk_cache.specs.Views.{seen}
use Rattle.tk_taskrec.proofs.Queued.{none_chosen, none_queued, none_within, found_queued, none_further}
use Rattle.tk_taskrec.proofs.choosing.first_queued.Goals as goal

pub returns-in_default : goal.returns-in_default
returns-in_default c = sym (none_queued (seen c.args.cache.now).view c.args.queue.now c.requires.queued c.loop-from.from c.loop-from.invariant c.in_default.ensures)

pub returns-then-end-place : goal.returns-then-end-place
returns-then-end-place c =
    let view = (seen c.args.cache.now).view in
    let past : length view.task_runs ≤ c.in-Some.place = omega (arith, c.task_run_count-end.ensures, c.if-end-place.true) in
    sym (none_within view c.args.queue.now c.requires.queued c.loop-from.from c.loop-from.invariant c.in-Some.place c.in-Some.ensures past)

pub returns-then-is_some : goal.returns-then-is_some
returns-then-is_some c =
    let view = (seen c.args.cache.now).view in
    let within : c.in-Some.place < length view.task_runs = omega (arith, c.task_run_count-end.ensures, c.if-end-place.false) in
    found_queued view c.args.queue.now c.requires.queued c.loop-from.from c.loop-from.invariant c.in-Some.place c.in-Some.ensures c.in_ok-found.found c.if-is_some.ensures within c.in_ok-found.ensures

pub loop-from-preserved : goal.loop-from-preserved
loop-from-preserved c =
    none_further (seen c.args.cache.now).view c.args.queue.now c.requires.queued c.loop-from.from c.loop-from.invariant c.in-Some.place c.in-Some.ensures c.in_ok-found.found c.if-is_some.ensures c.in_ok-found.ensures

pub returns : goal.returns
returns c =
    let view = (seen c.args.cache.now).view in
    let past : length view.task_runs ≤ c.loop-from.from = omega (arith, c.task_run_count-end.ensures, c.loop-from-test.false) in
    sym (none_chosen view c.loop-from.from past c.loop-from.invariant)
